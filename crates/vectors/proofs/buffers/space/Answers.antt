-- `vectors::buffers::space`: the seed, repeated.
use mathlib.Core.Path.{refl}
use Rattle.vectors.specs.Buffers.{space}
use Rattle.vectors.proofs.buffers.space.Goals as goal

pub returns : goal.returns
unfolding space
returns c = refl
