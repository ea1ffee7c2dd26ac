-- `vectors::buffers::taking`: the definition's numbers.
use mathlib.Core.Path.{refl}
use Rattle.vectors.specs.Buffers.{taking}
use Rattle.vectors.proofs.buffers.taking.Goals as goal

pub returns : goal.returns
unfolding taking
returns c = refl
