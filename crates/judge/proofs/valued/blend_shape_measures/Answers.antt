-- `judge::valued::blend_shape_measures`: the length of vi.
use Rattle.judge.specs.ByLine.{beside_by_line}
use Rattle.judge.proofs.valued.blend_shape_measures.Goals as goal

pub returns : goal.returns
unfolding beside_by_line
returns c = rw (c.none.ensures, c.read.ensures.length)
