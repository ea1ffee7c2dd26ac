-- `judge::valued::curve_measures`: the length of kb, and the types that kp wants.
use Rattle.judge.specs.ByLine.{beside_by_line}
use Rattle.judge.proofs.valued.curve_measures.Goals as goal

pub returns : goal.returns
unfolding beside_by_line
returns c = rw (c.none.ensures, c.read.ensures.length, c.types_of.ensures)
