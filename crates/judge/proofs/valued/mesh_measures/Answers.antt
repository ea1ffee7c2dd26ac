-- `judge::valued::mesh_measures`: a product of two numbers of 32 bits does not wrap.
use Rattle.props.proofs.Cases.{product_fits}
use Rattle.judge.specs.ByLine.{beside_by_line}
use Rattle.std.proofs.Common.{rules}
use Rattle.judge.proofs.valued.mesh_measures.Goals as goal

pub overflow_mul-weights : goal.overflow_mul-weights
overflow_mul-weights c = product_fits (search rules) (search rules)

pub returns : goal.returns
unfolding beside_by_line
returns c =
    rw (c.none.ensures, c.read-vertices.ensures.length, c.read.ensures.value)
