-- `plan::is_above`: what is left of the path tells what the whole path tells.
use Rattle.plan.specs.Private.{path_at}
use Rattle.plan.proofs.Paths.{height, Climbing}
use Rattle.plan.proofs.is_above.Given as goal

abbrev pub invariant-loop-at : goal.invariant-loop-at
invariant-loop-at l = Climbing l.plan l.row (path_at l.plan l.index) l.at

abbrev pub decreases-loop-at : goal.decreases-loop-at
decreases-loop-at l = height l.at
