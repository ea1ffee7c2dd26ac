-- `plan::is_above`: what is left of the path tells what the whole path tells.
use native.Mathlib.Omega.{arith}
use mathlib.Core.Path.{refl}
use Rattle.plan.specs.Private.{path_at}
use Rattle.plan.proofs.Paths.{climbing_small, climbing_found, climbing_next, climbing_ended}
use Rattle.plan.proofs.is_above.Goals as goal

pub loop-at-init : goal.loop-at-init
loop-at-init c =
    record { left = path_at c.args.plan.now c.args.index; climbs = c.requires; same = refl }

pub returns-then-at-row : goal.returns-then-at-row
returns-then-at-row c =
    climbing_found _ _ _ _ c.loop-at.invariant c.loop-at-test.true c.if-at-row.true

pub overflow_cast-at : goal.overflow_cast-at
overflow_cast-at c = omega (arith, climbing_small _ _ _ _ c.loop-at.invariant)

pub loop-at-smaller : goal.loop-at-smaller
loop-at-smaller c =
    (climbing_next _ _ _ _ c.row_at-r.ensures c.loop-at.invariant c.loop-at-test.true c.if-at-row.false).0

pub loop-at-preserved : goal.loop-at-preserved
loop-at-preserved c =
    (climbing_next _ _ _ _ c.row_at-r.ensures c.loop-at.invariant c.loop-at-test.true c.if-at-row.false).1

pub returns : goal.returns
returns c = climbing_ended _ _ _ _ c.loop-at.invariant c.loop-at-test.false
