-- `plan::check_rows`: what the rest gives is what all rows give, and the path is climbed from where the code says.
use Rattle.std.proofs.Common.{◌≡◌}
use Rattle.table.specs.Table.{rows_at}
use Rattle.plan.specs.Plan.{plan_refusal}
use Rattle.plan.specs.Private.{path_at, Climbs}
use Rattle.plan.proofs.Judging.{judged_at}
use Rattle.plan.proofs.check_rows.Given as goal

abbrev pub invariant-loop-i : goal.invariant-loop-i
invariant-loop-i l =
    Climbs l.plan l.i l.from (path_at l.plan l.i) × (judged_at l.source l.plan l.rows l.i ≡ plan_refusal l.source (rows_at l.plan 0 l.rows))
