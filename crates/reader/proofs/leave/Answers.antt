-- `reader::leave`: what is cleared starts after the rows that are kept, which are none on a refusal.
use native.Mathlib.Omega.{arith}
use mathlib.Core.Path.{ap, sym, ◌∙◌}
use Rattle.table.specs.Table.{cleared_from}
use Rattle.table.proofs.ClearingFrom.{cleared_from_none}
use Rattle.reader.specs.Reading.{reading_told}
use Rattle.reader.specs.Private.{left_after}
use Rattle.reader.proofs.leave.Goals as goal
use Rattle.reader.proofs.leave.Goals.{in-Ok, in-Err}

pub returns-clause-table : goal.returns-clause-table
returns-clause-table c =
    let a = c.args in
    let t = a.table.now in
    elim c.match-r.branch [
      | in-Ok w ↦
          c.clear_from.ensures ∙ ap (λ k. cleared_from k t) (omega (arith, w.kept-is))
          ∙ ap (λ r. left_after (reading_told r) a.nodes t) (sym w.in-Ok.is)
      | in-Err w ↦
          c.clear_from.ensures ∙ ap (λ k. cleared_from k t) (omega (arith, w.kept-is)) ∙ cleared_from_none t
          ∙ ap (λ r. left_after (reading_told r) a.nodes t) (sym w.in-Err.is)
    ]
