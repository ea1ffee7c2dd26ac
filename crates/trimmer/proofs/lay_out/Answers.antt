-- `trimmer::lay_out`: with the rest of the rows, what was put so far is what all of them give.
use native.Mathlib.Omega.{arith}
use mathlib.Core.Path.{ap, ◌∙◌}
use Rattle.table.specs.declared.Row.{Row}
use Rattle.table.specs.Table.{row_at, with_row}
use Rattle.writer.specs.Forest.{moved_to}
use Rattle.trimmer.proofs.Loops.{laying_row, laying_ended, place_next, places_next}
use Rattle.trimmer.proofs.lay_out.Goals as goal

pub moved-row-requires : goal.moved-row-requires
moved-row-requires c =
    let l = c.loop-i in
    rw c.row_at.ensures (place_next l.table _ l.at l.i c.loop-i-test.true l.invariant.0)

pub loop-i-preserved : goal.loop-i-preserved
loop-i-preserved c =
    let l = c.loop-i in
    let h = c.loop-i-test.true in
    let row = c.moved-row.ensures ∙ ap (moved_to l.at) c.row_at.ensures in
    let put = c.put_row.ensures ∙ ap (with_row l.table l.i) row in
    let end = ap (λ (x : Row). x.end) row in (
      rw (put, end) (omega (arith, places_next l.table _ l.at l.i (moved_to l.at (row_at l.table l.i)) h, l.invariant.0)),
      rw end (laying_row _ _ l.table l.at l.i l.invariant.1 h _ put),
    )

pub returns : goal.returns
returns c = let l = c.loop-i in laying_ended _ _ l.table l.at l.i l.invariant.1 c.loop-i-test.false
