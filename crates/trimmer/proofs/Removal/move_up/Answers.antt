-- `trimmer::Removal::move_up`: with the rest of the rows, what was put so far is what all of them give.
use native.Mathlib.Omega.{arith}
use mathlib.Core.Path.{ap, ◌∙◌}
use Rattle.table.specs.Table.{with_row}
use Rattle.removal.specs.Trimmer.{mended}
use Rattle.trimmer.proofs.Loops.{moving_past, moving_row, moving_ended}
use Rattle.trimmer.proofs.Removal.move_up.Goals as goal
use Rattle.trimmer.proofs.Removal.move_up.Goals.{then-i-self, else-i-self}

pub loop-i-preserved : goal.loop-i-preserved
loop-i-preserved c =
    let l = c.loop-i in
    let h = c.loop-i-test.true in
    elim c.if-i-self.branch [
      | then-i-self w ↦
          let put = w.table-is ∙ w.put_row.ensures ∙ ap (with_row l.table l.to) (w.mended.ensures ∙ ap (mended _ _ l.i) w.row_at-row.ensures) in
          (omega (arith, w.to-is, l.invariant.0), rw w.to-is (moving_row _ _ _ _ l.table l.to l.i l.invariant.1 h w.if-i-self.true l.invariant.0 _ put))
      | else-i-self w ↦
          (omega (arith, w.to-is, l.invariant.0), rw (w.table-is, w.to-is) (moving_past _ _ _ _ l.table l.to l.i l.invariant.1 h w.if-i-self.false))
    ]

pub returns : goal.returns
returns c = let l = c.loop-i in moving_ended _ _ _ _ l.table l.to l.i l.invariant.1 c.loop-i-test.false
