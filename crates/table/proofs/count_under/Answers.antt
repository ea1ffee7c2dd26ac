-- `table::count_under`: what was counted for a row, with the rest's count, is that of all rows.
use Prim.Native.Nat.{◌<◌}
use native.Mathlib.Omega.{arith}
use mathlib.Core.Path.{◌≡◌, refl, ap, sym, ◌∙◌}
use mathlib.Core.Bool.{Bool, true, ◌&&◌}
use lib.Dec.{ltb}
use lib.ListN.{length}
use Rattle.table.specs.Table.{rows_at}
use Rattle.table.specs.Counts.{is_counted, counts_under}
use Rattle.table.proofs.Counts.{counted_few, both, counting_one, counting_other, counting_ended}
use Rattle.table.proofs.count_under.Goals as goal
use Rattle.table.proofs.count_under.Goals.{After-is_counted, Then-is_counted-parent, then-is_counted-parent, else-is_counted-parent}

-- the test, of the row in turn
tested : (c : After-is_counted) {b : Bool} → (c.is_counted.result && ltb c.row_at-row.result.parent (length c.loop-i.counts)) ≡ b
    → (is_counted c.args.which c.row_at-row.result && ltb c.row_at-row.result.parent (length c.loop-i.counts)) ≡ b
tested c e = ap (λ t. t && ltb c.row_at-row.result.parent (length c.loop-i.counts)) (sym c.is_counted.ensures) ∙ e

inside : (c : Then-is_counted-parent) → (is_counted c.args.which c.row_at-row.result ≡ true) × (c.row_at-row.result.parent < length c.loop-i.counts)
inside c = both c.args.which (length c.loop-i.counts) c.row_at-row.result (tested (goal.at.Then-is_counted-parent c).After-is_counted c.if-is_counted-parent.true)

pub overflow_add-counts : goal.overflow_add-counts
overflow_add-counts c =
    let p = c.row_at-row.result.parent in
    omega (arith, c.loop-i.invariant p (inside (goal.at.overflow_add-counts c).Then-is_counted-parent).1, counted_few c.args.which c.args.numbers.now 0 c.min-n.result p)

pub loop-i-preserved : goal.loop-i-preserved
loop-i-preserved c =
    let l = c.loop-i in
    let seen = (goal.at.loop-i-preserved c).After-is_counted in
    elim c.if-is_counted-parent.branch [
      | then-is_counted-parent w ↦
          let b = both c.args.which _ c.row_at-row.result (tested seen w.if-is_counted-parent.true) in
          rw w.counts-is (counting_one _ _ _ l.counts _ c.loop-i-test.true c.row_at-row.ensures l.invariant b.0 b.1 _ refl)
      | else-is_counted-parent w ↦
          rw w.counts-is (counting_other _ _ _ l.counts _ c.loop-i-test.true c.row_at-row.ensures l.invariant (tested seen w.if-is_counted-parent.false))
    ]

pub returns : goal.returns
returns c =
    let l = c.loop-i in
    let a = c.args in
    counting_ended _ _ _ l.counts _ c.loop-i-test.false l.invariant
    ∙ ap (counts_under a.which (rows_at a.numbers.now 0 c.min-n.result)) (l.auto.counts ∙ c.fill.ensures.len)
    ∙ ap (λ k. counts_under a.which (rows_at a.numbers.now 0 k) (length a.counts.now)) c.min-n.ensures
