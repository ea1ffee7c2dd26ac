-- `emit::measure`: the numbers tell the sizes so far, and the length is that of the rows passed.
use Rattle.std.proofs.Common.{◌≡◌, ℕ, ◌+◌, ◌-◌, ◌≤◌, List, arith, sym, ◌∙◌, ap}
use Rattle.emit.specs.Emission.{roots}
use Rattle.table.specs.Table.{rows_at}
use Rattle.table.proofs.Rests.{rest, rest_first}
use Rattle.emit.proofs.Sizes.{owns, length_nodes_bytes}
use Rattle.emit.proofs.Measuring.{Measuring, Turn, measuring_begun, owns_begun, roots_begun, measuring_ended, rest_over, owns_more, root_more, root_other, size_fits, sum_fits, measuring_top, measuring_under}
use Rattle.emit.proofs.measure.Goals as goal
use Rattle.emit.proofs.measure.Goals.{After-own-own, Joined-parent-i, then-parent-i, else-parent-i}

pub loop-i-init : goal.loop-i-init
loop-i-init c =
    let a = c.args in
    let t = a.plan.now in
    let n = a.rows in (
      measuring_begun a.source.now t n a.sizes.now c.requires.2,
      omega (arith, owns_begun a.source.now t n),
      omega arith,
      sym (roots_begun t n),
      omega arith,
    )

-- at a row
module _ (c : After-own-own) where
  abbrev source : List ℕ
  source = c.args.source.now

  abbrev plan : List ℕ
  plan = c.args.plan.now

  abbrev rows : ℕ
  rows = c.args.rows

  abbrev j : ℕ
  j = c.loop-i.i - 1

  known : Turn source plan rows c.loop-i.sizes c.loop-i.i j c.row_at-row.result c.own-own.result
  known = record {
    next = omega arith;
    here = omega arith;
    inside = omega arith;
    passed = c.loop-i.invariant.0;
    row = c.row_at-row.ensures;
    bytes = c.own-own.ensures.0;
  }

  owned : c.loop-i.length + c.own-own.result ≡ 16 + owns source (rest plan rows j)
  owned = omega (arith, owns_more known)

pub returns-then-length-gt-MOST_BYTES : goal.returns-then-length-gt-MOST_BYTES
returns-then-length-gt-MOST_BYTES c =
    let o = (goal.at.returns-then-length-gt-MOST_BYTES c).After-own-own in
    rest_over (source o) (plan o) (rows o) (j o) (omega (arith, (known o).here)) (omega (arith, owned o))

pub overflow_add-size : goal.overflow_add-size
overflow_add-size c =
    let o = (goal.at.overflow_add-size c).After-own-own in
    omega (arith, size_fits (known o), owned o)

pub overflow_add-sizes : goal.overflow_add-sizes
overflow_add-sizes c =
    let o = (goal.at.overflow_add-sizes c).After-own-own in
    omega (arith, sum_fits (known o) c.if-parent-i.true, owned o)

-- at a row whose size is put
module _ (c : Joined-parent-i) where
  abbrev at_row : After-own-own
  at_row = (goal.at.Joined-parent-i c).After-own-own

  passed : Measuring c.if-parent-i.sizes (source at_row) (plan at_row) (rows at_row) (j at_row)
  passed =
      let k = known at_row in
      elim c.if-parent-i.branch [
        | then-parent-i w ↦ measuring_under k w.if-parent-i.true w.sizes-is
        | else-parent-i w ↦ measuring_top k (λ b. omega (arith, b, w.if-parent-i.false)) w.sizes-is
      ]

  -- the loop goes on, with the root count that the row gives
  goes_on : (count : ℕ) → count ≡ roots (rest (plan at_row) (rows at_row) (j at_row)) → count ≤ c.loop-i.roots + 1
      → Measuring c.if-parent-i.sizes (source at_row) (plan at_row) (rows at_row) (j at_row)
      × (c.loop-i.length + c.own-own.result ≡ 16 + owns (source at_row) (rest (plan at_row) (rows at_row) (j at_row)))
      × (c.loop-i.length + c.own-own.result ≤ 16777216)
      × (count ≡ roots (rest (plan at_row) (rows at_row) (j at_row)))
      × (count ≤ rows at_row - j at_row)
  goes_on count e most = (passed, owned at_row, omega arith, e, omega arith)

pub loop-i-preserved-then-row-eq-ROOT : goal.loop-i-preserved-then-row-eq-ROOT
loop-i-preserved-then-row-eq-ROOT c =
    let p = (goal.at.loop-i-preserved-then-row-eq-ROOT c).Joined-parent-i in
    goes_on p (c.loop-i.roots + 1) (omega (arith, root_more (known (at_row p)) c.if-row-eq-ROOT.true)) (omega arith)

pub loop-i-preserved : goal.loop-i-preserved
loop-i-preserved c =
    let p = (goal.at.loop-i-preserved c).Joined-parent-i in
    goes_on p c.loop-i.roots (c.loop-i.invariant.3 ∙ sym (root_other (known (at_row p)) c.if-row-eq-ROOT.false)) (omega arith)

pub returns : goal.returns
returns c =
    let l = c.loop-i in
    let a = c.args in
    let s = a.source.now in
    let t = a.plan.now in
    let n = a.rows in
    let all = rest_first t n l.i c.loop-i-test.false in (
      omega (arith, ap (owns s) all, length_nodes_bytes s 0 (rows_at t 0 n)),
      l.invariant.2,
      l.invariant.3 ∙ ap roots all,
      measuring_ended s t n l.sizes l.i c.loop-i-test.false l.invariant.0,
    )
