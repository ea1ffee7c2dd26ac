-- `plan::check_rows`: what the rest gives is what all rows give, and the path is climbed from where the code says.
use Rattle.std.proofs.Common.{◌≡◌, refl, sym, ◌∙◌, arith}
use Rattle.table.specs.Table.{no_parent, rows_at}
use Rattle.base.proofs.Refusals.{numbered}
use Rattle.plan.specs.Plan.{naming}
use Rattle.plan.specs.Private.{path_at}
use Rattle.plan.proofs.Paths.{climbs_below, path_known, path_unknown}
use Rattle.plan.proofs.Judging.{right, judging_begun, judging_refused, judging_passed, judging_ended}
use Rattle.plan.proofs.check_rows.Goals as goal
use Rattle.plan.proofs.check_rows.Goals.{After-check_row, then-known, else-known}

pub loop-i-init : goal.loop-i-init
unfolding path_at
loop-i-init c = (refl, judging_begun _ _ _)

pub check_row-requires : goal.check_row-requires
check_row-requires c =
    let t = c.args.plan.now in
    let i = c.loop-i.i in
    (climbs_below t i no_parent c.loop-i.from (path_at t i) (omega arith) c.loop-i.invariant.0, c.known-known.ensures)

-- the rows that name the row in turn were counted
named : (c : After-check_row) → c.count_at-naming.result ≡ naming (rows_at c.args.plan.now 0 c.args.rows) c.loop-i.i
named c = c.count_at-naming.ensures ∙ c.requires.2 _ (omega arith)

pub returns-in-Err : goal.returns-in-Err
returns-in-Err c =
    let turn = (goal.at.returns-in-Err c).After-check_row in
    let number = rw c.in-Err.is at c.check_row.ensures in
    let says = judging_refused _ _ _ _ c.loop-i-test.true c.row_at-row.ensures (named turn) number (numbered c.in-Err.why) in
    rw c.at.ensures (sym says ∙ c.loop-i.invariant.1, omega arith)

pub loop-i-preserved : goal.loop-i-preserved
loop-i-preserved c =
    let turn = (goal.at.loop-i-preserved c).After-check_row in
    let l = c.loop-i.invariant in
    let none = rw c.in_default.is at c.check_row.ensures in
    let ok = right _ _ _ _ (sym none) in (
      elim c.if-known.branch [
        | then-known w ↦ rw w.from-is (path_known _ _ _ (omega arith) c.row_at-row.ensures ok l.0 (sym c.known-known.ensures ∙ w.if-known.true))
        | else-known w ↦ rw w.from-is (path_unknown _ _ _ (omega arith) c.row_at-row.ensures ok l.0 (sym c.known-known.ensures ∙ w.if-known.false))
      ],
      sym (judging_passed _ _ _ _ c.loop-i-test.true c.row_at-row.ensures (named turn) none refl) ∙ l.1,
    )

pub returns : goal.returns
returns c = (sym (judging_ended _ _ _ _ c.loop-i-test.false) ∙ c.loop-i.invariant.1, omega arith)
