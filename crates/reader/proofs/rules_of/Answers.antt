-- `reader::rules_of`: what was counted, on top of what the rest gives, is what all rows give.
use Prim.Native.Nat.{ℕ, ◌+◌, ◌-◌, ◌≤◌, ◌<◌}
use Rattle.std.proofs.Common.{rules}
use native.Mathlib.Omega.{arith}
use mathlib.Core.Path.{◌≡◌, refl, sym, ap, ◌∙◌, subst}
use mathlib.Core.Logic.{⊎_elim}
use mathlib.Core.Bool.{true}
use lib.ListN.{length, get_or}
use Rattle.kinds.specs.Kinds.{is_known}
use Rattle.table.specs.Table.{row_at, rows_at}
use Rattle.judge.specs.Judge.{Bounded}
use Rattle.format.specs.Rows.{body_of}
use Rattle.reader.specs.Reading.{Ruled}
use Rattle.reader.specs.Reading.{bones_under, ruled, own_unknown}
use Rattle.links.specs.Links.{linked_told}
use Rattle.links.specs.Private.{Count, rows_linked}
use Rattle.reader.specs.Private.{LinkedOn, continued, target_count, judged_of}
use Rattle.table.proofs.Rests.{rest}
use Rattle.reader.proofs.Loops.{on_top, rules_refused, rules_passed, rules_ended}
use Rattle.reader.proofs.Linking.{links_ended, links_linked, links_kept}
use Rattle.reader.proofs.Bare.{judged_is_known, unknown_none, unknown_ended, rules_skipped, links_skipped}
use Rattle.base.proofs.Refusals.{numbered}
use Rattle.reader.proofs.Told.{mapped_ok, mapped_err}
use Rattle.std.proofs.lemmas.Result.{err_from_is_err_and, IfOk-at_ok}
use Rattle.reader.proofs.rules_of.Goals as goal
use Rattle.reader.proofs.rules_of.Goals.{After-row_at-row, After-skip-next}

-- after the rows that are passed over: the loop and the start, and what is known of the rest
module _ (k : After-skip-next) where
  abbrev i : ℕ
  i = k.skip-next.result.row

  abbrev counted : Count
  counted = target_count k.args.targets

  rules_here : let a = k.args.walked in let rows = rows_at a.table.now 0 a.nodes in
      on_top k.loop-from.faces k.loop-from.degenerate k.loop-from.links (ruled a.file.now rows (rest a.table.now a.nodes i)) ≡ ruled a.file.now rows rows
  rules_here =
      let a = k.args.walked in
      rules_skipped a.file.now a.table.now a.nodes k.skip-next.ensures k.loop-from.faces k.loop-from.degenerate k.loop-from.links ∙ k.loop-from.invariant.4

  links_here : let a = k.args.walked in
      continued counted a.file.now (linked_told k.loop-from.linked) (rest a.table.now a.nodes i) ≡ rows_linked counted a.file.now 0 (rows_at a.table.now 0 a.nodes)
  links_here =
      let a = k.args.walked in
      links_skipped a.file.now a.table.now a.nodes k.skip-next.ensures counted (linked_told k.loop-from.linked) ∙ k.loop-from.invariant.6

  bytes_here : let a = k.args.walked in
      k.skip-next.result.unknown + own_unknown (rest a.table.now a.nodes i) ≡ own_unknown (rows_at a.table.now 0 a.nodes)
  bytes_here = k.skip-next.ensures.bytes ∙ k.loop-from.invariant.10

pub returns-then-walked-i-clause-result : goal.returns-then-walked-i-clause-result
returns-then-walked-i-clause-result c =
    let k = (goal.at.returns-then-walked-i-clause-result c).After-skip-next in
    let a = c.args.walked in
    let l = c.loop-from in
    sym (rules_ended a.file.now a.table.now a.nodes l.faces l.degenerate l.links (i k) c.if-walked-i.true) ∙ rules_here k

pub returns-then-walked-i-clause-links : goal.returns-then-walked-i-clause-links
returns-then-walked-i-clause-links c =
    let k = (goal.at.returns-then-walked-i-clause-links c).After-skip-next in
    let a = c.args.walked in
    sym (links_ended (counted k) a.file.now a.table.now a.nodes (i k) (linked_told c.loop-from.linked) c.if-walked-i.true) ∙ links_here k

pub returns-then-walked-i-clause-unknown : goal.returns-then-walked-i-clause-unknown
returns-then-walked-i-clause-unknown c =
    let k = (goal.at.returns-then-walked-i-clause-unknown c).After-skip-next in
    unknown_ended c.args.walked.table.now c.args.walked.nodes (i k) c.if-walked-i.true ∙ bytes_here k

-- where a row is judged
module _ (m : After-row_at-row) where
  here : m.skip-next.result.row < m.args.walked.nodes
  here = omega (arith, m.if-walked-i.false)

  few : m.skip-next.result.row < 1024
  few = omega (arith, here, m.args.walked.few)

  known : is_known m.row_at-row.result.kind ≡ true
  known =
      ap (λ r. is_known r.kind) m.row_at-row.ensures
      ∙ judged_is_known (row_at m.args.walked.table.now m.skip-next.result.row) (m.skip-next.ensures.judged here)

  beside_counted : get_or m.args.counts.now m.row_at-row.result.parent 0 ≡ bones_under (rows_at m.args.walked.table.now 0 m.args.walked.nodes) m.row_at-row.result.parent
  beside_counted = m.requires _

pub returns-in_err-r-clause-result : goal.returns-in_err-r-clause-result
returns-in_err-r-clause-result c =
    let m = (goal.at.returns-in_err-r-clause-result c).After-row_at-row in
    let k = (goal.at.returns-in_err-r-clause-result c).After-skip-next in
    let from = mapped_err _ c.judge_row.result c.in_err-r.field-0.0 c.in_err-r.ensures.cases in
    let ran = from.2 in
    let made : c.in_err-r.field-0.0 ≡ record { reason = from.0.reason; place = c.row_at-row.result.start + from.0.place - 24 } = search rules in
    let p = err_from_is_err_and c.from_residual.result c.from_residual.ensures.1 in
    let judged = ap judged_of (sym from.1) ∙ c.judge_row.ensures.judged in
    let says = rules_refused _ _ _ _ _ _ _ (here m) c.row_at-row.ensures (beside_counted m) judged (numbered from.0.reason) in
    let all = sym says ∙ rules_here k in
    rw (p.1, p.2, made) (ap (λ (u : Ruled). u.number) all, ap (λ (u : Ruled). u.place) all)

pub loop-from-preserved : goal.loop-from-preserved
loop-from-preserved c =
    let m = (goal.at.loop-from-preserved c).After-row_at-row in
    let k = (goal.at.loop-from-preserved c).After-skip-next in
    let from = mapped_ok _ c.judge_row.result c.in_ok-r.r (λ e h. h) c.in_ok-r.ensures.cases in
    let x = c.skip-next.ensures in
    let l = c.loop-from.invariant in
    let y = c.judge_row.ensures in
    let a = c.args.walked in
    let told = ap judged_of from in
    let most = subst (λ j. Bounded j (length (body_of a.file.now c.row_at-row.result))) told y.bounds in
    let linked = IfOk-at_ok (λ given. LinkedOn (counted k) a.file.now c.row_at-row.result given.judged.links (linked_told c.loop-from.linked) (linked_told given.linked)) from y.linked in
    let links = IfOk-at_ok (λ given. (linked_told given.linked).links ≤ (linked_told c.loop-from.linked).links + 64) from y.links in
    let old = linked_told c.loop-from.linked in
    let is = c.row_at-row.ensures in
    let judged = sym told ∙ y.judged in (
      omega (arith, here m),
      omega (arith, l.1, most.faces, x.onward),
      omega (arith, l.2, most.degenerates, x.onward),
      omega (arith, l.3, most.links, x.onward),
      sym (rules_passed _ _ _ _ _ _ _ (here m) is (beside_counted m) judged refl) ∙ rules_here k,
      omega (arith, links, l.5, x.onward),
      ⊎_elim
          (λ w. links_linked (counted k) a.file.now a.table.now a.nodes (i k) (here m) is old w.0 w.1)
          (λ w. links_kept (counted k) a.file.now a.table.now a.nodes (i k) (here m) is old _ judged refl w.0 w.1)
          linked
          ∙ links_here k,
      y.sizes.0,
      y.sizes.1,
      omega (arith, x.small),
      omega (arith, unknown_none a.table.now a.nodes (i k) (here m) is (known m), bytes_here k),
    )

pub returns-after-loop-from-clause-result : goal.returns-after-loop-from-clause-result
returns-after-loop-from-clause-result c =
    let a = c.args.walked in
    let v = c.loop-from in
    sym (rules_ended a.file.now a.table.now a.nodes v.faces v.degenerate v.links v.from c.loop-from-test.false) ∙ v.invariant.4

pub returns-after-loop-from-clause-links : goal.returns-after-loop-from-clause-links
returns-after-loop-from-clause-links c =
    let a = c.args.walked in
    let v = c.loop-from in
    let count = target_count c.args.targets in
    sym (links_ended count a.file.now a.table.now a.nodes v.from (linked_told v.linked) c.loop-from-test.false) ∙ v.invariant.6

pub returns-after-loop-from-clause-unknown : goal.returns-after-loop-from-clause-unknown
returns-after-loop-from-clause-unknown c =
    unknown_ended c.args.walked.table.now c.args.walked.nodes c.loop-from.from c.loop-from-test.false ∙ c.loop-from.invariant.10
