-- `reader::checked`: the first refusal of the rules, then of the links, or the account.
use Prim.Native.Nat.{ℕ, ◌+◌}
use native.Mathlib.Omega.{arith}
use mathlib.Core.Path.{◌≡◌, refl, sym, ap, ◌∙◌}
use mathlib.Core.List.{List}
use lib.ListN.{length}
use Rattle.table.proofs.Rests.{length_rows_at}
use Rattle.table.specs.declared.Row.{Row}
use Rattle.table.specs.Table.{rows_at}
use Rattle.reader.specs.Reading.{own_known, own_unknown}
use Rattle.reader.proofs.Charges.{own_split}
use Rattle.std.proofs.lemmas.Result.{err_from_is_err_and}
use Rattle.reader.proofs.Whole.{table_ok, rules_end, links_end, links_end_place, links_full, links_number, account_checked}
use Rattle.reader.proofs.checked.Goals as goal
use Rattle.reader.proofs.checked.Goals.{After-all_rules}

-- at the answer of the rules: the file and its rows
module _ (c : After-all_rules) where
  abbrev file : List ℕ
  file = c.args.file.now

  abbrev rows : List Row
  rows = rows_at c.args.table.now 0 c.args.nodes

  all : 16 + own_known rows + own_unknown rows ≡ length file
  all = omega (arith, own_split rows, c.requires.own)

pub returns-in_err-judged-clause-result : goal.returns-in_err-judged-clause-result
returns-in_err-judged-clause-result c =
    let r = (goal.at.returns-in_err-judged-clause-result c).After-all_rules in
    let p = err_from_is_err_and c.from_residual.result c.from_residual.ensures.1 in
    rw (p.1, p.2) (rules_end (file r) (rows r) _ c.in_err-judged.ensures)

pub returns-in_err-judged-2-clause-result : goal.returns-in_err-judged-2-clause-result
returns-in_err-judged-2-clause-result c =
    let r = (goal.at.returns-in_err-judged-2-clause-result c).After-all_rules in
    let p = err_from_is_err_and c.from_residual-in_err-judged-2.result c.from_residual-in_err-judged-2.ensures.1 in
    rw (p.1, p.2) (links_end (file r) (rows r) c.in_err-judged-2.was c.in_ok-judged.ensures refl)

pub returns-in_err-judged-2-clause-place : goal.returns-in_err-judged-2-clause-place
returns-in_err-judged-2-clause-place c =
    let r = (goal.at.returns-in_err-judged-2-clause-place c).After-all_rules in
    let a = c.args in
    let q = c.requires.nodes_le_most_rows in
    let p = err_from_is_err_and c.from_residual-in_err-judged-2.result c.from_residual-in_err-judged-2.ensures.1 in
    let ok = table_ok a.file.now a.table.now a.nodes q.1 in
    rw (p.1, p.2) (omega (arith, links_end_place (file r) (rows r) c.in_err-judged-2.was c.in_ok-judged.ensures refl a.nodes ok, q.2))

pub overflow_sub-known-2 : goal.overflow_sub-known-2
overflow_sub-known-2 c =
    let r = (goal.at.overflow_sub-known-2 c).After-all_rules in
    omega (arith, all r, c.in_ok-judged.ensures.unknown_is refl)

pub returns-clause-result : goal.returns-clause-result
returns-clause-result c =
    let r = (goal.at.returns-clause-result c).After-all_rules in
    let x = c.in_ok-judged.ensures in
    let passed = ap (λ u. u.number) (sym x.rules_are) in
    let resolved = ap (λ u. u.number) (sym (links_full (file r) (rows r) c.in_ok-judged-2.was x refl)) in
    account_checked (file r) (rows r) passed resolved c.args.nodes c.args.flags _ _ _ _ _
    (length_rows_at c.args.table.now 0 c.args.nodes) c.requires.nodes_le_most_rows.3 (omega (arith, all r, x.unknown_is refl)) (x.unknown_is refl)
    (ap (λ u. u.faces) x.rules_are) (ap (λ u. u.degenerate) x.rules_are) (omega (arith, ap (λ u. u.links) x.rules_are, links_number (file r) (rows r) passed resolved))
