-- `reader::has_kind`: of the rows by their numbers, as of the list of them.
use Rattle.std.proofs.Common.{rules, tests, ◌≡◌, ℕ, zero, suc, List, eqb, refl, ◌∙◌, add-one, arith}
use Rattle.std.specs.List.{list_any, range_with_len}
use Rattle.std.proofs.lemmas.Iterator.{YieldsList-from_range}
use Rattle.std.proofs.lemmas.Iterator.Search.{any_from_yields_List}
use Rattle.table.specs.Table.{row_at, rows_at}
use Rattle.reader.specs.Private.{has_kind}
use Rattle.reader.proofs.has_kind.Goals as goal

any_kind : (t : List ℕ) (kind k n : ℕ) → list_any (λ i. eqb (row_at t i).kind kind) (range_with_len k n) ≡ has_kind kind (rows_at t k n)
unfolding has_kind rows_at
any_kind t kind k zero = refl
any_kind t kind k (suc n) = rw (add-one k, any_kind t kind (suc k) n)

pub returns : goal.returns
returns c =
    let t = c.args.table.now in
    let kind = c.args.kind in
    let n = c.args.nodes in
    any_from_yields_List (λ i. eqb (row_at t i).kind kind) _ _ _ c.any.ensures.ran (YieldsList-from_range 0 n n (cc) (omega arith)) (λ x b q k. search (rules, tests))
    ∙ any_kind t kind 0 n
