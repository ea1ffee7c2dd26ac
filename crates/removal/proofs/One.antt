-- A single mark is what one trimming takes out.
use Prim.Native.Nat.{ℕ, zero, suc, ◌+◌, ◌-◌, ◌≤◌, ◌<◌}
use native.Mathlib.Omega.{arith}
use mathlib.Core.Path.{◌≡◌, refl, ap, sym, ◌∙◌}
use mathlib.Core.Logic.{◌⊎◌, inl, inr}
use mathlib.Core.Bool.{Bool, true, cond}
use mathlib.Core.List.{List, [], ◌∷◌}
use lib.Dec.{eqb, ltb}
use lib.ListN.{length, get_or, set}
use borrow.Author.Tests.{eq-eqb, ne_eqb, eqb-true, eqb-false, ltb-true, ltb-false}
use Rattle.base.proofs.Tests.{by_test}
use Rattle.table.specs.declared.Row.{Row}
use Rattle.table.specs.Table.{no_parent, blank}
use Rattle.format.specs.Forest.{Forest, nodes}
use Rattle.format.specs.Rows.{rows_of}
use Rattle.base.specs.Lists.{Each}
use Rattle.format.specs.Layout.{Few}
use Rattle.base.proofs.Lists.{each_map}
use Rattle.format.proofs.Rows.{length_rows}
use Rattle.format.proofs.Within.{Under, rows_under}
use Rattle.removal.specs.Trimmer.{lowered, mended, without_from, without}
use Rattle.removal.specs.Tally.{no_marks, sum_over_marked, count_fall}
use Rattle.removal.specs.Left.{unmarked, new_number, renumbered, renumbered_from}

-- ---- sums over the marked rows
over_none : (x : ℕ → Row → ℕ) (j : ℕ) (rs : List Row) → sum_over_marked x j rs (no_marks rs) ≡ 0
unfolding sum_over_marked
over_none x j [] = refl
over_none x j (r ∷ rs) = omega (arith, over_none x (suc j) rs)

over_one : (x : ℕ → Row → ℕ) (j k : ℕ) (rs : List Row) → k < length rs
    → sum_over_marked x j rs (set (no_marks rs) k true) ≡ x (j + k) (get_or rs k blank)
unfolding sum_over_marked
over_one x j k [] h = absurd (omega arith)
over_one x j zero (r ∷ rs) h =
    let here : j + 0 ≡ j = omega arith in
    rw (here, over_none x (suc j) rs) (omega arith)
over_one x j (suc k) (r ∷ rs) h =
    let next : suc j + k ≡ j + suc k = omega arith in
    omega (arith, rw next at (over_one x (suc j) k rs (omega arith)))

-- ---- numbers among the unmarked rows
number_none : (p : ℕ) (rs : List Row) → p ≤ length rs → new_number (no_marks rs) p ≡ p
unfolding unmarked
number_none zero rs h = refl
number_none (suc p) [] h = absurd (omega arith)
number_none (suc p) (r ∷ rs) h = ap suc (number_none p rs (omega arith))

number_before : (p k : ℕ) (rs : List Row) → k < length rs → p ≤ k → new_number (set (no_marks rs) k true) p ≡ p
unfolding unmarked
number_before zero k rs h l = refl
number_before (suc p) k [] h l = absurd (omega arith)
number_before (suc p) zero (r ∷ rs) h l = absurd (omega arith)
number_before (suc p) (suc k) (r ∷ rs) h l = ap suc (number_before p k rs (omega arith) (omega arith))

number_after_lem : (p k : ℕ) (rs : List Row) → p ≤ length rs → k < p → new_number (set (no_marks rs) k true) p ≡ p - 1
unfolding unmarked
number_after_lem zero k rs h l = absurd (omega arith)
number_after_lem (suc p) k [] h l = absurd (omega arith)
number_after_lem (suc p) zero (r ∷ rs) h l = number_none p rs (omega arith) ∙ omega arith
number_after_lem (suc p) (suc k) (r ∷ rs) h l = ap suc (number_after_lem p k rs (omega arith) (omega arith)) ∙ omega arith

-- a row's parent is none, or one of n rows
abbrev Among : (n : ℕ) → Row → Type 0
Among n r = (r.parent ≡ no_parent) ⊎ (r.parent < n)

-- ---- one mark, at row k of all
module _ (all : List Row) (k : ℕ) (few : length all ≤ 1024) (there : k < length all) where
  abbrev above : ℕ
  above = (get_or all k blank).parent

  abbrev marked : List Bool
  marked = set (no_marks all) k true

  same_parent : (r : Row) → Among (length all) r → lowered k r.parent ≡ cond (eqb r.parent no_parent) no_parent (new_number marked r.parent)
  same_parent r (inl h) = rw (eq-eqb r.parent no_parent h) (by_test (ltb k r.parent) (λ t. rw t h) (λ t. rw t h))
  same_parent r (inr h) =
      rw (ne_eqb r.parent no_parent (λ e. omega arith))
      (by_test (ltb k r.parent)
      (λ t. rw t (sym (number_after_lem r.parent k all (omega arith) (ltb-true k r.parent t))))
      (λ t. rw t (sym (number_before r.parent k all there (omega (arith, ltb-false k r.parent t))))))

  same_children : (i c : ℕ) → cond (eqb i above) (c - 1) c ≡ c - count_fall all marked i
  same_children i c =
      rw (over_one (λ j r. cond (eqb r.parent i) 1 0) 0 k all there)
      (by_test (eqb i above)
      (λ t. rw (t, eq-eqb above i (sym (eqb-true i above t))))
      (λ t. rw (t, ne_eqb above i (λ e. eqb-false i above t (sym e))) (omega arith)))

  same_row_lem : (i : ℕ) (r : Row) → Among (length all) r → mended k above i r ≡ renumbered all marked i r
  same_row_lem i r h = rw (same_parent r h, same_children i r.children)

  rows_after : (i : ℕ) (rs : List Row) → k < i → Each (Among (length all)) rs
      → without_from k above i rs ≡ renumbered_from all marked i rs (no_marks rs)
  unfolding without_from renumbered_from
  rows_after i [] h e = refl
  rows_after i (r ∷ rs) h e = rw (ne_eqb i k (λ q. omega arith), same_row_lem i r e.0, rows_after (suc i) rs (omega arith) e.1)

  rows_from : (i j : ℕ) (rs : List Row) → i + j ≡ k → Each (Among (length all)) rs
      → without_from k above i rs ≡ renumbered_from all marked i rs (set (no_marks rs) j true)
  unfolding without_from renumbered_from
  rows_from i j [] h e = refl
  rows_from i zero (r ∷ rs) h e = rw (eq-eqb i k (omega arith)) (rows_after (suc i) rs (omega arith) e.1)
  rows_from i (suc j) (r ∷ rs) h e = rw (ne_eqb i k (λ q. omega arith), same_row_lem i r e.0, rows_from (suc i) j rs (omega arith) e.1)

pub without_one : (f : Forest) (k : ℕ) → Few f → k < nodes f
    → without k (rows_of f) ≡ renumbered_from (rows_of f) (set (no_marks (rows_of f)) k true) 0 (rows_of f) (set (no_marks (rows_of f)) k true)
without_one f k few h =
    let long = length_rows f no_parent 0 16 in
    rows_from (rows_of f) k (omega arith) (omega arith) 0 k (rows_of f) (omega arith) (each_map among (rows_of f) (rows_under f no_parent 0 16))
  where
    among : (r : Row) → Under no_parent 0 (nodes f) r → Among (length (rows_of f)) r
    among r (inl h) = inl h
    among r (inr h) = inr (omega (arith, length_rows f no_parent 0 16))
