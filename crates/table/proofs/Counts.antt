-- Laws of the rows under a parent, and their count in a loop over a table's rows.
use Rattle.std.specs.Prelude.{Option}
use Prim.Native.Nat.{ℕ, zero, suc, ◌+◌, ◌≤◌, ◌<◌}
use native.Mathlib.Nat.{zero-add, add-zero}
use native.Mathlib.Omega.{arith}
use mathlib.Core.Path.{◌≡◌, refl, ap, sym, ◌∙◌}
use mathlib.Core.Bool.{true, false, ◌&&◌, and-eq-true_iff}
use mathlib.Core.List.{List, [], ◌∷◌, ◌++◌}
use lib.Dec.{eqb, ltb}
use lib.ListN.{length, get_or, set, length-set}
use lib.Seq.{get_or-set_same, get_or-set_other, ext_get_or}
use borrow.Author.Tests.{eq-eqb, ne_eqb, eqb-true, eqb-false, ltb-true, ltb-false}
use Rattle.base.specs.Lists.{Each}
use Rattle.base.proofs.Tests.{by_test}
use Rattle.table.specs.declared.Row.{Row}
use Rattle.table.specs.Table.{row_at, rows_at}
use Rattle.table.specs.Counts.{is_counted, count_under, counts_from, counts_under}
use Rattle.table.proofs.Rests.{rest, rest_more, rest_none}

module _ (which : Option ℕ) where
  -- a row under another parent
  pub counted_other : (r : Row) (rs : List Row) (p : ℕ) → (r.parent ≡ p → ⊥) → count_under which (r ∷ rs) p ≡ count_under which rs p
  unfolding count_under
  counted_other r rs p n = rw (ne_eqb r.parent p n) (by_test (is_counted which r) (λ t. rw t) (λ t. rw t))

  -- none of some rows is under a parent
  pub counted_none : (rs : List Row) (p : ℕ) → Each (λ r. is_counted which r ≡ true → r.parent ≡ p → ⊥) rs → count_under which rs p ≡ 0
  unfolding count_under
  counted_none [] p h = refl
  counted_none (r ∷ rs) p h =
      by_test (is_counted which r)
      (λ t. rw (t, ne_eqb r.parent p (h.0 t)) (counted_none rs p h.1))
      (λ t. rw t (counted_none rs p h.1))

  pub counted_append : (xs ys : List Row) (p : ℕ) → count_under which (xs ++ ys) p ≡ count_under which xs p + count_under which ys p
  unfolding count_under
  counted_append [] ys p = omega arith
  counted_append (x ∷ xs) ys p =
      by_test (is_counted which x && eqb x.parent p)
      (λ t. rw (t, counted_append xs ys p) (omega arith))
      (λ t. rw (t, counted_append xs ys p))

  pub counted_few : (t : List ℕ) (k n p : ℕ) → count_under which (rows_at t k n) p ≤ n
  unfolding count_under rows_at
  counted_few t k zero p = omega arith
  counted_few t k (suc n) p =
      let ih = counted_few t (suc k) n p in
      by_test (is_counted which (row_at t k) && eqb (row_at t k).parent p) (λ e. rw e (omega (arith, ih))) (λ e. rw e (omega (arith, ih)))

  -- ---- by place
  pub counts_length : (rows : List Row) (p n : ℕ) → length (counts_from which rows p n) ≡ n
  unfolding counts_from
  counts_length rows p zero = refl
  counts_length rows p (suc n) = ap suc (counts_length rows (suc p) n)

  counts_place : (rows : List Row) (p n i : ℕ) → i < n → get_or (counts_from which rows p n) i 0 ≡ count_under which rows (p + i)
  unfolding counts_from
  counts_place rows p zero i h = absurd (omega arith)
  counts_place rows p (suc n) zero h = ap (count_under which rows) (omega arith)
  counts_place rows p (suc n) (suc i) h = counts_place rows (suc p) n i (omega arith) ∙ ap (count_under which rows) (omega arith)

  -- what each place of counts tells
  pub counts_tell : (rows : List Row) (n : ℕ) {counts : List ℕ} → counts ≡ counts_under which rows n → (p : ℕ) → p < n → get_or counts p 0 ≡ count_under which rows p
  counts_tell rows n e p h = ap (λ l. get_or l p 0) e ∙ counts_place rows 0 n p h ∙ ap (count_under which rows) (zero-add p)

-- a row that is counted, and whose parent has a place
pub both : (which : Option ℕ) (size : ℕ) (r : Row) → (is_counted which r && ltb r.parent size) ≡ true → (is_counted which r ≡ true) × (r.parent < size)
both which size r h = let b = (and-eq-true_iff (is_counted which r) (ltb r.parent size)).0 h in (b.0, ltb-true r.parent size b.1)

module _ (which : Option ℕ) (t : List ℕ) (n : ℕ) where
  -- counts that, with those of the rest, are those of all
  abbrev pub Counting : (counts : List ℕ) (i : ℕ) → Type 0
  Counting counts i =
      (p : ℕ) → p < length counts → get_or counts p 0 + count_under which (rest t n i) p ≡ count_under which (rows_at t 0 n) p

  module _ (counts : List ℕ) (i : ℕ) where
    module _ (h : i < n) {r : Row} (e : r ≡ row_at t i) (c : Counting counts i) where
      pub counting_one : is_counted which r ≡ true → r.parent < length counts → (x : ℕ) → x ≡ get_or counts r.parent 0 + 1
          → Counting (set counts r.parent x) (i + 1)
      unfolding count_under
      counting_one k b x f = λ p s.
          let now = rw (rest_more t n i h, ← e, k) at (c p (rw length-set at s)) in
          by_test
          (eqb r.parent p)
          (λ q. rw (← eqb-true r.parent p q, get_or-set_same counts r.parent x 0 b, f)
          (omega (arith, rw (← eqb-true r.parent p q, eq-eqb r.parent r.parent refl) at now)))
          (λ q. rw (get_or-set_other counts r.parent p x 0 (λ g. eqb-false r.parent p q (sym g))) (rw q at now))

      -- a row that is not counted, or whose parent has no place
      pub counting_other : (is_counted which r && ltb r.parent (length counts)) ≡ false → Counting counts (i + 1)
      unfolding count_under
      counting_other k = λ p s.
          let now = rw (rest_more t n i h, ← e) at (c p s) in
          by_test (is_counted which r)
          (λ q. rw (q, ne_eqb r.parent p (λ g. omega (arith, ltb-false r.parent (length counts) (rw q at k)))) at now)
          (λ q. rw q at now)

    pub counting_ended : n ≤ i → Counting counts i → counts ≡ counts_under which (rows_at t 0 n) (length counts)
    unfolding count_under
    counting_ended h c =
        let size = length counts in
        ext_get_or 0 counts (counts_under which (rows_at t 0 n) size) (sym (counts_length which (rows_at t 0 n) 0 size))
        (λ p b. sym (add-zero (get_or counts p 0)) ∙ rw (rest_none t n i h) at (c p b) ∙ sym (counts_tell which (rows_at t 0 n) size refl p b))
