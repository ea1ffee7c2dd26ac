-- Laws of rows put into a table.
use Prim.Native.Nat.{ℕ, zero, suc, ◌+◌, ◌*◌, ◌/◌, ◌≤◌, ◌<◌}
use native.Mathlib.Omega.{arith}
use native.Mathlib.Nat.{zero-add, add-zero}
use mathlib.Core.Path.{◌≡◌, refl, ap, sym, ◌∙◌}
use mathlib.Core.Bool.{true, false}
use mathlib.Core.List.{List, [], ◌∷◌, ◌++◌}
use lib.ListN.{length, get_or, take, drop}
use lib.Dec.{ltb}
use lib.Seq.{sets, length-sets, drop-drop}
use borrow.Author.Tests.{le-leb, lt-leb, le-ltb, leb-true, ltb-true, ltb-false}
use Rattle.std.proofs.lemmas.List.{get_or-take, get_or-drop}
use Rattle.std.specs.Simd.{first_chunks}
use Rattle.table.specs.declared.Row.{Row}
use Rattle.table.specs.Table.{has_row, row_at, row_from, with_row, put_rows, flat, fields, blank}
use Rattle.base.proofs.Tests.{by_test}
use Rattle.base.proofs.Stores.{get_d_sets, get_d_sets_other}

-- the code's test: the row is among the whole rows of eight
pub has_row_rows : (t : List ℕ) (k : ℕ) → ltb k (length t / 8) ≡ has_row t k
unfolding has_row
has_row_rows t k =
    by_test
    (ltb k (length t / 8))
    (λ e. e ∙ sym (le-leb (k * 8 + 8) (length t) (omega (arith, ltb-true))))
    (λ e. e ∙ sym (lt-leb (k * 8 + 8) (length t) (omega (arith, ltb-false))))

pub has_row_fits : (t : List ℕ) (k : ℕ) → has_row t k ≡ true → k * 8 + 8 ≤ length t
unfolding has_row
has_row_fits t k h = leb-true (k * 8 + 8) (length t) h

pub fits_has_row : (t : List ℕ) (k : ℕ) → k * 8 + 8 ≤ length t → has_row t k ≡ true
unfolding has_row
fits_has_row t k h = le-leb (k * 8 + 8) (length t) h

pub has_row_length : (s t : List ℕ) (k : ℕ) → length s ≡ length t → has_row s k ≡ has_row t k
unfolding has_row
has_row_length s t k e = rw e

-- a row by the chunks of eight numbers
chunk_place : (n i : ℕ) (t : List ℕ) → i < n → get_or (first_chunks 8 n t) i [] ≡ take 8 (drop (i * 8) t)
chunk_place zero i t h = absurd (omega arith)
chunk_place (suc n) zero t h = refl
chunk_place (suc n) (suc i) t h =
    chunk_place n i (drop 8 t) (omega arith) ∙ ap (take 8) (drop-drop (i * 8) 8 t ∙ ap (λ k. drop k t) (omega arith))

-- rows are the same where their eight numbers are
pub row_from_same : (s t : List ℕ) (a b : ℕ) → ((i : ℕ) → i < 8 → get_or s (a + i) 0 ≡ get_or t (b + i) 0) → row_from s a ≡ row_from t b
row_from_same s t a b f =
    let kind : get_or s a 0 ≡ get_or t b 0 = simp add-zero at (f 0 (omega arith)) in
    rw (kind, f 1 (omega arith), f 2 (omega arith), f 3 (omega arith), f 4 (omega arith), f 5 (omega arith), f 6 (omega arith), f 7 (omega arith))

module _ (t : List ℕ) (k : ℕ) where
  pub row_at_chunk : {chunk : List ℕ} → k < length t / 8 → chunk ≡ get_or (first_chunks 8 (length t / 8) t) k [] → row_from chunk 0 ≡ row_at t k
  unfolding row_at
  row_at_chunk h e =
      rw (fits_has_row t k (omega arith), e, chunk_place (length t / 8) k t h)
      (row_from_same (take 8 (drop (k * 8) t)) t 0 (k * 8) λ i b.
      rw zero-add (get_or-take 8 (drop (k * 8) t) i 0 b ∙ get_or-drop (k * 8) t i 0))

  pub row_at_none : length t / 8 ≤ k → blank ≡ row_at t k
  unfolding row_at
  row_at_none h = rw (← has_row_rows t k, le-ltb _ _ h)

module _ (t : List ℕ) (k : ℕ) (r : Row) where
  pub with_row_in : has_row t k ≡ true → with_row t k r ≡ sets t (k * 8) (fields r)
  unfolding with_row
  with_row_in h = rw h

  pub with_row_out : has_row t k ≡ false → with_row t k r ≡ t
  unfolding with_row
  with_row_out h = rw h

  pub length_with_row : length (with_row t k r) ≡ length t
  length_with_row =
      by_test (has_row t k) (λ h. ap length (with_row_in h) ∙ length-sets t (k * 8) (fields r)) (λ h. ap length (with_row_out h))

  pub has_row_with_row : (j : ℕ) → has_row (with_row t k r) j ≡ has_row t j
  has_row_with_row j = has_row_length (with_row t k r) t j length_with_row

  pub row_at_with_row : has_row t k ≡ true → row_at (with_row t k r) k ≡ r
  unfolding row_at
  row_at_with_row h =
      rw (has_row_with_row k, h, with_row_in h)
      (row_from_same (sets t (k * 8) (fields r)) (fields r) (k * 8) 0 λ i b. rw zero-add (get_d_sets t (k * 8) (fields r) i 0 (has_row_fits t k h) b))

  pub row_at_with_row_other : (j : ℕ) → (j ≡ k → ⊥) → row_at (with_row t k r) j ≡ row_at t j
  unfolding row_at
  row_at_with_row_other j n =
      by_test
      (has_row t k)
      (λ h.
      let e : row_from (with_row t k r) (j * 8) ≡ row_from t (j * 8)
      = rw (with_row_in h) (row_from_same (sets t (k * 8) (fields r)) t (j * 8) (j * 8) λ i b. get_d_sets_other t (k * 8) (fields r) (j * 8 + i) 0 λ g. omega arith) in
      rw (has_row_with_row j, e))
      (λ h. rw (with_row_out h))

pub length_put_rows : (t : List ℕ) (k : ℕ) (rs : List Row) → length (put_rows t k rs) ≡ length t
unfolding put_rows
length_put_rows t k [] = refl
length_put_rows t k (r ∷ rs) = length_put_rows (with_row t k r) (suc k) rs ∙ length_with_row t k r

-- a row before the rows put, or after them
pub row_at_put_rows_other : (t : List ℕ) (k : ℕ) (rs : List Row) (j : ℕ) → (k ≤ j → k + length rs ≤ j) → row_at (put_rows t k rs) j ≡ row_at t j
unfolding put_rows
row_at_put_rows_other t k [] j h = refl
row_at_put_rows_other t k (r ∷ rs) j h =
    row_at_put_rows_other (with_row t k r) (suc k) rs j (λ b. omega (arith, h (omega arith)))
    ∙ row_at_with_row_other t k r j (λ e. omega (arith, h (omega arith)))

pub row_at_put_rows_before : (t : List ℕ) (k : ℕ) (rs : List Row) (j : ℕ) → j < k → row_at (put_rows t k rs) j ≡ row_at t j
row_at_put_rows_before t k rs j h = row_at_put_rows_other t k rs j (λ b. omega arith)

pub row_at_put_rows_after : (t : List ℕ) (k : ℕ) (rs : List Row) (j : ℕ) → k + length rs ≤ j → row_at (put_rows t k rs) j ≡ row_at t j
row_at_put_rows_after t k rs j h = row_at_put_rows_other t k rs j (λ b. h)

pub row_at_put_rows : (t : List ℕ) (k : ℕ) (rs : List Row) (j : ℕ) → j < length rs → has_row t (k + j) ≡ true → row_at (put_rows t k rs) (k + j) ≡ get_or rs j blank
unfolding put_rows
row_at_put_rows t k [] j b h = absurd (omega arith)
row_at_put_rows t k (r ∷ rs) zero b h =
    rw add-zero (row_at_put_rows_before (with_row t k r) (suc k) rs k (omega arith) ∙ row_at_with_row t k r (rw add-zero at h))
row_at_put_rows t k (r ∷ rs) (suc j) b h =
    let e : k + suc j ≡ suc k + j = omega arith in
    rw e (row_at_put_rows (with_row t k r) (suc k) rs j (omega arith) (has_row_with_row t k r (suc k + j) ∙ rw e at h))

pub put_rows_append : (t : List ℕ) (k : ℕ) (qs rs : List Row) → put_rows t k (qs ++ rs) ≡ put_rows (put_rows t k qs) (k + length qs) rs
unfolding put_rows
put_rows_append t k [] rs = ap (λ i. put_rows t i rs) (omega arith)
put_rows_append t k (q ∷ qs) rs =
    put_rows_append (with_row t k q) (suc k) qs rs ∙ ap (λ i. put_rows (put_rows (with_row t k q) (suc k) qs) i rs) (omega arith)

pub length_flat : (rs : List Row) → length (flat rs) ≡ length rs * 8
unfolding flat
length_flat [] = refl
length_flat (r ∷ rs) = omega (arith, length_flat rs)

-- rows that all lie in the table are their numbers stored
pub put_rows_sets : (t : List ℕ) (k : ℕ) (rs : List Row) → k * 8 + length rs * 8 ≤ length t → put_rows t k rs ≡ sets t (k * 8) (flat rs)
unfolding put_rows flat
put_rows_sets t k [] h = refl
put_rows_sets t k (r ∷ rs) h =
    put_rows_sets (with_row t k r) (suc k) rs (omega (arith, length_with_row t k r))
    ∙ rw (with_row_in t k r (fits_has_row t k (omega arith))) (ap (λ i. sets (sets t (k * 8) (fields r)) i (flat rs)) (omega arith))
