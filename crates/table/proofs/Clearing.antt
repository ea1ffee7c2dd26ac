-- Laws of a cleared table. What is said of its 8,192 zeros is proved for any count, so that they are never written out.
use Prim.Native.Nat.{ℕ, zero, suc, ◌+◌, ◌-◌, ◌*◌, ◌≤◌, ◌<◌}
use native.Mathlib.Omega.{arith}
use native.Mathlib.Nat.{zero-add, sub-zero, zero-sub, suc-sub-suc}
use mathlib.Core.Path.{◌≡◌, ap, sym, ◌∙◌}
use mathlib.Core.Bool.{true, false}
use mathlib.Core.List.{List, [], ◌++◌, append_assoc}
use lib.ListN.{length, get_or, take, drop, replicate, length-append, length-replicate, length-drop, get_or-replicate, get_or-append, get_or-eq_default}
use lib.Dec.{ltb}
use lib.Seq.{sets, sets-eq, length-take-le, drop_at, drop-append-le}
use borrow.Author.Tests.{leb-true, ltb-true, ltb-false, le-leb}
use Rattle.table.specs.declared.Row.{Row}
use Rattle.table.specs.Table.{has_row, row_at, put_rows, flat, blank, has_room, zeroed, cleared, filled}
use Rattle.base.proofs.Tests.{by_test}
use Rattle.base.proofs.Stores.{drop_sets}
use Rattle.table.proofs.Rows.{has_row_length, row_from_same, put_rows_sets, length_put_rows, length_flat, row_at_put_rows, row_at_put_rows_after, fits_has_row}

-- n zeros filled in at the start
pub zeroed_filled : (n : ℕ) (t : List ℕ) {part : List ℕ} → n ≤ length t → part ≡ replicate (length (take n t)) 0 → part ++ drop n t ≡ zeroed n t
unfolding zeroed
zeroed_filled n t h e = rw (e, length-take-le n t h)

pub length_zeroed : (n : ℕ) (t : List ℕ) → n ≤ length t → length (zeroed n t) ≡ length t
unfolding zeroed
length_zeroed n t h = simp (length-append, length-replicate, length-drop) (omega arith)

get_d_zeroed : (n : ℕ) (t : List ℕ) (i : ℕ) → i < n → get_or (zeroed n t) i 0 ≡ 0
unfolding zeroed
get_d_zeroed n t i h = get_or-append (replicate n 0) (drop n t) 0 i (rw length-replicate h) ∙ get_or-replicate n i 0 0 h

drop_zeroed : (n : ℕ) (t : List ℕ) → drop n (zeroed n t) ≡ drop n t
unfolding zeroed
drop_zeroed n t = drop_at (replicate n 0) (drop n t) n (length-replicate n 0)

-- only the rest matters
zeroed_same : (n : ℕ) (s t : List ℕ) → drop n s ≡ drop n t → zeroed n s ≡ zeroed n t
unfolding zeroed
zeroed_same n s t e = rw e

drop_replicate : (n m : ℕ) → drop {A = ℕ} n (replicate m 0) ≡ replicate (m - n) 0
drop_replicate zero m = rw sub-zero
drop_replicate (suc n) zero = rw zero-sub
drop_replicate (suc n) (suc m) = rw suc-sub-suc (drop_replicate n m)

-- numbers stored over zeros, from the start on
sets_zeroed : (n : ℕ) (t ws : List ℕ) → length ws ≤ n → n ≤ length t → sets (zeroed n t) 0 ws ≡ ws ++ replicate (n - length ws) 0 ++ drop n t
unfolding zeroed
sets_zeroed n t ws h l =
    let z : List ℕ = replicate n 0 in
    let k : length ws ≤ length z = simp length-replicate h in
    sets-eq ws (z ++ drop n t) 0 (omega (arith, length_zeroed n t l))
    ∙ rw (zero-add, drop-append-le (length ws) z (drop n t) k, drop_replicate (length ws) n) (sym (append_assoc ws (replicate (n - length ws) 0) (drop n t)))

pub has_room_length : (s t : List ℕ) → length s ≡ length t → has_room s ≡ has_room t
unfolding has_room
has_room_length s t e = rw e

module _ (t : List ℕ) where
  pub has_room_fits : has_room t ≡ true → 8192 ≤ length t
  unfolding has_room
  has_room_fits h = leb-true 8192 (length t) h

  pub fits_has_room : 8192 ≤ length t → has_room t ≡ true
  unfolding has_room
  fits_has_room h = le-leb 8192 (length t) h

  pub has_room_has_row : (j : ℕ) → has_room t ≡ true → j < 1024 → has_row t j ≡ true
  has_room_has_row j h b = fits_has_row t j (omega (arith, has_room_fits h))

  pub cleared_in : has_room t ≡ true → cleared t ≡ zeroed 8192 t
  unfolding cleared
  cleared_in h = rw h

  pub cleared_out : has_room t ≡ false → cleared t ≡ t
  unfolding cleared
  cleared_out h = rw h

  pub length_cleared : length (cleared t) ≡ length t
  length_cleared =
      by_test
      (has_room t)
      (λ h. ap length (cleared_in h) ∙ length_zeroed 8192 t (has_room_fits h))
      (λ h. ap length (cleared_out h))

  pub has_row_cleared : (j : ℕ) → has_row (cleared t) j ≡ has_row t j
  has_row_cleared j = has_row_length (cleared t) t j length_cleared

  pub row_at_cleared : (j : ℕ) → has_room t ≡ true → j < 1024 → row_at (cleared t) j ≡ blank
  unfolding row_at
  row_at_cleared j h b =
      rw (has_row_cleared j, has_room_has_row j h b, cleared_in h)
      (row_from_same (zeroed 8192 t) [] (j * 8) 0 λ i c. get_d_zeroed 8192 t (j * 8 + i) (omega arith))

  -- only what is after the rows matters
  cleared_same : (s : List ℕ) → has_room t ≡ true → length s ≡ length t → drop 8192 s ≡ drop 8192 t → cleared s ≡ cleared t
  unfolding cleared
  cleared_same s h l e = rw (has_room_length s t l, h) (zeroed_same 8192 s t e)

  pub cleared_cleared : cleared (cleared t) ≡ cleared t
  cleared_cleared =
      by_test
      (has_room t)
      (λ h. cleared_same (cleared t) h length_cleared (rw (cleared_in h) (drop_zeroed 8192 t)))
      (λ h. ap cleared (cleared_out h))

  pub cleared_put_rows : (k : ℕ) (rs : List Row) → has_room t ≡ true → k + length rs ≤ 1024 → cleared (put_rows t k rs) ≡ cleared t
  cleared_put_rows k rs h b =
      let e : drop 8192 (put_rows t k rs) ≡ drop 8192 t
      = rw (put_rows_sets t k rs (omega (arith, has_room_fits h))) (drop_sets 8192 t (k * 8) (flat rs) (omega (arith, length_flat rs))) in
      cleared_same (put_rows t k rs) h (length_put_rows t k rs) e

module _ (t : List ℕ) (rs : List Row) (h : has_room t ≡ true) (few : length rs ≤ 1024) where
  pub cleared_again : cleared (put_rows (cleared t) 0 rs) ≡ cleared t
  cleared_again =
      cleared_put_rows (cleared t) 0 rs (has_room_length (cleared t) t (length_cleared t) ∙ h) (omega arith) ∙ cleared_cleared t

  -- rows put into a cleared table, from its first row on
  pub filled_put_rows : put_rows (cleared t) 0 rs ≡ filled rs t
  unfolding filled
  filled_put_rows =
      put_rows_sets (cleared t) 0 rs (omega (arith, length_cleared t, has_room_fits t h))
      ∙ rw (cleared_in t h, ← length_flat rs) (sets_zeroed 8192 t (flat rs) (omega (arith, length_flat rs)) (has_room_fits t h))

  pub length_filled : length (filled rs t) ≡ length t
  length_filled = ap length (sym filled_put_rows) ∙ length_put_rows (cleared t) 0 rs ∙ length_cleared t

  pub row_at_filled : (j : ℕ) → j < 1024 → row_at (filled rs t) j ≡ get_or rs j blank
  row_at_filled j b =
      ap (λ u. row_at u j) (sym filled_put_rows)
      ∙ by_test
      (ltb j (length rs))
      (λ e. rw zero-add at (row_at_put_rows (cleared t) 0 rs j (omega (arith, ltb-true)) (has_row_cleared t (0 + j) ∙ has_room_has_row t (0 + j) h (omega arith))))
      (λ e.
      row_at_put_rows_after (cleared t) 0 rs j (omega (arith, ltb-false)) ∙ row_at_cleared t j h b
      ∙ sym (get_or-eq_default rs blank (omega (arith, ltb-false))))
