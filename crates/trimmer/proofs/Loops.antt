-- What the loops over a table's rows keep: with the rest of the rows, what was put so far is what all of them give.
use Prim.Native.Nat.{ℕ, suc, ◌+◌, ◌-◌, ◌≤◌, ◌<◌}
use native.Mathlib.Omega.{arith}
use native.Mathlib.Numerals.{add-one}
use mathlib.Core.Path.{◌≡◌}
use mathlib.Core.List.{List}
use borrow.Author.Tests.{eq-eqb, ne_eqb}
use Rattle.table.specs.declared.Row.{Row}
use Rattle.table.specs.Table.{row_at, rows_at, with_row, put_rows}
use Rattle.table.proofs.Rests.{rest, rest_next, rest_none, rows_at_with_row}
use Rattle.format.specs.Rows.{own_bytes, all_own_bytes}
use Rattle.writer.specs.Forest.{moved_to, laid_out}
use Rattle.removal.specs.Trimmer.{mended, without_from}

-- ---- rows moved up
module _ (first : List ℕ) (n k above : ℕ) where
  abbrev pub Moving : (t : List ℕ) (to i : ℕ) → Type 0
  Moving t to i = put_rows t to (without_from k above i (rest t n i)) ≡ put_rows first 0 (without_from k above 0 (rows_at first 0 n))

  module _ (t : List ℕ) (to i : ℕ) (m : Moving t to i) where
    pub moving_past : i < n → i ≡ k → Moving t to (i + 1)
    unfolding without_from
    moving_past h e = rw (add-one i) (rw (rest_next t n i h, eq-eqb i k e) at m)

    pub moving_row : i < n → (i ≡ k → ⊥) → to ≤ i → (t' : List ℕ) → t' ≡ with_row t to (mended k above i (row_at t i)) → Moving t' (to + 1) (i + 1)
    unfolding without_from put_rows
    moving_row h ne b t' e =
        rw (add-one i, add-one to, e, rows_at_with_row t to (mended k above i (row_at t i)) (suc i) (n - suc i) (omega arith))
        (rw (rest_next t n i h, ne_eqb i k ne) at m)

    pub moving_ended : n ≤ i → t ≡ put_rows first 0 (without_from k above 0 (rows_at first 0 n))
    unfolding without_from put_rows
    moving_ended h = rw (rest_none t n i h) at m

-- ---- bodies placed anew
module _ (first : List ℕ) (n : ℕ) where
  abbrev pub Laying : (t : List ℕ) (at i : ℕ) → Type 0
  Laying t at i = put_rows t i (laid_out at (rest t n i)) ≡ put_rows first 0 (laid_out 16 (rows_at first 0 n))

  module _ (t : List ℕ) (at i : ℕ) (l : Laying t at i) where
    pub laying_row : i < n → (t' : List ℕ) → t' ≡ with_row t i (moved_to at (row_at t i)) → Laying t' (at + own_bytes (row_at t i)) (i + 1)
    unfolding laid_out put_rows
    laying_row h t' e =
        rw (add-one i, e, rows_at_with_row t i (moved_to at (row_at t i)) (suc i) (n - suc i) (omega arith))
        (rw (rest_next t n i h) at l)

    pub laying_ended : n ≤ i → t ≡ put_rows first 0 (laid_out 16 (rows_at first 0 n))
    unfolding laid_out put_rows
    laying_ended h = rw (rest_none t n i h) at l

-- the places that are left to be given
abbrev pub places_left : (t : List ℕ) (n at i : ℕ) → ℕ
places_left t n at i = at + all_own_bytes (rest t n i)

pub place_next : (t : List ℕ) (n at i : ℕ) → i < n → places_left t n at i ≤ 16777216 → at + own_bytes (row_at t i) ≤ 16777216
place_next t n at i h b = omega (arith, rw (rest_next t n i h) at b)

pub places_next : (t : List ℕ) (n at i : ℕ) (r : Row) → i < n → places_left (with_row t i r) n (at + own_bytes (row_at t i)) (i + 1) ≡ places_left t n at i
places_next t n at i r h =
    rw (add-one i, rows_at_with_row t i r (suc i) (n - suc i) (omega arith), rest_next t n i h) (omega arith)
