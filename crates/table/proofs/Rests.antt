-- The rows of a table from a row on, and those of them that are left to a loop.
use Prim.Native.Nat.{ℕ, zero, suc, ◌+◌, ◌-◌, ◌≤◌, ◌<◌}
use native.Mathlib.Numerals.{add-one}
use native.Mathlib.Nat.{sub-zero}
use native.Mathlib.Omega.{arith}
use mathlib.Core.Path.{◌≡◌, refl, ap}
use mathlib.Core.List.{List, [], ◌∷◌}
use lib.ListN.{length}
use Rattle.table.specs.declared.Row.{Row}
use Rattle.table.specs.Table.{row_at, rows_at, with_row}
use Rattle.table.proofs.Rows.{row_at_with_row_other}

pub length_rows_at : (t : List ℕ) (k n : ℕ) → n ≡ length (rows_at t k n)
unfolding rows_at
length_rows_at t k zero = refl
length_rows_at t k (suc n) = ap suc (length_rows_at t (suc k) n)

-- a row that is put leaves later ones
pub rows_at_with_row : (t : List ℕ) (to : ℕ) (r : Row) (k n : ℕ) → to < k → rows_at (with_row t to r) k n ≡ rows_at t k n
unfolding rows_at
rows_at_with_row t to r k zero h = refl
rows_at_with_row t to r k (suc n) h = rw (row_at_with_row_other t to r k (λ e. omega arith), rows_at_with_row t to r (suc k) n (omega arith))

-- of n rows, those from row i on
abbrev pub rest : (t : List ℕ) (n i : ℕ) → List Row
rest t n i = rows_at t i (n - i)

pub rest_all : (t : List ℕ) (n : ℕ) → rest t n 0 ≡ rows_at t 0 n
rest_all t n = rw (sub-zero n)

pub rest_first : (t : List ℕ) (n i : ℕ) → i ≤ 0 → rest t n i ≡ rows_at t 0 n
rest_first t n i h = let first : i ≡ 0 = omega arith in rw first (rest_all t n)

pub rest_next : (t : List ℕ) (n i : ℕ) → i < n → rest t n i ≡ row_at t i ∷ rest t n (suc i)
unfolding rows_at
rest_next t n i h = let one : n - i ≡ suc (n - suc i) = omega arith in rw one

pub rest_more : (t : List ℕ) (n i : ℕ) → i < n → rest t n i ≡ row_at t i ∷ rest t n (i + 1)
rest_more t n i h = rw (add-one i) (rest_next t n i h)

pub rest_none : (t : List ℕ) (n i : ℕ) → n ≤ i → rest t n i ≡ []
unfolding rows_at
rest_none t n i h = let none : n - i ≡ 0 = omega arith in rw none
