-- The rows of a table as a list, and as a plan.
use Prim.Native.Nat.{ℕ, suc, ◌+◌, ◌-◌, ◌*◌, ◌%◌, ◌≤◌, ◌<◌}
use native.Mathlib.Omega.{arith}
use mathlib.Core.Path.{◌≡◌, refl, ap, sym, ◌∙◌}
use mathlib.Core.Bool.{true}
use mathlib.Core.List.{List, [], ◌∷◌, ◌++◌, append_assoc, append-nil}
use lib.ListN.{length, get_or, take, drop, replicate}
use lib.Seq.{sets-eq, drop-length, take_at}
use borrow.Author.Tests.{eq-eqb, le-leb}
use Rattle.table.specs.declared.Row.{Row}
use Rattle.table.specs.Table.{blank, row_at, rows_at, put_rows, has_room, flat, filled, row_count, is_plan, first_rows}
use Rattle.table.proofs.Rows.{fits_has_row, row_at_put_rows, length_flat, put_rows_sets}
use Rattle.table.proofs.Clearing.{row_at_filled}

pub rows_are : (t : List ℕ) (k : ℕ) (rs : List Row) → ((j : ℕ) → j < length rs → row_at t (k + j) ≡ get_or rs j blank) → rows_at t k (length rs) ≡ rs
unfolding rows_at
rows_are t k [] h = refl
rows_are t k (r ∷ rs) h =
    let first : row_at t k ≡ r = (let z : k ≡ k + 0 = omega arith in ap (row_at t) z) ∙ h 0 (omega arith) in
    let rest = rows_are t (suc k) rs (λ j b. (let z : suc k + j ≡ k + suc j = omega arith in ap (row_at t) z) ∙ h (suc j) (omega arith)) in
    rw (first, rest)

-- the rows of a table that was filled
pub rows_filled : (t : List ℕ) (rs : List Row) → has_room t ≡ true → length rs ≤ 1024 → rows_at (filled rs t) 0 (length rs) ≡ rs
rows_filled t rs h few =
    rows_are (filled rs t) 0 rs (λ j b. (let z : 0 + j ≡ j = omega arith in ap (row_at (filled rs t)) z) ∙ row_at_filled t rs h few j (omega arith))

-- their numbers alone
pub first_filled : (t : List ℕ) (rs : List Row) → first_rows (filled rs t) (length rs) ≡ flat rs
unfolding filled
first_filled t rs =
    ap (take (length rs * 8)) (append_assoc (flat rs) (replicate (8192 - length rs * 8) 0) (drop 8192 t))
    ∙ take_at (flat rs) (replicate (8192 - length rs * 8) 0 ++ drop 8192 t) (length rs * 8) (length_flat rs)

flat_put : (rs : List Row) → put_rows (flat rs) 0 rs ≡ flat rs
flat_put rs =
    put_rows_sets (flat rs) 0 rs (omega (arith, length_flat rs))
    ∙ sets-eq (flat rs) (flat rs) (0 * 8) (omega arith)
    ∙ ap (λ l. flat rs ++ l) ((let z : 0 * 8 + length (flat rs) ≡ length (flat rs) = omega arith in ap (λ n. drop n (flat rs)) z) ∙ drop-length (flat rs))
    ∙ append-nil (flat rs)

pub count_flat : (rs : List Row) → row_count (flat rs) ≡ length rs
count_flat rs = omega (arith, length_flat rs)

pub plan_flat : (rs : List Row) → length rs ≤ 1024 → is_plan (flat rs) ≡ true
plan_flat rs few =
    let whole : length (flat rs) % 8 ≡ 0 = omega (arith, length_flat rs) in
    rw (eq-eqb (length (flat rs) % 8) 0 whole, le-leb (row_count (flat rs)) 1024 (omega (arith, count_flat rs, few)))

-- they are a plan of these rows
pub rows_flat : (rs : List Row) → rows_at (flat rs) 0 (length rs) ≡ rs
rows_flat rs = rows_are (flat rs) 0 rs (λ j b.
    ap (λ u. row_at u (0 + j)) (sym (flat_put rs)) ∙ row_at_put_rows (flat rs) 0 rs j b (fits_has_row (flat rs) (0 + j) (omega (arith, b, length_flat rs))))
