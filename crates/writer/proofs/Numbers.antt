-- The rows of a plan are all of its numbers, eight by eight.
use Prim.Native.Nat.{ℕ, zero, suc, ◌+◌, ◌*◌, ◌≤◌}
use native.Mathlib.Nat.{zero-add}
use native.Mathlib.Omega.{arith}
use mathlib.Core.Path.{◌≡◌, refl, ap, sym, ◌∙◌}
use mathlib.Core.List.{List, [], ◌∷◌, ◌++◌}
use lib.ListN.{length, get_or, take, drop, length-drop}
use lib.Seq.{get_or-drop, drop-drop, take-add, take-length}
use Rattle.table.specs.Table.{row_from, fields, row_at, rows_at, row_count, flat}
use Rattle.table.proofs.Rows.{row_from_same, fits_has_row}
use Rattle.table.proofs.Rests.{length_rows_at}
use Rattle.writer.specs.Writable.{RowsOfThePlan}

eight : (l : List ℕ) → 8 ≤ length l → fields (row_from l 0) ≡ take 8 l
eight [] h = absurd (omega (arith, h))
eight (a ∷ []) h = absurd (omega (arith, h))
eight (a ∷ b ∷ []) h = absurd (omega (arith, h))
eight (a ∷ b ∷ c ∷ []) h = absurd (omega (arith, h))
eight (a ∷ b ∷ c ∷ d ∷ []) h = absurd (omega (arith, h))
eight (a ∷ b ∷ c ∷ d ∷ e ∷ []) h = absurd (omega (arith, h))
eight (a ∷ b ∷ c ∷ d ∷ e ∷ f ∷ []) h = absurd (omega (arith, h))
eight (a ∷ b ∷ c ∷ d ∷ e ∷ f ∷ g ∷ []) h = absurd (omega (arith, h))
eight (a ∷ b ∷ c ∷ d ∷ e ∷ f ∷ g ∷ i ∷ l) h = refl

row_numbers : (t : List ℕ) (k : ℕ) → k * 8 + 8 ≤ length t → fields (row_at t k) ≡ take 8 (drop (k * 8) t)
unfolding row_at
row_numbers t k h =
    let front = row_from_same t (drop (k * 8) t) (k * 8) 0 (λ i b. sym (get_or-drop (k * 8) t i 0) ∙ ap (λ j. get_or (drop (k * 8) t) j 0) (sym (zero-add i))) in
    rw (fits_has_row t k h) (ap fields front ∙ eight (drop (k * 8) t) (rw length-drop (omega (arith, h))))

flat_rows : (t : List ℕ) (n k : ℕ) → k * 8 + n * 8 ≤ length t → flat (rows_at t k n) ≡ take (n * 8) (drop (k * 8) t)
unfolding rows_at flat
flat_rows t zero k h = refl
flat_rows t (suc n) k h =
    let next : suc k * 8 ≡ k * 8 + 8 = omega arith in
    let more : 8 + n * 8 ≡ suc n * 8 = omega arith in
    let l : List ℕ = drop (k * 8) t in
    ap (λ z. z ++ flat (rows_at t (suc k) n)) (row_numbers t k (omega (arith, h)))
    ∙ ap (λ z. take 8 l ++ z) (flat_rows t n (suc k) (omega (arith, h)) ∙ ap (λ j. take (n * 8) (drop j t)) next ∙ ap (take (n * 8)) (sym (drop-drop 8 (k * 8) t)))
    ∙ sym (take-add 8 (n * 8) l) ∙ ap (λ j. take j l) more

pub rows_of_the_plan : RowsOfThePlan
rows_of_the_plan plan count e =
    let counted : row_count plan ≡ count = omega (arith, e) in
    let all : row_count plan * 8 ≡ length plan = omega (arith, e) in
    (sym (length_rows_at plan 0 (row_count plan)) ∙ counted, flat_rows plan (row_count plan) 0 (omega (arith, all)) ∙ ap (λ n. take n plan) all ∙ take-length plan)
