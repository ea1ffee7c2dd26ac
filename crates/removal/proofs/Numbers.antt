-- The unmarked rows numbered both ways.
use Prim.Native.Nat.{ℕ, zero, suc, ◌+◌}
use native.Mathlib.Omega.{arith}
use native.Mathlib.Nat.{zero-add}
use mathlib.Core.Path.{◌≡◌, refl, ap, ◌∙◌}
use mathlib.Core.Bool.{Bool, true, false, true≢false}
use mathlib.Core.Option.{some}
use mathlib.Core.List.{List, [], ◌∷◌}
use lib.ListN.{get_or}
use Rattle.removal.specs.Tally.{row_numbered}
use Rattle.removal.specs.Left.{unmarked, new_number, Stays, unmarked_of}
use Rattle.removal.specs.Numbers.{SameNumber, OnlyNumber, NoNumber, SameRow}
use Rattle.removal.proofs.Marking.{numbered_none}

-- the first row is row b
numbered : (b : ℕ) (marks : List Bool) (i : ℕ) → get_or marks i true ≡ false → row_numbered b marks (new_number marks i) ≡ some (b + i)
unfolding row_numbered unmarked
numbered b [] i e = absurd (true≢false e)
numbered b (true ∷ marks) zero e = absurd (true≢false e)
numbered b (false ∷ marks) zero e = ap some (omega arith)
numbered b (true ∷ marks) (suc i) e = numbered (suc b) marks i e ∙ ap some (omega arith)
numbered b (false ∷ marks) (suc i) e = numbered (suc b) marks i e ∙ ap some (omega arith)

pub same_number : SameNumber
same_number marks i e = numbered 0 marks i e ∙ ap some (zero-add i)

-- the row that has number n, and its place among the marks
record Numbered (b : ℕ) (marks : List Bool) (n i : ℕ) : Type 0 where
  place : ℕ
  from : b + place ≡ i
  stays : Stays marks place
  number : new_number marks place ≡ n

some_same : (i j : ℕ) → some i ≡ some j → i ≡ j
some_same i j e = cc

numbered_only : (b : ℕ) (marks : List Bool) (n i : ℕ) → row_numbered b marks n ≡ some i → Numbered b marks n i
unfolding row_numbered unmarked
numbered_only b [] n i e = let z : ◌≡◌ {A = ℕ} 0 1 = cc in absurd (omega arith)
numbered_only b (true ∷ marks) n i e =
    let r = numbered_only (suc b) marks n i e in
    record { place = suc r.place; from = omega (arith, r.from); stays = r.stays; number = r.number }
numbered_only b (false ∷ marks) zero i e = record { place = 0; from = omega (arith, some_same b i e); stays = refl; number = refl }
numbered_only b (false ∷ marks) (suc n) i e =
    let r = numbered_only (suc b) marks n i e in
    record { place = suc r.place; from = omega (arith, r.from); stays = r.stays; number = ap suc r.number }

pub only_number : OnlyNumber
only_number marks n i e =
    let r = numbered_only 0 marks n i e in
    let place : r.place ≡ i = omega (arith, r.from) in
    (rw (← place) r.stays, rw (← place) r.number)

pub no_number : NoNumber
no_number marks n few = numbered_none 0 marks n few

pub same_row : SameRow
unfolding unmarked_of unmarked
same_row rows [] i l e = absurd (true≢false e)
same_row [] (mark ∷ marks) i l e = absurd (omega arith)
same_row (r ∷ rows) (true ∷ marks) zero l e = absurd (true≢false e)
same_row (r ∷ rows) (false ∷ marks) zero l e = refl
same_row (r ∷ rows) (true ∷ marks) (suc i) l e = same_row rows marks i (omega arith) e
same_row (r ∷ rows) (false ∷ marks) (suc i) l e = same_row rows marks i (omega arith) e
