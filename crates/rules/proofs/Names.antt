-- What the first letter of a name tells of a line: another one, that the name is not the line's; the same, of names of one letter, that it is.
use Rattle.std.specs.Prelude.{Option, Some, None}
use Prim.Native.Nat.{ℕ, ◌<◌}
use native.Mathlib.Omega.{arith}
use mathlib.Core.Path.{◌≡◌, refl, sym, ap, ◌∙◌}
use mathlib.Core.Bool.{Bool, true, false, ◌||◌, true≢false}
use mathlib.Core.List.{List, [], ◌∷◌, ◌++◌, append-nil}
use lib.ListN.{length, get_or}
use Rattle.base.proofs.Tests.{by_test}
use Rattle.names.specs.Names.{same, number_after}
use Rattle.names.proofs.Laws.{same_refl, same_eq, numbered_sound}
use Rattle.rules.specs.Table.{Line}
use Rattle.rules.specs.Rules.{is_number, lists}

pub neither : (a b : Bool) → (a || b) ≡ false → (a ≡ false) × (b ≡ false)
neither true b e = absurd (true≢false e)
neither false b e = (refl, e)

is_no_number : (r : Option ℕ) → ((k : ℕ) → r ≡ Some k → ⊥) → is_number r ≡ false
is_no_number (Some k) n = absurd (n k refl)
is_no_number None n = refl

same_first : (own more : List ℕ) → 0 < length own → get_or (own ++ more) 0 0 ≡ get_or own 0 0
same_first [] more h = absurd (omega (arith, h))
same_first (x ∷ own) more h = refl

pub lists_other : (name : List ℕ) (l : Line) → 0 < length l.name → (get_or l.name 0 0 ≡ get_or name 0 0 → ⊥) → lists l name ≡ false
unfolding lists
lists_other name l h m =
    let other : (more : List ℕ) → name ≡ l.name ++ more → ⊥ = λ more q. m (sym (same_first l.name more h) ∙ sym (ap (λ n. get_or n 0 0) q)) in
    by_test l.numbered
    (λ t. rw t (is_no_number (number_after name l.name) (λ k q. other _ (numbered_sound name l.name k q).0)))
    (λ t. rw t (by_test (same name l.name) (λ s. absurd (other [] (same_eq name l.name s ∙ sym (append-nil l.name)))) (λ s. s)))

one_letter : (xs : List ℕ) → length xs ≡ 1 → xs ≡ get_or xs 0 0 ∷ []
one_letter [] e = absurd (omega (arith, e))
one_letter (x ∷ []) e = refl
one_letter (x ∷ y ∷ xs) e = absurd (omega (arith, e))

-- a name of one letter, and a line that has the same letter alone
pub lists_letter : (name : List ℕ) (l : Line) → length l.name ≡ 1 → length name ≡ 1 → l.numbered ≡ false → get_or l.name 0 0 ≡ get_or name 0 0
    → lists l name ≡ true
unfolding lists
lists_letter name l e f n m =
    let is : name ≡ l.name = one_letter name f ∙ ap (λ x. x ∷ []) (sym m) ∙ sym (one_letter l.name e) in
    rw n (ap (λ x. same x l.name) is ∙ same_refl l.name)
