-- What holds of each of a list, of one of it at least, and exactly those of a list that have a property.
use Rattle.std.specs.Prelude.{◌⊎◌, List, [], ◌∷◌}

abbrev pub Each : {A : Type 0} → (A → Type 0) → List A → Type 0
Each P [] = Unit {0}
Each P (x ∷ xs) = P x × Each P xs

abbrev pub Some : {A : Type 0} → (A → Type 0) → List A → Type 0
Some P [] = ⊥
Some P (x ∷ xs) = P x ⊎ Some P xs

-- ys are those of xs of which P holds, in their order
pub data Picks {A : Type 0} (P : A → Type 0) : List A → List A → Type 0 where
  none : Picks P [] []
  taken : {x : A} {xs ys : List A} → P x → Picks P xs ys → Picks P (x ∷ xs) (x ∷ ys)
  left : {x : A} {xs ys : List A} → (P x → ⊥) → Picks P xs ys → Picks P (x ∷ xs) ys
