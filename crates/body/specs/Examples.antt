-- Bodies, computed by the definition.
use Rattle.std.specs.Prelude.{ℕ, ◌≡◌, refl, Bool, true, false, List, [], ◌∷◌, ◌++◌}
use Rattle.le.specs.Le.{val, number_at}
use Rattle.names.specs.Names.{bytes_ok, same}
use Rattle.props.specs.Step.{to_zero, name_at, step_at}
use Rattle.body.specs.Body.{PropertyWalk, pass, properties, exactly, first_named}

unfoldable walk : List ℕ → ℕ → PropertyWalk
unfolding val number_at bytes_ok to_zero name_at step_at pass properties
walk s k = properties s k

unfoldable exact : List ℕ → ℕ → Bool
unfolding val number_at bytes_ok to_zero name_at step_at pass properties exactly
exact s k = exactly s k

unfoldable first : List ℕ → List ℕ → List ℕ → ℕ
unfolding val number_at same name_at first_named
first s name starts = first_named s name starts

-- a byte of the name given
abbrev one : ℕ → ℕ → List ℕ
one name value = 0x62 ∷ 0 ∷ 1 ∷ 0 ∷ 1 ∷ 0 ∷ 0 ∷ 0 ∷ name ∷ value ∷ []

-- `a`, `b`, and `a` again
abbrev three : List ℕ
three = one 97 5 ++ (one 98 6 ++ one 97 7)

-- all three, two of them, and one too many
walked : (walk three 3 ≡ record { number = 0; at = 30; starts = 0 ∷ 10 ∷ 20 ∷ [] })
    × (walk three 2 ≡ record { number = 0; at = 20; starts = 0 ∷ 10 ∷ [] })
    × (walk three 4 ≡ record { number = 10; at = 30; starts = 0 ∷ 10 ∷ 20 ∷ [] })
unfolding walk
walked = (refl, refl, refl)

-- the second has no such type
stopped : walk (one 97 5 ++ (0x61 ∷ 0 ∷ 1 ∷ 0 ∷ 1 ∷ 0 ∷ 0 ∷ 0 ∷ 98 ∷ 6 ∷ [])) 2 ≡ record { number = 11; at = 10; starts = 0 ∷ [] }
unfolding walk
stopped = refl

-- 64 properties are looked for, and 65 are not
limit : (walk [] 64 ≡ record { number = 10; at = 0; starts = [] }) × (walk [] 65 ≡ record { number = 9; at = 0; starts = [] })
unfolding walk
limit = (refl, refl)

exact_counts : (exact three 3 ≡ true) × (exact three 2 ≡ false) × (exact three 4 ≡ false) × (exact [] 0 ≡ true)
unfolding exact
exact_counts = (refl, refl, refl, refl)

-- the first `a`, `b`, and no `c`
named : (first three (97 ∷ []) (0 ∷ 10 ∷ 20 ∷ []) ≡ 0) × (first three (98 ∷ []) (0 ∷ 10 ∷ 20 ∷ []) ≡ 1)
    × (first three (99 ∷ []) (0 ∷ 10 ∷ 20 ∷ []) ≡ 3)
unfolding first
named = (refl, refl, refl)
