-- Types and properties, computed by the definition.
use Rattle.std.specs.Prelude.{ℕ, ◌+◌, ◌≡◌, refl, List, [], ◌∷◌, ◌++◌, map, take, replicate}
use Rattle.le.specs.Le.{val, number_at}
use Rattle.names.specs.Names.{bytes_ok}
use Rattle.props.specs.Types.{Bytes, Text, NoSuch}
use Rattle.props.specs.Step.{Step}
use Rattle.props.specs.Step.{Past, Refused}
use Rattle.props.specs.Types.{element_size}
use Rattle.props.specs.Step.{to_zero, step_at, header_at, data_at, name_at}

-- b h i l f d v2 v3 v4 s, by their letters; and v2 with its letters exchanged
types : map element_size (98 ∷ 104 ∷ 105 ∷ 108 ∷ 102 ∷ 100 ∷ 0x7632 ∷ 0x7633 ∷ 0x7634 ∷ 115 ∷ 0x3276 ∷ [])
    ≡ Bytes 1 ∷ Bytes 2 ∷ Bytes 4 ∷ Bytes 8 ∷ Bytes 4 ∷ Bytes 8 ∷ Bytes 8 ∷ Bytes 12 ∷ Bytes 16 ∷ Text ∷ NoSuch ∷ []
types = refl

unfoldable step : List ℕ → ℕ → Step
unfolding val number_at bytes_ok to_zero name_at step_at
step s at = step_at s at

-- past a property with a name of one byte
abbrev passing : ℕ → ℕ → Step
passing at next = Past (record { name = at + 8; start = at + 9 }) (record { at = next })

-- the header of type, name size and array length, all below 256
abbrev header : ℕ → ℕ → ℕ → List ℕ
header type size len = type ∷ 0 ∷ size ∷ 0 ∷ len ∷ 0 ∷ 0 ∷ 0 ∷ []

-- `f` with the three bytes 0 1 2; and the same with a byte before and after it
abbrev face : List ℕ
face = header 0x62 1 3 ++ (102 ∷ 0 ∷ 1 ∷ 2 ∷ [])

passed : (step face 0 ≡ passing 0 12) × (step (7 ∷ (face ++ (7 ∷ []))) 1 ≡ passing 1 13)
unfolding step
passed = (refl, refl)

-- two elements of v3
vertices : step (0x33 ∷ 0x76 ∷ 1 ∷ 0 ∷ 2 ∷ 0 ∷ 0 ∷ 0 ∷ 118 ∷ replicate 24 0) 0 ≡ passing 0 33
unfolding step
vertices = refl

-- cut in its header, its name and its data; and looked for past the end
cut : (step (take 7 face) 0 ≡ Refused 10) × (step (take 8 face) 0 ≡ Refused 10) × (step (take 11 face) 0 ≡ Refused 10) × (step face 13 ≡ Refused 10)
unfolding step
cut = (refl, refl, refl, refl)

-- no such type; no name, one of 33 bytes, one of `F`
wrong : (step (header 0x61 1 3 ++ (102 ∷ 0 ∷ 1 ∷ 2 ∷ [])) 0 ≡ Refused 11) × (step (header 0x62 0 3 ++ (0 ∷ 1 ∷ 2 ∷ [])) 0 ≡ Refused 11)
    × (step (header 0x62 33 0 ++ replicate 33 102) 0 ≡ Refused 11) × (step (header 0x62 1 0 ++ (70 ∷ [])) 0 ≡ Refused 11)
unfolding step
wrong = (refl, refl, refl, refl)

-- a name of 32 bytes and no elements
longest : step (header 0x62 32 0 ++ replicate 32 102) 0 ≡ Past (record { name = 8; start = 40 }) (record { at = 40 })
unfolding step
longest = refl

-- "ab" and its zero, with a byte after it; of array length 2; without the zero
text : (step (header 0x73 1 1 ++ (110 ∷ 97 ∷ 98 ∷ 0 ∷ 7 ∷ [])) 0 ≡ passing 0 12) × (step (header 0x73 1 2 ++ (110 ∷ 97 ∷ 0 ∷ 0 ∷ [])) 0 ≡ Refused 11)
    × (step (header 0x73 1 1 ++ (110 ∷ 97 ∷ 98 ∷ [])) 0 ≡ Refused 10)
unfolding step
text = (refl, refl, refl)

-- of two faults with different numbers the earlier in the order speaks: header fits (10) before type (11); type (11)
-- before name fits (10); name size (11) before name fits (10); name fits (10) before name bytes (11); name bytes (11)
-- before data fits (10), of bytes and of a string; string length (11) before data fits (10)
ordered : map (λ s. step s 0)
    (take 7 (header 0x61 1 3) ∷ header 0x61 3 0 ∷ header 0x62 33 0 ∷ (header 0x62 3 0 ++ (70 ∷ [])) ∷ (header 0x62 1 3 ++ (70 ∷ [])) ∷
    (header 0x73 1 1 ++ (70 ∷ 97 ∷ [])) ∷ (header 0x73 1 2 ++ (110 ∷ 97 ∷ [])) ∷ [])
    ≡ Refused 10 ∷ Refused 11 ∷ Refused 11 ∷ Refused 10 ∷ Refused 11 ∷ Refused 11 ∷ Refused 11 ∷ []
unfolding step
ordered = refl

-- the name and the data of the property, and of one that is cut in its name
parts : (data_at face 0 ≡ 9) × (name_at face 0 ≡ 102 ∷ []) × (data_at (header 0x62 3 0 ++ (102 ∷ [])) 0 ≡ 9)
    × (name_at (header 0x62 3 0 ++ (102 ∷ [])) 0 ≡ 102 ∷ [])
unfolding val number_at data_at name_at
parts = (refl, refl, refl, refl)

-- the header of the property after a byte, and of one that is cut in its array length
heads : (header_at (7 ∷ face) 1 ≡ record { code = 0x62; size = 1; length = 3 }) × (header_at (take 4 face) 0 ≡ record { code = 0x62; size = 1; length = 0 })
unfolding val number_at
heads = (refl, refl)
