-- Numbers in bytes, computed by the definition.
use Rattle.std.specs.Prelude.{◌≡◌, refl, [], ◌∷◌}
use Rattle.le.specs.Le.{val, number_at, le}

-- "cast" at the start of a file, and its version; two bytes past the end count as zeros; all of it past the end
read : (number_at 4 (0x63 ∷ 0x61 ∷ 0x73 ∷ 0x74 ∷ 1 ∷ 0 ∷ 0 ∷ 0 ∷ []) 0 ≡ 0x74736163) × (number_at 4 (0x63 ∷ 0x61 ∷ 0x73 ∷ 0x74 ∷ 1 ∷ 0 ∷ 0 ∷ 0 ∷ []) 4 ≡ 1) × (number_at 4 (7 ∷ 8 ∷ 9 ∷ []) 1 ≡ 2312) × (number_at 2 (7 ∷ []) 1 ≡ 0)
unfolding val number_at
read = (refl, refl, refl, refl)

-- a kind's bytes spell its letters; a byte too few drops the highest
written : (le 4 0x746F6F72 ≡ 114 ∷ 111 ∷ 111 ∷ 116 ∷ []) × (le 2 0x010203 ≡ 3 ∷ 2 ∷ [])
unfolding le
written = (refl, refl)
