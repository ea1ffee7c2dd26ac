-- Names, computed by the definition.
use Rattle.std.specs.Prelude.{ℕ, ◌≡◌, refl, true, false, List, [], ◌∷◌, None, Option, Some}
use Rattle.names.specs.Names.{size_ok, bytes_ok, same, read_digits, number, number_after}

-- what bytes are as a name `c%d`
unfoldable c_percent_d : List ℕ → Option ℕ
unfolding same read_digits number number_after
c_percent_d name = number_after name (99 ∷ [])

-- what bytes are as a name `extra%d`
unfoldable prefixed : List ℕ → Option ℕ
unfolding same read_digits number number_after
prefixed name = number_after name (101 ∷ 120 ∷ 116 ∷ 114 ∷ 97 ∷ [])

-- c0, c10, c999
numbers : (c_percent_d (99 ∷ 48 ∷ []) ≡ Some 0) × (c_percent_d (99 ∷ 49 ∷ 48 ∷ []) ≡ Some 10) × (c_percent_d (99 ∷ 57 ∷ 57 ∷ 57 ∷ []) ≡ Some 999)
unfolding c_percent_d
numbers = (refl, refl, refl)

-- c00, c01
leading : (c_percent_d (99 ∷ 48 ∷ 48 ∷ []) ≡ None) × (c_percent_d (99 ∷ 48 ∷ 49 ∷ []) ≡ None)
unfolding c_percent_d
leading = (refl, refl)

-- c, c1000
other_counts : (c_percent_d (99 ∷ []) ≡ None) × (c_percent_d (99 ∷ 49 ∷ 48 ∷ 48 ∷ 48 ∷ []) ≡ None)
unfolding c_percent_d
other_counts = (refl, refl)

-- c1a, c1/, c1:
no_digit : (c_percent_d (99 ∷ 49 ∷ 97 ∷ []) ≡ None) × (c_percent_d (99 ∷ 49 ∷ 47 ∷ []) ≡ None) × (c_percent_d (99 ∷ 49 ∷ 58 ∷ []) ≡ None)
unfolding c_percent_d
no_digit = (refl, refl, refl)

-- u1
other_prefix : c_percent_d (117 ∷ 49 ∷ []) ≡ None
unfolding c_percent_d
other_prefix = refl

-- extra0, extra10, and extra alone
longer_prefix : (prefixed (101 ∷ 120 ∷ 116 ∷ 114 ∷ 97 ∷ 48 ∷ []) ≡ Some 0) × (prefixed (101 ∷ 120 ∷ 116 ∷ 114 ∷ 97 ∷ 49 ∷ 48 ∷ []) ≡ Some 10) × (prefixed (101 ∷ 120 ∷ 116 ∷ 114 ∷ 97 ∷ []) ≡ None)
unfolding prefixed
longer_prefix = (refl, refl, refl)

sizes : (size_ok 0 ≡ false) × (size_ok 1 ≡ true) × (size_ok 32 ≡ true) × (size_ok 33 ≡ false)
sizes = (refl, refl, refl, refl)

-- aA, aM, aZ, a and zero
refused : (bytes_ok (97 ∷ 65 ∷ []) ≡ false) × (bytes_ok (97 ∷ 77 ∷ []) ≡ false) × (bytes_ok (97 ∷ 90 ∷ []) ≡ false) × (bytes_ok (97 ∷ 0 ∷ []) ≡ false)
unfolding bytes_ok
refused = (refl, refl, refl, refl)

-- the bytes on either side of `A` to `Z`, and the greatest
admitted : bytes_ok (64 ∷ 91 ∷ 255 ∷ []) ≡ true
unfolding bytes_ok
admitted = refl
