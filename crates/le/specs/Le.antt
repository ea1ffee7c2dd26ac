-- Document 01: "All numbers are little-endian." One definition for every width.
use Rattle.std.specs.Prelude.{ℕ, zero, suc, ◌+◌, ◌*◌, ◌/◌, ◌%◌, ◌<◌, List, [], ◌∷◌, take, drop, get_or}

-- the number that bytes are, the lowest first
unfoldable pub val : List ℕ → ℕ
val [] = 0
val (b ∷ bs) = b + 256 * val bs

-- the number of w bytes at a place; a byte past the end counts as zero
unfoldable pub number_at : ℕ → List ℕ → ℕ → ℕ
number_at w bs at = val (take w (drop at bs))

-- the w lowest bytes of a number, the lowest first
unfoldable pub le : ℕ → ℕ → List ℕ
le zero x = []
le (suc w) x = (x % 256) ∷ le w (x / 256)

-- numbers that are bytes
abbrev pub AreBytes : List ℕ → Type 0
AreBytes bs = (i : ℕ) → get_or bs i 0 < 256
