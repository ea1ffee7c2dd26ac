-- Text: bytes in a lent buffer, and numbers as text.
use Rattle.std.specs.Prelude.{ℕ, zero, suc, ◌+◌, ◌-◌, ◌/◌, ◌%◌, cond, List, [], ◌∷◌, ◌++◌, ltb, leb, length}
use Rattle.std.proofs.lemmas.List.Edits.{sets}

-- a text where there is room for all of it, and none where there is not
unfoldable pub fitted : (text : List ℕ) (room : ℕ) → List ℕ
fitted text room = cond (leb (length text) room) text []

-- a buffer with a text put at a place, where there is room for all of it, and all else as it was; and the place after the
-- text, or where there is no room the place itself. At place 0 that is how many bytes were put.
unfoldable pub with_text : (out : List ℕ) (at : ℕ) (text : List ℕ) → List ℕ
with_text out at text = sets out at (fitted text (length out - at))

unfoldable pub place_after : (out : List ℕ) (at : ℕ) (text : List ℕ) → ℕ
place_after out at text = at + length (fitted text (length out - at))

-- `0` to `9`, then `A` to `F`
unfoldable pub glyph : ℕ → ℕ
glyph d = cond (ltb d 10) (48 + d) (55 + d)

-- the k lowest digits of a number in a base, the highest first
unfoldable pub digits : (base k n : ℕ) → List ℕ
digits base zero n = []
digits base (suc k) n = digits base k (n / base) ++ (glyph (n % base) ∷ [])

-- how many digits a number has in decimal, of at most `most`
unfoldable pub digit_count : (most n : ℕ) → ℕ
digit_count zero n = 0
digit_count (suc m) n = cond (ltb n 10) 1 (suc (digit_count m (n / 10)))

-- a number below 10 ^ 20, and so one of 64 bits, has at most 20
abbrev pub decimal_size : ℕ → ℕ
decimal_size n = digit_count 20 n

-- a number below 10 ^ 20 in decimal, with no leading zeros (specs/Statements.antt)
abbrev pub decimal : ℕ → List ℕ
decimal n = digits 10 (decimal_size n) n

-- a number of 32 bits in hexadecimal, with leading zeros
abbrev pub hexadecimal : ℕ → List ℕ
hexadecimal n = digits 16 8 n
