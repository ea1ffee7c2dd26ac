-- Document 01: "A name has 1 to 32 bytes, none of them zero and none `A` to `Z`"; and "`%d` is one to three digits, no
-- leading zero unless it is `0`".
use Rattle.std.specs.Prelude.{ℕ, ◌+◌, ◌-◌, ◌*◌, Bool, true, false, cond, ◌&&◌, not, List, [], ◌∷◌, eqb, leb, length, take, drop, None, Option, Some}

-- 1 to 32 bytes
abbrev pub size_ok : ℕ → Bool
size_ok n = leb 1 n && leb n 32

-- neither zero nor `A` to `Z`
abbrev pub byte_ok : ℕ → Bool
byte_ok b = not (eqb b 0) && not (leb 65 b && leb b 90)

unfoldable pub bytes_ok : List ℕ → Bool
bytes_ok [] = true
bytes_ok (b ∷ bs) = byte_ok b && bytes_ok bs

-- two names are the same bytes
unfoldable pub same : List ℕ → List ℕ → Bool
same [] [] = true
same [] (y ∷ ys) = false
same (x ∷ xs) [] = false
same (x ∷ xs) (y ∷ ys) = eqb x y && same xs ys

-- `0` to `9`
abbrev pub is_digit : ℕ → Bool
is_digit b = leb 48 b && leb b 57

-- the number that digits are, after the value of those before them
unfoldable pub read_digits : ℕ → List ℕ → Option ℕ
read_digits value [] = Some value
read_digits value (b ∷ bs) = cond (is_digit b) (read_digits (value * 10 + (b - 48)) bs) None

-- `%d`: one to three digits, no leading zero unless it is `0`
unfoldable pub number : List ℕ → Option ℕ
number [] = None
number (b ∷ bs) = cond (leb (length bs) 2 && not (eqb b 48 && leb 1 (length bs))) (read_digits 0 (b ∷ bs)) None

-- a prefix, and then `%d`
unfoldable pub number_after : List ℕ → List ℕ → Option ℕ
number_after name prefix = cond (same (take (length prefix) name) prefix) (number (drop (length prefix) name)) None

-- ---- document 01's values of an answer: whether a name has a number by `%d`, and which
pub record NumeralNumbers : Type 0 where
  pub is : Bool
  pub value : ℕ

abbrev pub numeral_numbers : Option ℕ → NumeralNumbers
-- "`%d` is one to three digits": that number
numeral_numbers (Some n) = record { is = true; value = n }
-- another name, for which the rules have no number: 0
numeral_numbers None = record { is = false; value = 0 }
