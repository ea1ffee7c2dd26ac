-- What a number in decimal is: the digits that read as the number, with no zero before them but of 0 itself.
use Rattle.std.specs.Prelude.{ℕ, ◌^◌, ◌≤◌, ◌<◌, ◌≡◌, [], ◌∷◌, get_or, Some}
use Rattle.names.specs.Names.{read_digits as numeral}
use Rattle.text.specs.Text.{decimal}

-- `numeral 0` reads digits; a number of 64 bits is below 10 ^ 20
abbrev pub DecimalReadsBack : Type 0
DecimalReadsBack = (n : ℕ) → n < 10 ^ 20 → numeral 0 (decimal n) ≡ Some n

-- 48 is `0`
abbrev pub OfZero : Type 0
OfZero = decimal 0 ≡ 48 ∷ []

abbrev pub NoLeadingZero : Type 0
NoLeadingZero = (n : ℕ) → 1 ≤ n → n < 10 ^ 20 → get_or (decimal n) 0 0 ≡ 48 → ⊥
