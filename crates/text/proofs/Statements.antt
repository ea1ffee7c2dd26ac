-- Decimal digits read as the number that they are of, and do not start with a zero.
use Rattle.std.specs.Prelude.{Some, None}
use Prim.Native.Nat.{ℕ, zero, suc, ◌+◌, ◌-◌, ◌*◌, ◌/◌, ◌%◌, ◌^◌, ◌≤◌, ◌<◌}
use native.Mathlib.Nat.{pow-suc, div-add-mod', div-lt_iff_lt-mul, mod-lt}
use native.Mathlib.Omega.{arith}
use mathlib.Core.Path.{◌≡◌, refl, ap, sym, ◌∙◌}
use mathlib.Core.Bool.{true}
use mathlib.Core.List.{List, [], ◌∷◌, ◌++◌}
use lib.Dec.{ltb}
use lib.ListN.{length, get_or, get_or-append}
use borrow.Author.Tests.{lt-ltb, le-leb, ltb-true, ltb-false}
use Rattle.base.proofs.Tests.{by_test}
use Rattle.names.specs.Names.{is_digit}
use Rattle.names.specs.Names.{read_digits as numeral}
use Rattle.text.specs.Text.{glyph, digits, digit_count}
use Rattle.text.specs.Statements.{DecimalReadsBack, OfZero, NoLeadingZero}
use Rattle.text.proofs.Laws.{tenth, length_digits}

-- a number below ten is told by one digit
module _ (d : ℕ) (h : d < 10) where
  glyph_is : glyph d ≡ 48 + d
  unfolding glyph
  glyph_is = rw (lt-ltb d 10 h)

  glyph_digit : is_digit (glyph d) ≡ true
  glyph_digit = rw (glyph_is, le-leb 48 (48 + d) (omega arith), le-leb (48 + d) 57 (omega arith))

-- one more digit is read
numeral_more : (v : ℕ) (xs : List ℕ) (b m : ℕ) → is_digit b ≡ true → numeral v xs ≡ Some m → numeral v (xs ++ (b ∷ [])) ≡ Some (m * 10 + (b - 48))
unfolding numeral
numeral_more v [] b m d e = rw d (ap (λ n. Some (n * 10 + (b - 48))) (cc))
numeral_more v (x ∷ xs) b m d e =
    by_test (is_digit x)
    (λ t. rw t (numeral_more (v * 10 + (x - 48)) xs b m d (rw t at e)))
    (λ t. let no : None ≡ Some m = rw t at e in cc)

digits_read : (k n : ℕ) → n < 10 ^ k → numeral 0 (digits 10 k n) ≡ Some n
unfolding numeral digits
digits_read zero n h = ap Some (omega arith)
digits_read (suc k) n h =
    let below = mod-lt n {m = 10} (omega arith) in
    numeral_more 0 (digits 10 k (n / 10)) (glyph (n % 10)) (n / 10) (glyph_digit (n % 10) below) (digits_read k (n / 10) (tenth k n h))
    ∙ ap Some (omega (arith, glyph_is (n % 10) below, div-add-mod' n 10))

-- as many digits as there are hold the number
size_holds : (most n : ℕ) → n < 10 ^ most → n < 10 ^ digit_count most n
unfolding digit_count
size_holds zero n h = h
size_holds (suc m) n h =
    by_test (ltb n 10)
    (λ e. rw e (ltb-true n 10 e))
    (λ e.
    let more = (div-lt_iff_lt-mul {k = 10} {x = n} {y = 10 ^ digit_count m (n / 10)} (omega arith)).0 (size_holds m (n / 10) (tenth m n h)) in
    rw (e, pow-suc 10 (digit_count m (n / 10))) more)

pub reads_back : DecimalReadsBack
reads_back n h = digits_read (digit_count 20 n) n (size_holds 20 n h)

pub of_zero : OfZero
unfolding glyph digits digit_count
of_zero = refl

-- a number of no digits is zero
some : (p n : ℕ) → 1 ≤ n → n < 10 ^ p → 0 < p
some zero n l h = absurd (omega arith)
some (suc p) n l h = omega arith

leads : (most n : ℕ) → 1 ≤ n → n < 10 ^ most → get_or (digits 10 (digit_count most n) n) 0 0 ≡ 48 → ⊥
unfolding digit_count digits
leads zero n l h e = omega arith
leads (suc m) n l h e =
    by_test (ltb n 10)
    (λ t. omega (arith, rw t at e, glyph_is (n % 10) (mod-lt n {m = 10} (omega arith)), ltb-true n 10 t))
    (λ t.
    let p = digit_count m (n / 10) in
    let more = ltb-false n 10 t in
    let long : 0 < length (digits 10 p (n / 10)) = rw (length_digits 10 p (n / 10)) (some p (n / 10) (omega arith) (size_holds m (n / 10) (tenth m n h))) in
    leads m (n / 10) (omega arith) (tenth m n h) (sym (get_or-append (digits 10 p (n / 10)) (glyph (n % 10) ∷ []) 0 0 long) ∙ rw t at e))

pub no_leading_zero : NoLeadingZero
no_leading_zero n l h e = leads 20 n l h e
