-- A name is a prefix and `%d` by the reading's test exactly where it is the prefix and a number below 1,000 in decimal.
use Prim.Native.Nat.{ℕ, ◌+◌, ◌-◌, ◌*◌, ◌/◌, ◌%◌, ◌≤◌, ◌<◌}
use native.Mathlib.Omega.{arith}
use mathlib.Core.Path.{◌≡◌, refl, sym, ap, ◌∙◌}
use mathlib.Core.Bool.{true, false≢true, and-eq-true_iff}
use mathlib.Core.List.{List, [], ◌∷◌, ◌++◌}
use lib.Dec.{eqb, leb, ltb}
use lib.ListN.{length, take, drop, take-append-drop}
use lib.Seq.{take-append_seam, drop-append_seam}
use borrow.Author.Tests.{eqb-false, ne_eqb, leb-true, le-leb, lt-ltb, le-ltb, ltb-true, ltb-false}
use Rattle.base.proofs.Tests.{by_test}
use Rattle.names.specs.Names.{same, is_digit, number, number_after}
use Rattle.names.specs.Names.{read_digits as numeral}
use Rattle.names.proofs.Laws.{same_eq, same_refl, number_long}
use Rattle.text.specs.Text.{glyph, digits, digit_count, decimal}
use Rattle.rules.specs.Rules.{is_number}
use Rattle.valid.specs.Lines.{Numbered}
use Rattle.valid.proofs.Says.{Says}

-- ---- a number below 1,000 in decimal
digit : (d : ℕ) → d < 10 → glyph d ≡ 48 + d
unfolding glyph
digit d h = rw (lt-ltb d 10 h)

one : (n : ℕ) → n < 10 → decimal n ≡ (48 + n) ∷ []
unfolding digit_count digits
one n h =
    let same : n % 10 ≡ n = omega arith in
    rw (lt-ltb n 10 h, same, digit n h)

two : (n : ℕ) → 10 ≤ n → n < 100 → decimal n ≡ (48 + n / 10) ∷ (48 + n % 10) ∷ []
unfolding digit_count digits
two n h k =
    let low : n / 10 % 10 ≡ n / 10 = omega arith in
    rw (le-ltb n 10 h, lt-ltb (n / 10) 10 (omega arith), low, digit (n / 10) (omega arith), digit (n % 10) (omega arith))

three : (n : ℕ) → 100 ≤ n → n < 1000 → decimal n ≡ (48 + n / 10 / 10) ∷ (48 + n / 10 % 10) ∷ (48 + n % 10) ∷ []
unfolding digit_count digits
three n h k =
    let low : n / 10 / 10 % 10 ≡ n / 10 / 10 = omega arith in
    rw (le-ltb n 10 (omega arith), le-ltb (n / 10) 10 (omega arith), lt-ltb (n / 10 / 10) 10 (omega arith), low, digit (n / 10 / 10) (omega arith), digit (n / 10 % 10) (omega arith), digit (n % 10) (omega arith))

-- ---- digits that are a number
pub record Spelt (l : List ℕ) : Type 0 where
  pub number : ℕ
  pub below : number < 1000
  pub spelt : l ≡ decimal number

in_range : (b : ℕ) → is_digit b ≡ true → (48 ≤ b) × (b ≤ 57)
in_range b e = let both = (and-eq-true_iff (leb 48 b) (leb b 57)).0 e in (leb-true 48 b both.0, leb-true b 57 both.1)

is_digit_lem : (b : ℕ) → 48 ≤ b → b ≤ 57 → is_digit b ≡ true
is_digit_lem b h k = rw (le-leb 48 b h, le-leb b 57 k)

to_spelt : (l : List ℕ) → is_number (number l) ≡ true → Spelt l
unfolding number numeral
to_spelt [] e = absurd (false≢true e)
to_spelt (b ∷ []) e =
    by_test (is_digit b)
    (λ t. let r = in_range b t in
    let back : b ≡ 48 + (b - 48) = omega (arith, r.0) in
    record { number = b - 48; below = omega (arith, r.1); spelt = ap (λ x. x ∷ []) back ∙ sym (one (b - 48) (omega (arith, r.1))) })
    (λ t. by_test (eqb b 48) (λ z. absurd (false≢true (rw (z, t) at e))) (λ z. absurd (false≢true (rw (z, t) at e))))
to_spelt (b ∷ c ∷ []) e =
    by_test (eqb b 48) (λ z. absurd (false≢true (rw z at e)))
    (λ z. by_test (is_digit b)
    (λ t. by_test (is_digit c)
    (λ u.
    let r = in_range b t in
    let q = in_range c u in
    let n : ℕ = (b - 48) * 10 + (c - 48) in
    let first : b ≡ 48 + n / 10 = omega (arith, r.0, r.1, q.0, q.1) in
    let second : c ≡ 48 + n % 10 = omega (arith, r.0, r.1, q.0, q.1) in
    let large : 10 ≤ n = omega (arith, r.0, eqb-false b 48 z) in
    let small : n < 100 = omega (arith, r.1, q.1) in
    record { number = n; below = omega (arith, small); spelt = ap (λ x. x ∷ c ∷ []) first ∙ ap (λ x. (48 + n / 10) ∷ x ∷ []) second ∙ sym (two n large small) })
    (λ u. absurd (false≢true (rw (z, t, u) at e))))
    (λ t. absurd (false≢true (rw (z, t) at e))))
to_spelt (b ∷ c ∷ d ∷ []) e =
    by_test (eqb b 48) (λ z. absurd (false≢true (rw z at e)))
    (λ z. by_test (is_digit b)
    (λ t. by_test (is_digit c)
    (λ u. by_test (is_digit d)
    (λ v.
    let r = in_range b t in
    let q = in_range c u in
    let p = in_range d v in
    let n : ℕ = ((b - 48) * 10 + (c - 48)) * 10 + (d - 48) in
    let first : b ≡ 48 + n / 10 / 10 = omega (arith, r.0, r.1, q.0, q.1, p.0, p.1) in
    let second : c ≡ 48 + n / 10 % 10 = omega (arith, r.0, r.1, q.0, q.1, p.0, p.1) in
    let third : d ≡ 48 + n % 10 = omega (arith, r.0, r.1, q.0, q.1, p.0, p.1) in
    let large : 100 ≤ n = omega (arith, r.0, eqb-false b 48 z) in
    let small : n < 1000 = omega (arith, r.1, q.1, p.1) in
    record {
      number = n;
      below = small;
      spelt = ap (λ x. x ∷ c ∷ d ∷ []) first ∙ ap (λ x. (48 + n / 10 / 10) ∷ x ∷ d ∷ []) second
          ∙ ap (λ x. (48 + n / 10 / 10) ∷ (48 + n / 10 % 10) ∷ x ∷ []) third ∙ sym (three n large small);
    })
    (λ v. absurd (false≢true (rw (z, t, u, v) at e))))
    (λ u. absurd (false≢true (rw (z, t, u) at e))))
    (λ t. absurd (false≢true (rw (z, t) at e))))
to_spelt (b ∷ c ∷ d ∷ f ∷ l) e = absurd (false≢true (sym (ap is_number (number_long (b ∷ c ∷ d ∷ f ∷ l) (omega arith))) ∙ e))

from_spelt : (l : List ℕ) → Spelt l → is_number (number l) ≡ true
unfolding number numeral
from_spelt l s =
    let n = s.number in
    by_test (ltb n 10)
    (λ t.
    let h : n < 10 = ltb-true n 10 t in
    rw (s.spelt, one n h, is_digit_lem (48 + n) (omega arith) (omega arith)) (by_test (eqb (48 + n) 48) (λ z. rw z) (λ z. rw z)))
    (λ t. by_test (ltb n 100)
    (λ u.
    let h : 10 ≤ n = ltb-false n 10 t in
    let k : n < 100 = ltb-true n 100 u in
    rw (s.spelt, two n h k, ne_eqb (48 + n / 10) 48 (λ z. omega (arith, z, h)), is_digit_lem (48 + n / 10) (omega arith) (omega (arith, k)), is_digit_lem (48 + n % 10) (omega arith) (omega arith)))
    (λ u.
    let h : 100 ≤ n = ltb-false n 100 u in
    rw (
      s.spelt,
      three n h s.below,
      ne_eqb (48 + n / 10 / 10) 48 (λ z. omega (arith, z, h)),
      is_digit_lem (48 + n / 10 / 10) (omega arith) (omega (arith, s.below)),
      is_digit_lem (48 + n / 10 % 10) (omega arith) (omega arith),
      is_digit_lem (48 + n % 10) (omega arith) (omega arith),
    )))

-- ---- a prefix and such digits
pub says_numbered : (name prefix : List ℕ) → Says (is_number (number_after name prefix)) (Numbered prefix name)
unfolding number_after
says_numbered name prefix = (
  λ e. by_test (same (take (length prefix) name) prefix)
      (λ t.
      let digits = to_spelt (drop (length prefix) name) (rw t at e) in
      record {
        number = digits.number;
        below = digits.below;
        spelt = sym (take-append-drop (length prefix) name) ∙ ap (λ l. l ++ drop (length prefix) name) (same_eq _ _ t) ∙ ap (λ l. prefix ++ l) digits.spelt;
      })
      (λ t. absurd (false≢true (rw t at e))),
  λ n.
      let text = decimal n.number in
      rw (n.spelt, take-append_seam prefix text, drop-append_seam prefix text, same_refl prefix)
      (from_spelt text (record { number = n.number; below = n.below; spelt = refl })),
)
