-- The values of a property that fits its line, read at its place.
use Prim.Native.Nat.{ℕ, suc, ◌+◌, ◌*◌, ◌≤◌, ◌<◌}
use native.Mathlib.Omega.{arith}
use native.Mathlib.Nat.{zero-mul, suc-mul, mul-le-mul_right, le-mul_of_pos_right}
use mathlib.Core.Path.{◌≡◌, refl, sym, ap}
use mathlib.Core.Bool.{true, ◌||◌, false≢true}
use mathlib.Core.List.{List, ◌++◌}
use lib.Dec.{eqb}
use lib.ListN.{length, drop, length-drop}
use lib.Seq.{take-append-le, drop-append-le, take_at}
use borrow.Author.Tests.{eq-eqb, eqb-true}
use Rattle.le.specs.Le.{val, number_at}
use Rattle.base.proofs.Tests.{by_test}
use Rattle.props.specs.Types.{Bytes}
use Rattle.props.specs.Types.{element_size, byte, short, int, long, float, v4, string}
use Rattle.faces.specs.Faces.{width_of}
use Rattle.rules.specs.Table.{Types, only, N, key_type, any_type}
use Rattle.rules.specs.Rules.{is_n, takes}
use Rattle.judge.specs.Properties.{rest_at, value_at}
use Rattle.format.specs.Layout.{Property, EndsInZero}
use Rattle.valid.specs.Lines.{IsN, IsKeyType, Takes}
use Rattle.valid.specs.Obeys.{value}
use Rattle.valid.proofs.Says.{Says, says_eqb, says_or, turned}
use Rattle.valid.proofs.Described.{At}

number_front : (w : ℕ) (c more : List ℕ) (at : ℕ) → at + w ≤ length c → number_at w (c ++ more) at ≡ number_at w c at
unfolding number_at
number_front w c more at h = rw (drop-append-le at c more (omega arith), take-append-le w (drop at c) more (simp length-drop (omega arith)))

-- ---- types
pub says_n : (code : ℕ) → Says (is_n code) (IsN code)
says_n code =
    turned (says_or (eqb code byte || eqb code short) (eqb code int) (says_or (eqb code byte) (eqb code short) (says_eqb code byte) (says_eqb code short)) (says_eqb code int))

says_key : (code : ℕ) → Says ((is_n code || eqb code float) || eqb code v4) (IsKeyType code)
says_key code = turned (says_or (is_n code || eqb code float) (eqb code v4) (says_or (is_n code) (eqb code float) (says_n code) (says_eqb code float)) (says_eqb code v4))

pub says_takes : (types : Types) (code : ℕ) → Says (takes types code) (Takes types code)
says_takes (only type) code = (λ e. sym (eqb-true type code e), λ e. eq-eqb type code (sym e))
says_takes N code = says_n code
says_takes key_type code = says_key code
says_takes any_type code = (λ e. tt, λ e. refl)

-- a property of a line of one type is of it, and one of N is a number
pub takes_only : {types : Types} {code type : ℕ} → Takes types code → types ≡ only type → code ≡ type
takes_only h e = rw e at h

pub takes_number : {types : Types} (code : ℕ) → Takes types code → types ≡ N → is_n code ≡ true
takes_number code h e = (says_n code).1 (rw e at h)

-- ---- numbers of b h i
pub width_size : (code : ℕ) → is_n code ≡ true → element_size code ≡ Bytes (width_of code)
unfolding width_of
width_size code h =
    by_test (eqb code 0x62) (λ e. rw e)
    (λ e. by_test (eqb code 0x68) (λ f. rw (e, f))
    (λ f. by_test (eqb code 0x69) (λ g. rw (e, f, g))
    (λ g. absurd (false≢true (rw (e, f, g) at h)))))

width_some : (code : ℕ) → 1 ≤ width_of code
unfolding width_of
width_some code =
    by_test (eqb code 0x62) (λ e. rw e (omega arith)) (λ e. by_test (eqb code 0x68) (λ f. rw (e, f) (omega arith)) (λ f. rw (e, f) (omega arith)))

module _ {s : List ℕ} {at : ℕ} {p : Property} (a : At s at p) where
  content_size : is_n p.code ≡ true → length p.content ≡ p.elements * width_of p.code
  content_size n = rw (width_size p.code n) at a.good.3

  pub elements_most : is_n p.code ≡ true → p.elements ≤ length p.content
  elements_most n = rw (content_size n) (le-mul_of_pos_right p.elements (width_some p.code))

  pub values_read : is_n p.code ≡ true → (k : ℕ) → k < p.elements → number_at (width_of p.code) (rest_at s at) (k * width_of p.code) ≡ value p k
  values_read n k h =
      let w : ℕ = width_of p.code in
      let room : k * w + w ≤ p.elements * w = rw suc-mul at (mul-le-mul_right {m = suc k} w h) in
      rw a.rest (number_front w p.content a.more (k * w) (omega (arith, content_size n)))

  pub value_read : is_n p.code ≡ true → p.elements ≡ 1 → value_at s at ≡ value p 0
  value_read n one = rw (a.code, zero-mul) (rw zero-mul at (values_read n 0 (omega arith)))

  -- ---- a link's hash
  pub hash_read : p.code ≡ long → p.elements ≡ 1 → number_at 8 (rest_at s at) 0 ≡ val p.content
  unfolding number_at
  hash_read c one =
      let size : length p.content ≡ p.elements * 8 = rw c at a.good.3 in
      rw a.rest (ap val (take_at p.content a.more 8 (omega arith)))

  -- ---- a string
  pub string_ends : p.code ≡ string → EndsInZero p.content
  string_ends c = (rw c at a.good.3).1
