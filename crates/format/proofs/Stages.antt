-- The stages of a step, each against the layout's rule: what the rule says is let pass, and nothing else is.
use Prim.Native.Nat.{ℕ, suc, ◌+◌, ◌*◌, ◌≤◌}
use native.Mathlib.Omega.{arith}
use mathlib.Core.Path.{◌≡◌, refl, ap}
use mathlib.Core.Bool.{Bool, true, false, cond, not, ◌&&◌, and-eq-true_iff}
use mathlib.Core.List.{List, [], ◌∷◌, ◌++◌, append_assoc}
use lib.Dec.{eqb, leb, ltb}
use lib.ListN.{length, take, length-append}
use lib.Seq.{length-take-le}
use borrow.Author.Tests.{eq-eqb, ne_eqb, eqb-true, eqb-false, leb-true, leb-false, le-leb, lt-leb, ltb-false, not-true}
use Rattle.base.proofs.Tests.{by_test}
use Rattle.names.specs.Names.{size_ok, byte_ok, bytes_ok}
use Rattle.props.specs.Types.{Size}
use Rattle.props.specs.Types.{Bytes, Text, NoSuch}
use Rattle.props.specs.declared.Cursor.{Cursor}
use Rattle.props.specs.declared.Offsets.{Offsets}
use Rattle.props.specs.Step.{Step}
use Rattle.props.specs.Step.{Past, Refused}
use Rattle.props.specs.Types.{element_size, no_such}
use Rattle.props.specs.Step.{header_refusal, data_refusal, to_zero}
use Rattle.props.specs.Private.{fit, data_of}
use Rattle.props.proofs.Cases.{no_type, no_name, name_fits, fit_in, elements_fit, past}
use Rattle.base.specs.Lists.{Each}
use Rattle.format.specs.Layout.{NameByte, EndsInZero, Content}

-- ---- a name's size and bytes
pub size_good : (n : ℕ) → 1 ≤ n → n ≤ 32 → size_ok n ≡ true
size_good n h k = rw (le-leb 1 n h, le-leb n 32 k)

pub size_sound : (n : ℕ) → size_ok n ≡ true → (1 ≤ n) × (n ≤ 32)
size_sound n e =
    let both = (and-eq-true_iff (leb 1 n) (leb n 32)).0 e in
    (leb-true 1 n both.0, leb-true n 32 both.1)

byte_good : (b : ℕ) → NameByte b → byte_ok b ≡ true
byte_good b h =
    rw (ne_eqb b 0 h.0)
    (by_test (leb 65 b) (λ e. rw (e, lt-leb b 90 (h.1 (leb-true 65 b e)))) (λ e. rw e))

byte_sound : (b : ℕ) → byte_ok b ≡ true → NameByte b
byte_sound b e =
    let both = (and-eq-true_iff (not (eqb b 0)) (not (leb 65 b && leb b 90))).0 e in
    let letter = not-true (leb 65 b && leb b 90) both.1 in
    (eqb-false b 0 (not-true (eqb b 0) both.0), λ k. leb-false b 90 (rw (le-leb 65 b k) at letter))

pub bytes_good : (l : List ℕ) → Each NameByte l → bytes_ok l ≡ true
unfolding bytes_ok
bytes_good [] h = refl
bytes_good (b ∷ l) h = rw (byte_good b h.0) (bytes_good l h.1)

pub bytes_sound : (l : List ℕ) → bytes_ok l ≡ true → Each NameByte l
unfolding bytes_ok
bytes_sound [] e = tt
bytes_sound (b ∷ l) e =
    let both = (and-eq-true_iff (byte_ok b) (bytes_ok l)).0 e in
    (byte_sound b both.0, bytes_sound l both.1)

-- ---- a string
zero_after : (text rest : List ℕ) → Each (λ b. b ≡ 0 → ⊥) text → to_zero (text ++ (0 ∷ rest)) ≡ suc (length text)
unfolding to_zero
zero_after [] rest h = refl
zero_after (b ∷ text) rest h = rw (ne_eqb b 0 h.0) (ap suc (zero_after text rest h.1))

zero_good : (content rest : List ℕ) → EndsInZero content → to_zero (content ++ rest) ≡ length content
zero_good content rest h =
    rw (h.ends, append_assoc h.text (0 ∷ []) rest, zero_after h.text rest h.nonzero, length-append h.text (0 ∷ []))
    (omega arith)

zero_sound : (l : List ℕ) → to_zero l ≤ length l → EndsInZero (take (to_zero l) l)
unfolding to_zero
zero_sound [] h = absurd (omega arith)
zero_sound (b ∷ l) h = by (eqb b 0) refl h (zero_sound l)
  where
    by : (t : Bool) → eqb b 0 ≡ t → cond t 1 (suc (to_zero l)) ≤ suc (length l) →
        (to_zero l ≤ length l → EndsInZero (take (to_zero l) l)) → EndsInZero (take (cond t 1 (suc (to_zero l))) (b ∷ l))
    by true e h ih = record { text = []; nonzero = tt; ends = ap (λ x. x ∷ []) (eqb-true b 0 e) }
    by false e h ih =
        let r = ih (omega arith) in
        record { text = b ∷ r.text; nonzero = (eqb-false b 0 e, r.nonzero); ends = ap (λ l. b ∷ l) r.ends }

-- ---- the data: how many bytes it takes, and where the next property is
module _ (at start : ℕ) where
  abbrev passed : ℕ → Step
  passed n = Past (record { name = at + 8; start = start }) (record { at = start + n })

  fit_good : (content rest : List ℕ) → passed (length content) ≡ past at start (fit (length content) (length (content ++ rest)))
  fit_good content rest = ap (past at start) (fit_in (length content) (length (content ++ rest)) (simp length-append (omega arith)))

  pub data_good : (size : Size) (n : ℕ) (content rest : List ℕ) → Content size n content →
      passed (length content) ≡ past at start (data_of size n (content ++ rest))
  unfolding data_refusal data_of
  data_good (Bytes w) n content rest h = rw (elements_fit w n (content ++ rest), ← h) (fit_good content rest)
  data_good Text n content rest h = rw (eq-eqb n 1 h.0, zero_good content rest h.1) (fit_good content rest)
  data_good NoSuch n content rest h = absurd h

  module _ {q : Offsets} {next : Cursor} where
    fit_sound : (n room : ℕ) → past at start (fit n room) ≡ Past q next → (n ≤ room) × (start + n ≡ next.at)
    fit_sound n room e =
        by_test (ltb room n) (λ t. let z : ◌≡◌ {A = ℕ} 0 1 = cc (rw t at e) in absurd (omega arith))
        (λ t. let f : passed n ≡ Past q next = rw t at e in (ltb-false room n t, cc))

    pub data_sound : (size : Size) (n : ℕ) (l : List ℕ) → past at start (data_of size n l) ≡ Past q next →
        (k : ℕ) × (k ≤ length l) × Content size n (take k l) × (start + k ≡ next.at)
    unfolding data_refusal data_of
    data_sound (Bytes w) n l e =
        let r = fit_sound (n * w) (length l) (rw (elements_fit w n l) at e) in
        (n * w, r.0, length-take-le (n * w) l r.0, r.1)
    data_sound Text n l e =
        by_test (eqb n 1)
        (λ t. let r = fit_sound (to_zero l) (length l) (rw t at e) in (to_zero l, r.0, (eqb-true n 1 t, zero_sound l r.0), r.1))
        (λ t. let z : ◌≡◌ {A = ℕ} 0 1 = cc (rw t at e) in absurd (omega arith))
    data_sound NoSuch n l e = let z : ◌≡◌ {A = ℕ} 0 1 = cc in absurd (omega arith)

  -- a refusal has a number
  fit_told : (n room : ℕ) → past at start (fit n room) ≡ Refused 0 → ⊥
  fit_told n room e =
      by_test (ltb room n) (λ t. let z : ◌≡◌ {A = ℕ} 10 0 = cc (rw t at e) in omega arith)
      (λ t. let z : ◌≡◌ {A = ℕ} 0 1 = cc (rw t at e) in omega arith)

  pub data_told : (size : Size) (n : ℕ) (l : List ℕ) → past at start (data_of size n l) ≡ Refused 0 → ⊥
  unfolding data_refusal data_of
  data_told (Bytes w) n l e = fit_told (n * w) (length l) (rw (elements_fit w n l) at e)
  data_told Text n l e =
      by_test (eqb n 1) (λ t. fit_told (to_zero l) (length l) (rw t at e))
      (λ t. let z : ◌≡◌ {A = ℕ} 11 0 = cc (rw t at e) in omega arith)
  data_told NoSuch n l e = let z : ◌≡◌ {A = ℕ} 11 0 = cc in omega arith

-- ---- the header
pub type_good : (size : Size) (n : ℕ) (content : List ℕ) → Content size n content → no_such size ≡ false
type_good (Bytes w) n content h = refl
type_good Text n content h = refl
type_good NoSuch n content h = absurd h

-- a header that is not refused has a right name size
pub header_sized : (code size room : ℕ) → header_refusal code size room ≡ 0 → size_ok size ≡ true
header_sized code size room e =
    by_test (size_ok size) (λ s. s)
    (λ s. by_test (no_such (element_size code)) (λ t. absurd (omega (arith, no_type code size room header t)))
    (λ t. absurd (omega (arith, no_name code size room header t s))))
  where
    header : 8 ≤ room
    header = omega (arith, name_fits code size room e)
