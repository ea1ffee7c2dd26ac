-- The cases of the stages, each from the tests that lead to it; and the step over the part of a body from a place on.
use mathlib.Core.Path.{◌≡◌, refl, sym}
use mathlib.Core.Bool.{Bool, true, false, cond, not}
use mathlib.Core.List.{List}
use Prim.Native.Nat.{ℕ, ◌+◌, ◌-◌, ◌*◌, ◌<◌, ◌≤◌}
use native.Mathlib.Nat.{mul-le-mul}
use native.Mathlib.Omega.{arith}
use lib.Dec.{ltb, eqb}
use lib.ListN.{length, take, drop}
use mir.Syntax.{w64}
use mir.Val.{Fits}
use borrow.Author.Tests.{lt-ltb, le-ltb, ltb-false}
use Rattle.le.specs.Le.{number_at}
use Rattle.le.proofs.Laws.{rest, length_rest, drop_rest, number_at_rest}
use Rattle.base.specs.Refusals.{refused_or}
use Rattle.base.proofs.Tests.{by_test}
use Rattle.names.specs.Names.{size_ok, bytes_ok}
use Rattle.props.specs.Types.{Size}
use Rattle.props.specs.Types.{Bytes, Text, NoSuch}
use Rattle.props.specs.Private.{Extent}
use Rattle.props.specs.Private.{Takes}
use Rattle.props.specs.Private.{Refused as noData}
use Rattle.props.specs.Step.{Step}
use Rattle.props.specs.Step.{Past, Refused}
use Rattle.props.specs.Types.{element_size, no_such}
use Rattle.props.specs.Step.{header_refusal, data_refusal, to_zero, length_ok, data_size, code_at, size_at, length_at, name_at, start_at, step_at}
use Rattle.props.specs.Private.{fit, data_of, name_out}

-- ---- the header
module _ (code size room : ℕ) where
  module _ (header : 8 ≤ room) where
    pub no_type : no_such (element_size code) ≡ true → 11 ≡ header_refusal code size room
    unfolding header_refusal
    no_type e = rw (le-ltb _ _ header, e)

    module _ (type : no_such (element_size code) ≡ false) where
      pub no_name : size_ok size ≡ false → 11 ≡ header_refusal code size room
      unfolding header_refusal
      no_name e = rw (le-ltb _ _ header, type, e)

      module _ (named : size_ok size ≡ true) where
        pub header_right : 8 + size ≤ room → 0 ≡ header_refusal code size room
        unfolding header_refusal
        header_right h = rw (le-ltb _ _ header, type, named, le-ltb _ _ h)

-- a header that is not refused leaves room for its name
name_fits_by : (a b c d : Bool) → ◌≡◌ {A = ℕ} (cond a 10 (cond b 11 (cond c 11 (cond d 10 0)))) 0 → d ≡ false
name_fits_by true b c d e = absurd (omega (arith, e))
name_fits_by false true c d e = absurd (omega (arith, e))
name_fits_by false false true d e = absurd (omega (arith, e))
name_fits_by false false false true e = absurd (omega (arith, e))
name_fits_by false false false false e = refl

pub name_fits : (code size room : ℕ) → header_refusal code size room ≡ 0 → 8 + size ≤ room
unfolding header_refusal
name_fits code size room e =
    ltb-false room (8 + size) (name_fits_by (ltb room 8) (no_such (element_size code)) (not (size_ok size)) (ltb room (8 + size)) e)

-- ---- the data
-- the product of two numbers of 32 bits does not wrap
pub product_fits : {m n : ℕ} → m ≤ 4294967295 → n ≤ 4294967295 → Fits w64 (m * n)
product_fits h k = omega (arith, mul-le-mul h k)

module _ (n room : ℕ) where
  pub fit_in : n ≤ room → Takes n ≡ fit n room
  fit_in h = rw (le-ltb _ _ h)

-- elements of a size fit, or are refused by their numbers
pub elements_fit : (w len : ℕ) (bs : List ℕ) → data_of (Bytes w) len bs ≡ fit (len * w) (length bs)
unfolding data_refusal data_of
elements_fit w len bs = by_test (ltb (length bs) (len * w)) (λ t. rw t) (λ t. rw t)

-- data takes no more than there is
abbrev pub Within : ℕ → Extent → Type 0
Within n (Takes k) = k ≤ n
Within n (noData k) = Unit

fit_within : (n room : ℕ) → Within room (fit n room)
fit_within n room = by_test (ltb room n) (λ t. rw t tt) (λ t. rw t (ltb-false room n t))

pub data_within : (size : Size) (len : ℕ) (bs : List ℕ) → Within (length bs) (data_of size len bs)
unfolding data_refusal data_of
data_within (Bytes w) len bs = rw (elements_fit w len bs) (fit_within (len * w) (length bs))
data_within Text len bs = by_test (eqb len 1) (λ t. rw t (fit_within (to_zero bs) (length bs))) (λ t. rw t tt)
data_within NoSuch len bs = tt

-- ---- the step by the code's stages: refused by the header, by the name, or as the data says
abbrev pub past : (at start : ℕ) → Extent → Step
past at start (Takes n) = Past (record { name = at + 8; start = start }) (record { at = start + n })
past at start (noData n) = Refused n

abbrev pub staged : (header : ℕ) (named : Bool) (next : Step) → Step
staged header named next = refused_or header (Refused header) (cond named next (Refused 11))

staged_by : (a b c d e : Bool) (next : Step) → cond a (Refused 10) (cond b (Refused 11) (cond c (Refused 11) (cond d (Refused 10) (cond (not e) (Refused 11) next))))
    ≡ staged (cond a 10 (cond b 11 (cond c 11 (cond d 10 0)))) e next
staged_by true b c d e next = refl
staged_by false true c d e next = refl
staged_by false false true d e next = refl
staged_by false false false true e next = refl
staged_by false false false false true next = refl
staged_by false false false false false next = refl

module _ (at start : ℕ) where
  data_by : (size : Size) (len : ℕ) (rest : List ℕ) → cond (not (length_ok size len)) (Refused 11) (cond (ltb (length rest) (data_size size len rest)) (Refused 10)
      (Past (record { name = at + 8; start = start }) (record { at = start + data_size size len rest }))) ≡ past at start (data_of size len rest)
  unfolding data_refusal data_of
  data_by (Bytes w) len rest = by_test (ltb (length rest) (len * w)) (λ t. rw t) (λ t. rw t)
  data_by Text len rest = by_test (eqb len 1) (λ t. by_test (ltb (length rest) (to_zero rest)) (λ u. rw (t, u)) (λ u. rw (t, u))) (λ t. rw t)
  data_by NoSuch len rest = refl

-- over the part of the body that starts with the header
abbrev pub step_of : ℕ → ℕ → ℕ → ℕ → List ℕ → Step
step_of at code size len header =
    staged (header_refusal code size (length header)) (bytes_ok (take size (drop 8 header))) (past at (at + (8 + size)) (data_of (element_size code) len (drop (8 + size) header)))

module _ (s : List ℕ) (at : ℕ) where
  abbrev header : ℕ
  header = header_refusal (code_at s at) (size_at s at) (length s - at)

  abbrev found : Step
  found = past at (start_at s at) (data_of (element_size (code_at s at)) (length_at s at) (drop (start_at s at) s))

  pub by_stages : step_at s at ≡ staged header (bytes_ok (name_at s at)) found
  unfolding step_at header_refusal
  by_stages =
      rw (data_by at (start_at s at) (element_size (code_at s at)) (length_at s at) (drop (start_at s at) s))
      (staged_by (ltb (length s - at) 8) (no_such (element_size (code_at s at))) (not (size_ok (size_at s at))) (ltb (length s - at) (8 + size_at s at)) (bytes_ok (name_at s at)) found)

  pub step_rest : {code size len : ℕ} → code ≡ number_at 2 (rest s at) 0 → size ≡ number_at 2 (rest s at) 2 → len ≡ number_at 4 (rest s at) 4
      → step_of at code size len (rest s at) ≡ step_at s at
  unfolding name_at
  step_rest {code} {size} {len} c z l =
      let sum : at + (8 + size) ≡ at + 8 + size = omega arith in
      let first : at + 0 ≡ at = omega arith in
      rw (by_stages, length_rest s at, drop_rest s at 8, drop_rest s at (8 + size), sum, c, z, l, number_at_rest 2 s at 0, number_at_rest 2 s at 2, number_at_rest 4 s at 4, first)

-- the step in the code's order, which tells a wrong type with the data, or before a name that does not fit
data_typed : (at start : ℕ) (size : Size) (len : ℕ) (bs : List ℕ) →
    cond (no_such size) (Refused 11) (past at start (data_of size len bs)) ≡ past at start (data_of size len bs)
unfolding data_refusal data_of
data_typed at start (Bytes w) len bs = refl
data_typed at start Text len bs = refl
data_typed at start NoSuch len bs = refl

type_first : (t : Bool) → Refused (cond t 11 10) ≡ cond t (Refused 11) (Refused 10)
type_first true = refl
type_first false = refl

type_alike : (t : Bool) → Refused 11 ≡ cond t (Refused 11) (Refused 11)
type_alike true = refl
type_alike false = refl

module _ (s : List ℕ) (at : ℕ) where
  abbrev type : Bool
  type = no_such (element_size (code_at s at))

  pub header_out : length s - at < 8 → Refused 10 ≡ step_at s at
  unfolding step_at
  header_out h = rw (lt-ltb _ _ h)

  module _ (header : 8 ≤ length s - at) where
    pub size_wrong : size_ok (size_at s at) ≡ false → Refused 11 ≡ step_at s at
    unfolding step_at
    size_wrong e = rw (le-ltb _ _ header, e) (type_alike type)

    module _ (sized : size_ok (size_at s at) ≡ true) where
      pub name_unfit : length s - at < 8 + size_at s at → Refused (name_out (code_at s at)) ≡ step_at s at
      unfolding step_at
      name_unfit h = rw (le-ltb _ _ header, sized, lt-ltb _ _ h) (type_first type)

      module _ (room : 8 + size_at s at ≤ length s - at) where
        pub bytes_wrong : bytes_ok (name_at s at) ≡ false → Refused 11 ≡ step_at s at
        unfolding step_at
        bytes_wrong e = rw (le-ltb _ _ header, sized, le-ltb _ _ room, e) (type_alike type)

        pub by_extent : bytes_ok (name_at s at) ≡ true →
            past at (start_at s at) (data_of (element_size (code_at s at)) (length_at s at) (drop (start_at s at) s)) ≡ step_at s at
        unfolding step_at
        by_extent e =
            let size = element_size (code_at s at) in
            let bs = drop (start_at s at) s in
            rw (le-ltb _ _ header, sized, le-ltb _ _ room, e, data_by at (start_at s at) size (length_at s at) bs)
            (sym (data_typed at (start_at s at) size (length_at s at) bs))

-- the step by what was read of a header's part that is not refused
module _ (s : List ℕ) (at : ℕ) {code size : ℕ} (c : code ≡ number_at 2 (rest s at) 0) (z : size ≡ number_at 2 (rest s at) 2) where
  pub by_data : header_refusal code size (length (rest s at)) ≡ 0 → bytes_ok (take size (drop 8 (rest s at))) ≡ true → {len : ℕ} → len ≡ number_at 4 (rest s at) 4
      → {e : Extent} → e ≡ data_of (element_size code) len (drop (8 + size) (rest s at)) → past at (at + (8 + size)) e ≡ step_at s at
  by_data right ok l d = rw d (rw (right, ok) at (step_rest s at c z l))
