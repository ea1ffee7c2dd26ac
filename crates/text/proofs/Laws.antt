-- Laws of texts: what has room, the digits of a number, and their stores from the last to the first.
use Prim.Native.Nat.{ℕ, zero, suc, ◌+◌, ◌-◌, ◌*◌, ◌/◌, ◌%◌, ◌^◌, ◌≤◌, ◌<◌}
use native.Mathlib.Nat.{add-zero, pow-suc, pow-le-pow_right, div-lt_iff_lt-mul}
use native.Mathlib.Omega.{arith}
use mathlib.Core.Path.{◌≡◌, refl, ap, sym, ◌∙◌}
use mathlib.Core.List.{List, [], ◌∷◌, ◌++◌}
use Rattle.std.specs.Prelude.{Option, Some, None, IfSome, unwrap_or}
use Rattle.std.specs.Option.{IfNone}
use lib.Dec.{ltb, leb}
use lib.ListN.{length, get_or, take, drop, set, length-append, drop_of_length-le}
use lib.Seq.{sets, length-sets, length-take-le, take_all, take-suc, drop-cons, take_at, get_or_at}
use borrow.Author.Tests.{lt-ltb, le-ltb, le-leb, lt-leb, leb-true, leb-false}
use Rattle.base.proofs.Tests.{by_test}
use Rattle.base.proofs.Stores.{sets_append, set_sets}
use Rattle.text.specs.Text.{fitted, with_text, place_after, glyph, digits, digit_count, decimal_size}

-- ---- room
fits : (t : List ℕ) (room : ℕ) → length t ≤ room → fitted t room ≡ t
unfolding fitted
fits t room h = rw (le-leb (length t) room h)

unfit : (t : List ℕ) (room : ℕ) → room < length t → fitted t room ≡ []
unfolding fitted
unfit t room h = rw (lt-leb (length t) room h)

no_room_lem : (t : List ℕ) → fitted t 0 ≡ []
unfolding fitted
no_room_lem [] = refl
no_room_lem (b ∷ t) = unfit (b ∷ t) 0 (omega arith)

module _ (out : List ℕ) (at : ℕ) (t : List ℕ) where
  -- nothing is put, and the place stays
  nothing : fitted t (length out - at) ≡ [] → (at ≡ place_after out at t) × (out ≡ with_text out at t)
  unfolding place_after with_text
  nothing e = (rw e (sym (add-zero at)), rw e)

  pub put_outside : length out < at → (at ≡ place_after out at t) × (out ≡ with_text out at t)
  put_outside h = let e : length out - at ≡ 0 = omega arith in nothing (rw e (no_room_lem t))

  pub put_short : length out < at + length t → (at ≡ place_after out at t) × (out ≡ with_text out at t)
  put_short h = by_test (leb at (length out))
      (λ e. nothing (unfit t (length out - at) (omega (arith, leb-true at (length out) e))))
      (λ e. put_outside (leb-false at (length out) e))

  -- the place after lies in the buffer
  pub after_within : at ≤ length out → {r : ℕ} {last : List ℕ} → (r ≡ place_after out at t) × (last ≡ with_text out at t) → r ≤ length last
  unfolding place_after with_text
  after_within h p =
      let room = length out - at in
      let same = ap length p.1 ∙ length-sets out at (fitted t room) in
      by_test (leb (length t) room)
      (λ e. let l = leb-true (length t) room e in omega (arith, same, p.0, ap length (fits t room l), l))
      (λ e. omega (arith, same, p.0, ap length (unfit t room (leb-false (length t) room e))))

  -- what has room is put
  module _ (h : at + length t ≤ length out) where
    room : fitted t (length out - at) ≡ t
    room = fits t (length out - at) (omega arith)

    pub after_put : place_after out at t ≡ at + length t
    unfolding place_after
    after_put = rw room

    pub written_put : with_text out at t ≡ sets out at t
    unfolding with_text
    written_put = rw room

-- ---- how many digits a number has
pub tenth : (k n : ℕ) → n < 10 ^ suc k → n / 10 < 10 ^ k
tenth k n h = (div-lt_iff_lt-mul {k = 10} {x = n} {y = 10 ^ k} (omega arith)).1 (rw (← pow-suc 10 k) h)

-- k + 1 digits where 10 ^ k is the greatest power of ten that is not above the number, and one digit of zero
size_by_log : (most k n : ℕ) → k < most → (1 ≤ k → 10 ^ k ≤ n) → n < 10 * 10 ^ k → digit_count most n ≡ k + 1
unfolding digit_count
size_by_log zero k n h low high = absurd (omega arith)
size_by_log (suc m) zero n h low high = rw (lt-ltb n 10 (omega arith))
size_by_log (suc m) (suc k) n h low high =
    let l : 10 ^ k * 10 ≤ n = rw (← pow-suc 10 k) (low (omega arith)) in
    let g : n < 10 ^ k * 10 * 10 = omega (arith, pow-suc 10 k, high) in
    let one : 1 ≤ 10 ^ k = omega (arith, pow-le-pow_right {n = 10} (omega arith) {i = 0} {j = k} (omega arith)) in
    rw (le-ltb n 10 (omega arith), size_by_log m k (n / 10) (omega arith) (λ _. omega arith) (omega arith)) (omega arith)

-- the same by `checked_ilog10`, which has no answer for zero
pub size_of_log : (n : ℕ) (o : Option ℕ) → IfNone o (n ≡ 0) → IfSome o (λ k. 10 ^ k ≤ n) → IfSome o (λ k. n < 10 * 10 ^ k) → IfSome o (λ k. k < 20) → unwrap_or o 0 + 1 ≡ decimal_size n
size_of_log n None z low high h = sym (size_by_log 20 0 n (omega arith) (λ k. absurd (omega arith)) (omega arith))
size_of_log n (Some k) z low high h = sym (size_by_log 20 k n h (λ _. low) high)

size_most : (most n : ℕ) → digit_count most n ≤ most
unfolding digit_count
size_most zero n = omega arith
size_most (suc m) n =
    by_test (ltb n 10)
    (λ e. rw e (omega arith))
    (λ e. rw e (omega (arith, size_most m (n / 10))))

pub size_few : (n : ℕ) → decimal_size n ≤ 20
size_few n = size_most 20 n

-- ---- digits
pub length_digits : (base k n : ℕ) → length (digits base k n) ≡ k
unfolding digits
length_digits base zero n = refl
length_digits base (suc k) n = rw (length-append, length_digits base k (n / base)) (omega arith)

-- the last of equal lists, and what stands before it
module _ (x y : List ℕ) (l a b : ℕ) (hx : length x ≡ l) (hy : length y ≡ l) (e : x ++ (a ∷ []) ≡ y ++ (b ∷ [])) where
  fronts : x ≡ y
  fronts = sym (take_at x (a ∷ []) l hx) ∙ ap (take l) e ∙ take_at y (b ∷ []) l hy

  lasts : a ≡ b
  lasts = sym (get_or_at x a [] 0 l hx) ∙ ap (λ z. get_or z l 0) e ∙ get_or_at y b [] 0 l hy

-- the digits of a number, of which those from `left` on are stored, and the rest is what is left of it
pub record Stored (d : List ℕ) (at base : ℕ) (all : List ℕ) (out : List ℕ) (left rest : ℕ) : Type 0 where
  pub within : left ≤ length all
  pub before : digits base left rest ≡ take left all
  pub stored : out ≡ sets d (at + left) (drop left all)

pub stored_none : (d : List ℕ) (at base k n : ℕ) → Stored d at base (digits base k n) d k n
stored_none d at base k n =
    let e = length_digits base k n in
    record {
      within = omega arith;
      before = sym (take_all k (digits base k n) (omega arith));
      stored = ap (sets d (at + k)) (sym (drop_of_length-le (digits base k n) {i = k} (omega arith)));
    }

pub stored_one : (d : List ℕ) (at base : ℕ) (all out : List ℕ) (left rest : ℕ) → 0 < left → Stored d at base all out left rest
    → Stored d at base all (set out (at + (left - 1)) (glyph (rest % base))) (left - 1) (rest / base)
unfolding digits
stored_one d at base all out zero rest h s = absurd (omega arith)
stored_one d at base all out (suc l) rest h s =
    let here : l < length all = omega (arith, s.within) in
    let e : suc l - 1 ≡ l = omega arith in
    let both = s.before ∙ take-suc all l 0 here in
    let hx = length_digits base l (rest / base) in
    let hy = length-take-le l all (omega arith) in
    let g = glyph (rest % base) in
    let last : g ≡ get_or all l 0 = lasts (digits base l (rest / base)) (take l all) l g (get_or all l 0) hx hy both in
    let next : at + suc l ≡ suc (at + l) = omega arith in
    rw e (record {
      within = omega arith;
      before = fronts (digits base l (rest / base)) (take l all) l g (get_or all l 0) hx hy both;
      stored =
          ap (λ z. set z (at + l) g) (s.stored ∙ ap (λ k. sets d k (drop (suc l) all)) next)
          ∙ set_sets d (at + l) g (suc (at + l)) (drop (suc l) all) (omega arith)
          ∙ ap (λ v. sets d (at + l) (v ∷ drop (suc l) all)) last
          ∙ ap (sets d (at + l)) (sym (drop-cons all l 0 here));
    })

-- ---- a label, and then digits
pub label_digits : (out : List ℕ) (at : ℕ) (label number : List ℕ) (k : ℕ) {first both : List ℕ} → length number ≡ k → (at + length label) + k ≤ length out
    → first ≡ sets out at label → both ≡ sets first (at + length label) number
    → ((at + length label) + k ≡ place_after out at (label ++ number)) × (both ≡ with_text out at (label ++ number))
label_digits out at label number k {first} {both} e h p q =
    let long : length (label ++ number) ≡ length label + k = length-append label number ∙ ap (λ n. length label + n) e in
    let room : at + length (label ++ number) ≤ length out = omega arith in (
      omega (arith, after_put out at (label ++ number) room),
      rw (q, p) (sym (written_put out at (label ++ number) room ∙ sets_append out at label number)),
    )
