-- Strings up to their zero; and the name and the data of the property at a place.
use mathlib.Core.Path.{◌≡◌, refl, sym, ap, ◌∙◌}
use mathlib.Core.Bool.{Bool, true, false, cond, not, ◌||◌, true≢false}
use mathlib.Core.List.{List, [], ◌∷◌}
use Prim.Native.Nat.{ℕ, zero, suc, ◌+◌, ◌-◌, ◌*◌, ◌<◌, ◌≤◌}
use native.Mathlib.Nat.{zero-add}
use native.Mathlib.Omega.{arith}
use lib.Dec.{leb, eqb, ltb, leb-zero, leb-suc-suc}
use lib.ListN.{length, take, drop, drop_of_length-le, length-drop}
use lib.Seq.{drop-drop, drop-length, take_all, take-nil}
use borrow.Author.Tests.{ltb-true, ltb-false, lt-ltb, le-ltb}
use Rattle.std.proofs.Math.Bool.{or-false}
use Rattle.std.specs.List.{fold, position_or_len}
use Rattle.std.specs.Option.{unwrap_or}
use Rattle.std.specs.Prelude.{Option, Some, None}
use Rattle.std.specs.Simd.{first_chunks}
use Rattle.std.proofs.lemmas.List.Sums.{prefix_len-le-length}
use Rattle.base.proofs.Tests.{by_test}
use Rattle.props.specs.Step.{to_zero, size_at, name_at, start_at, data_at}

-- ---- up to a zero byte
abbrev pub is_zero : ℕ → Bool
is_zero b = eqb b 0

abbrev pub has_zero : List ℕ → Bool
has_zero s = leb (to_zero s) (length s)

-- by std's search
pub to_zero_found : (s : List ℕ) → position_or_len is_zero s + 1 ≡ to_zero s
unfolding to_zero
to_zero_found [] = refl
to_zero_found (b ∷ s) = by_test (eqb b 0) (λ t. rw t) (λ t. rw t (omega (arith, to_zero_found s)))

-- what `position` tells, or how many there are
pub place_or_len : {X : Type 0} (p : X → Bool) (xs : List X) {found : Option ℕ} → found ≡ cond (ltb (position_or_len p xs) (length xs)) (Some (position_or_len p xs)) None
    → unwrap_or found (length xs) ≡ position_or_len p xs
place_or_len p xs e =
    by_test (ltb (position_or_len p xs) (length xs))
    (λ t. rw (e, t))
    (λ t. rw (e, t) (omega (arith, ltb-false _ _ t, prefix_len-le-length (λ x. not (p x)) xs)))

-- a block has a zero where its string ends in it
any_by : (any e : Bool) (t n : ℕ) → (any || leb (cond e 1 (suc t)) (suc n)) ≡ ((any || e) || leb t n)
any_by true e t n = refl
any_by false true t n = leb-suc-suc 0 n ∙ leb-zero n
any_by false false t n = leb-suc-suc t n

pub any_from : (any : Bool) (s : List ℕ) → fold (λ a b. a || is_zero b) any s ≡ (any || has_zero s)
unfolding to_zero
any_from any [] = sym (or-false any)
any_from any (b ∷ s) = any_from (any || is_zero b) s ∙ sym (any_by any (is_zero b) (to_zero s) (length s))

-- a block without one is passed
clear_by : (e : Bool) (t n z k r : ℕ) → (leb t n ≡ false → z ≡ k + r) → leb (cond e 1 (suc t)) (suc n) ≡ false → cond e 1 (suc z) ≡ suc k + r
clear_by true t n z k r h p = absurd (true≢false (sym (leb-suc-suc 0 n ∙ leb-zero n) ∙ p))
clear_by false t n z k r h p = omega (arith, h (sym (leb-suc-suc t n) ∙ p))

block_clear : (k : ℕ) (s : List ℕ) → k ≤ length s → has_zero (take k s) ≡ false → to_zero s ≡ k + to_zero (drop k s)
unfolding to_zero
block_clear zero s h e = sym (zero-add (to_zero s))
block_clear (suc k) [] h e = absurd (omega (arith, h))
block_clear (suc k) (b ∷ s) h e =
    clear_by (eqb b 0) (to_zero (take k s)) (length (take k s)) (to_zero s) k (to_zero (drop k s)) (λ p. block_clear k s (omega (arith, h)) p) e

-- and so are all before the first that has one
pub blocks_clear : (n : ℕ) (s : List ℕ) → 64 * n ≤ length s → {k : ℕ} → k ≡ position_or_len has_zero (first_chunks 64 n s)
    → (k ≤ n) × (64 * k + to_zero (drop (64 * k) s) ≡ to_zero s)
blocks_clear zero s h e = rw e (omega arith, zero-add (to_zero s))
blocks_clear (suc n) s h {k} e =
    by_test (has_zero (take 64 s))
    (λ t. let none : k ≡ 0 = rw t at e in rw none (omega arith, zero-add (to_zero s)))
    (λ t.
    let j = position_or_len has_zero (first_chunks 64 n (drop 64 s)) in
    let more : k ≡ 1 + j = rw t at e in
    let ih = blocks_clear n (drop 64 s) (omega (arith, h, length-drop 64 s)) {k = j} refl in
    let rest : drop (64 * j) (drop 64 s) ≡ drop (64 * k) s = drop-drop (64 * j) 64 s ∙ ap (λ m. drop m s) (omega (arith, more)) in
    (omega (arith, more, ih.0), omega (arith, more, ih.1, ap to_zero rest, block_clear 64 s (omega (arith, h)) t)))

-- ---- the data and the name of the property at a place
module _ (s : List ℕ) (at : ℕ) where
  pub data_here : start_at s at ≤ length s → data_at s at ≡ start_at s at
  unfolding data_at
  data_here h = rw (le-ltb _ _ h)

  pub data_past : length s < start_at s at → data_at s at ≡ length s
  unfolding data_at
  data_past h = rw (lt-ltb _ _ h)

  -- what follows is the same from the data's start on, also where that is past the end
  pub drop_data_at : drop (data_at s at) s ≡ drop (start_at s at) s
  drop_data_at =
      by_test
      (ltb (length s) (start_at s at))
      (λ e.
      let short : length s < start_at s at = ltb-true _ _ e in
      rw (data_past short, drop-length s) (sym (drop_of_length-le s {i = start_at s at} (omega (arith, short)))))
      (λ e. rw (data_here (ltb-false _ _ e)))

  -- the part from a name's start to the data's is the name
  pub name_none : data_at s at < at + 8 → [] ≡ name_at s at
  unfolding name_at
  name_none h =
      by_test
      (ltb (length s) (start_at s at))
      (λ e. rw (drop_of_length-le s {i = at + 8} (omega (arith, data_past (ltb-true _ _ e))), take-nil (size_at s at)))
      (λ e. absurd (omega (arith, data_here (ltb-false _ _ e))))

  pub name_part : take (data_at s at - (at + 8)) (drop (at + 8) s) ≡ name_at s at
  unfolding name_at
  name_part =
      by_test
      (ltb (length s) (start_at s at))
      (λ e.
      let left : length (drop (at + 8) s) ≡ length s - (at + 8) = length-drop (at + 8) s in
      let short : length s < start_at s at = ltb-true _ _ e in
      take_all (data_at s at - (at + 8)) (drop (at + 8) s) (omega (arith, data_past short, left))
      ∙ sym (take_all (size_at s at) (drop (at + 8) s) (omega (arith, short, left))))
      (λ e.
      let size : data_at s at - (at + 8) ≡ size_at s at = omega (arith, data_here (ltb-false _ _ e)) in
      ap (λ n. take n (drop (at + 8) s)) size)
