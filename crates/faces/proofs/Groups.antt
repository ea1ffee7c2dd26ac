-- Values one after the other, each read as if it were the first of a face: what those of whole faces tell is the tally of the faces.
use Prim.Native.Nat.{ℕ, zero, suc, ◌+◌, ◌*◌, ◌%◌, ◌≤◌, ◌<◌}
use native.Mathlib.Nat.{mul-mod_left}
use native.Mathlib.Numerals.{add-one}
use native.Mathlib.Omega.{arith}
use mathlib.Core.Path.{◌≡◌, refl, sym, ap, ◌∙◌}
use mathlib.Core.Bool.{Bool, true, false, cond, ◌||◌, ◌&&◌, or-false, or_assoc, and-true, and-false}
use mathlib.Core.List.{List}
use lib.Arith.{digits_mod}
use lib.Dec.{eqb, leb, ltb}
use borrow.Author.Tests.{leb-true, ltb-true, ltb-false, le-leb, eq-eqb, ne_eqb}
use Rattle.base.proofs.Tests.{by_test}
use Rattle.le.specs.Le.{number_at}
use Rattle.faces.specs.declared.Face.{Face}
use Rattle.faces.specs.declared.tally.Tally.{Tally}
use Rattle.faces.specs.Private.{face_at, is_outside, any_outside, tally_of, with_face}
use Rattle.faces.specs.Faces.{faces_in, is_degenerate, degenerate}
use Rattle.faces.proofs.Blocks.{tally_next, one_more}

-- one of k values is not below V
unfoldable pub any_value : (w v k : ℕ) → List ℕ → Bool
any_value w v zero bs = false
any_value w v (suc k) bs = any_value w v k bs || leb v (number_at w bs (k * w))

-- how many of k values are, by their places, the first of a face that is degenerate
unfoldable pub equal_firsts : (w k : ℕ) → List ℕ → ℕ
equal_firsts w zero bs = 0
equal_firsts w (suc k) bs = equal_firsts w k bs + cond (is_degenerate (face_at w bs (k * w)) && eqb (k % 3) 0) 1 0

at_most_one : (b : Bool) → cond b 1 0 ≤ 1
at_most_one true = omega arith
at_most_one false = omega arith

pub firsts_most : (w k : ℕ) (bs : List ℕ) → equal_firsts w k bs ≤ k
unfolding equal_firsts
firsts_most w zero bs = omega arith
firsts_most w (suc k) bs = omega (arith, firsts_most w k bs, at_most_one (is_degenerate (face_at w bs (k * w)) && eqb (k % 3) 0))

-- ---- the values of whole faces
regroup : (x a b c : Bool) → (((x || a) || b) || c) ≡ (x || ((a || b) || c))
regroup true a b c = refl
regroup false a b c = refl

only_first : (n : ℕ) (a b c : Bool) {p q r : Bool} → p ≡ true → q ≡ false → r ≡ false
    → n + cond (a && p) 1 0 + cond (b && q) 1 0 + cond (c && r) 1 0 ≡ n + cond a 1 0
only_first n a b c p q r = rw (p, q, r, and-true a, and-false b, and-false c) (omega arith)

module _ (w : ℕ) (bs : List ℕ) (n : ℕ) where
  place : n * 3 * w ≡ n * (3 * w)
  place = omega arith

  place_second : suc (n * 3) * w ≡ n * (3 * w) + w
  place_second = omega arith

  place_third : suc (suc (n * 3)) * w ≡ n * (3 * w) + 2 * w
  place_third = omega arith

  is_first : eqb (n * 3 % 3) 0 ≡ true
  is_first = eq-eqb _ _ (mul-mod_left n 3)

  is_second : eqb (suc (n * 3) % 3) 0 ≡ false
  is_second =
      let e : suc (n * 3) ≡ n * 3 + 1 = omega arith in
      let less : 1 < 3 = omega arith in
      let m : suc (n * 3) % 3 ≡ 1 = rw e (digits_mod n less) in
      ne_eqb _ _ (λ (z : suc (n * 3) % 3 ≡ 0). omega arith)

  is_third : eqb (suc (suc (n * 3)) % 3) 0 ≡ false
  is_third =
      let e : suc (suc (n * 3)) ≡ n * 3 + 2 = omega arith in
      let less : 2 < 3 = omega arith in
      let m : suc (suc (n * 3)) % 3 ≡ 2 = rw e (digits_mod n less) in
      ne_eqb _ _ (λ (z : suc (suc (n * 3)) % 3 ≡ 0). omega arith)

  value_face : (v : ℕ) → any_value w v (suc n * 3) bs ≡ (any_value w v (n * 3) bs || is_outside v (face_at w bs (n * (3 * w))))
  unfolding any_value
  value_face v =
      let three : suc n * 3 ≡ suc (suc (suc (n * 3))) = omega arith in
      rw (three, place, place_second, place_third) (regroup (any_value w v (n * 3) bs) _ _ _)

  first_face : equal_firsts w (suc n * 3) bs ≡ equal_firsts w (n * 3) bs + cond (is_degenerate (face_at w bs (n * (3 * w)))) 1 0
  unfolding equal_firsts
  first_face =
      let three : suc n * 3 ≡ suc (suc (suc (n * 3))) = omega arith in
      rw three
      (only_first (equal_firsts w (n * 3) bs) (is_degenerate (face_at w bs (n * 3 * w))) (is_degenerate (face_at w bs (suc (n * 3) * w)))
      (is_degenerate (face_at w bs (suc (suc (n * 3)) * w))) is_first is_second is_third
      ∙ ap (λ at. equal_firsts w (n * 3) bs + cond (is_degenerate (face_at w bs at)) 1 0) place)

-- what k values tell
abbrev tallied : (w v k : ℕ) → List ℕ → Tally
tallied w v k bs = record { outside = any_value w v k bs; degenerate = equal_firsts w k bs }

pub values_faces : (w v n : ℕ) (bs : List ℕ) → tallied w v (n * 3) bs ≡ tally_of v (faces_in w n bs)
unfolding any_value equal_firsts faces_in any_outside degenerate
values_faces w v zero bs = refl
values_faces w v (suc n) bs =
    let f = face_at w bs (n * (3 * w)) in
    let more : n + 1 ≡ suc n = omega arith in
    let step : tallied w v (suc n * 3) bs ≡ with_face v (tallied w v (n * 3) bs) f = rw (value_face w bs n v, first_face w bs n) in
    step
    ∙ ap (λ t. with_face v t f) (values_faces w v n bs)
    ∙ tally_next v (faces_in w n bs) f
    ∙ ap (tally_of v) (sym (one_more w v bs n))
    ∙ ap (λ m. tally_of v (faces_in w m bs)) more

-- ---- a loop over values, by the greatest of them
greater : (v x y : ℕ) → leb v (cond (ltb x y) y x) ≡ (leb v x || leb v y)
greater v x y =
    by_test (ltb x y)
    (λ e. by_test (leb v x)
    (λ a. let h = ltb-true x y e in let k = leb-true v x a in rw (e, a) (le-leb v y (omega arith)))
    (λ a. rw (e, a)))
    (λ e. by_test (leb v y)
    (λ a. let h = ltb-false x y e in let k = leb-true v y a in rw (e, le-leb v x (omega arith)))
    (λ a. rw (e, a, or-false (leb v x))))

implied : (a b : Bool) → (a ≡ true → b ≡ true) → (a || b) ≡ b
implied true b f = sym (f refl)
implied false b f = refl

module _ (w v : ℕ) (bs : List ℕ) where
  pub values_none : leb v 0 ≡ (leb v 0 || any_value w v 0 bs)
  unfolding any_value
  values_none = sym (or-false (leb v 0))

  pub firsts_none : 0 ≡ equal_firsts w 0 bs
  unfolding equal_firsts
  firsts_none = refl

  pub values_step : (k at g : ℕ) {x r : ℕ} → at ≡ k * w → leb v g ≡ (leb v 0 || any_value w v k bs) → x ≡ number_at w bs at → r ≡ cond (ltb g x) x g
      → leb v r ≡ (leb v 0 || any_value w v (k + 1) bs)
  unfolding any_value
  values_step k at g {x} a h e r =
      rw (r, greater v g x, h, e, a, add-one k) (or_assoc (leb v 0) (any_value w v k bs) (leb v (number_at w bs (k * w))))

  pub firsts_step : (k at : ℕ) {d r : ℕ} {f : Face} → at ≡ k * w → d ≡ equal_firsts w k bs → f ≡ face_at w bs at
      → r ≡ d + cond (is_degenerate f && eqb (k % 3) 0) 1 0 → r ≡ equal_firsts w (k + 1) bs
  unfolding equal_firsts
  firsts_step k at a d f r = rw (r, d, f, a, add-one k)

  -- V is 0, and each value is past it
  zero_outside : (n : ℕ) → leb v 0 ≡ true → any_outside v (faces_in w (suc n) bs) ≡ true
  unfolding faces_in any_outside
  zero_outside n e =
      let none = leb-true v 0 e in
      rw (le-leb v (number_at w bs 0) (omega arith))

  pub group_ended : (i n g : ℕ) {d : ℕ} {r : Tally} → i ≡ suc n * 3 → leb v g ≡ (leb v 0 || any_value w v i bs) → d ≡ equal_firsts w i bs
      → r ≡ record { outside = leb v g; degenerate = d } → r ≡ tally_of v (faces_in w (suc n) bs)
  group_ended i n g e h d r =
      let all = values_faces w v (suc n) bs in
      let some = ap (λ t. t.outside) all in
      r
      ∙ rw (h, d, e, some, implied (leb v 0) (any_outside v (faces_in w (suc n) bs)) (zero_outside n))
      (ap (λ k. record { outside = any_outside v (faces_in w (suc n) bs); degenerate = k }) (ap (λ t. t.degenerate) all))
