-- The values of faces are below a number exactly where each of them is.
use Prim.Native.Nat.{ℕ, zero, suc, ◌+◌, ◌*◌, ◌<◌}
use native.Mathlib.Omega.{arith}
use native.Mathlib.Nat.{zero-mul, one-mul, add-mul}
use mathlib.Core.Path.{◌≡◌, refl}
use mathlib.Core.Logic.{◌↔◌}
use mathlib.Core.Bool.{Bool, true, false, cond}
use mathlib.Core.List.{List}
use lib.Dec.{ltb}
use lib.ListN.{drop}
use lib.Seq.{drop-drop}
use borrow.Author.Tests.{ltb-true, lt-ltb}
use Rattle.le.specs.Le.{number_at}
use Rattle.faces.specs.Faces.{Values}
use Rattle.faces.specs.Faces.{Below, NotBelow}
use Rattle.faces.specs.Faces.{faces_in, below}

passed : (t : Bool) (v : Values) (k : ℕ) → (cond t v (NotBelow k) ≡ Below) ↔ (t ≡ true) × (v ≡ Below)
passed true v k = (λ e. (refl, e), λ p. p.1)
passed false v k = (λ e. (cc, cc), λ p. cc)

pub number_on : (w : ℕ) (bs : List ℕ) (k : ℕ) → number_at w (drop (3 * w) bs) (k * w) ≡ number_at w bs (suc (suc (suc k)) * w)
unfolding number_at
number_on w bs k = let three : suc (suc (suc k)) ≡ 3 + k = omega arith in rw (three, drop-drop (k * w) (3 * w) bs, add-mul 3 k w)

module _ (v w : ℕ) where
  abbrev AllBelow : ℕ → List ℕ → Type 0
  AllBelow n bs = (k : ℕ) → k < n * 3 → number_at w bs (k * w) < v

  to : (n at : ℕ) (bs : List ℕ) → below v at (faces_in w n bs) ≡ Below → AllBelow n bs
  unfolding below faces_in
  to zero at bs e k h = absurd (omega arith)
  to (suc n) at bs e k h =
      let first = (passed (ltb (number_at w bs 0) v) _ _).0 e in
      let second = (passed (ltb (number_at w bs w) v) _ _).0 first.1 in
      let third = (passed (ltb (number_at w bs (2 * w)) v) _ _).0 second.1 in
      by k h (ltb-true _ _ first.0) (ltb-true _ _ second.0) (ltb-true _ _ third.0) (to n (at + 3) (drop (3 * w) bs) third.1)
    where
      by : (k : ℕ) → k < suc n * 3 → number_at w bs 0 < v → number_at w bs w < v → number_at w bs (2 * w) < v → AllBelow n (drop (3 * w) bs) →
          number_at w bs (k * w) < v
      by zero h a b c rest = rw zero-mul a
      by (suc zero) h a b c rest = rw one-mul b
      by (suc (suc zero)) h a b c rest = c
      by (suc (suc (suc k))) h a b c rest = rw (number_on w bs k) at (rest k (omega arith))

  back : (n at : ℕ) (bs : List ℕ) → AllBelow n bs → below v at (faces_in w n bs) ≡ Below
  unfolding below faces_in
  back zero at bs h = refl
  back (suc n) at bs h =
      let a : number_at w bs 0 < v = rw zero-mul at (h 0 (omega arith)) in
      let b : number_at w bs w < v = rw one-mul at (h 1 (omega arith)) in
      rw (lt-ltb _ _ a, lt-ltb _ _ b, lt-ltb _ _ (h 2 (omega arith)))
      (back n (at + 3) (drop (3 * w) bs) (λ k less. rw (number_on w bs k) (h (suc (suc (suc k))) (omega arith))))

  pub all_below : (n : ℕ) (bs : List ℕ) → (below v 0 (faces_in w n bs) ≡ Below) ↔ AllBelow n bs
  all_below n bs = (to n 0 bs, back n 0 bs)
