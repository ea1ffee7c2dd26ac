-- Where the properties of a body lie: each from its start to the next, within the body; and how the index tells it.
use mathlib.Core.Path.{◌≡◌, refl, ap, ◌∙◌, subst}
use mathlib.Core.Bool.{Bool, true, false, cond}
use mathlib.Core.List.{List, [], ◌∷◌, ◌++◌}
use Prim.Native.Nat.{ℕ, zero, suc, ◌<◌, ◌≤◌}
use native.Mathlib.Omega.{arith}
use native.Mathlib.Nat.{zero-add}
use lib.Dec.{ltb}
use lib.ListN.{length, get_or, take, drop, replicate, length-append, get_or-append, get_or-eq_default}
use lib.Seq.{sets-eq, length-sets, take-append-le, take-append_seam, get_or-append_seam}
use borrow.Author.Tests.{ltb-true, ltb-false}
use Rattle.base.proofs.Tests.{by_test}
use Rattle.props.specs.Step.{Step}
use Rattle.props.specs.Step.{Past, Refused}
use Rattle.props.specs.Step.{step_at, data_at}
use Rattle.props.proofs.Within.{StepWithin, within}
use Rattle.body.specs.Body.{Index}
use Rattle.body.specs.Body.{PropertyWalk, stop, by_step, pass, properties, places, index_of}

module _ (s : List ℕ) where
  -- what holds of a walk from the next property on holds of one from this property on
  module _ (at : ℕ) (on : ℕ → PropertyWalk) where
    step_few : (k : ℕ) → ((a : ℕ) → length (on a).starts ≤ k) → (w : Step) → length (by_step at on w).starts ≤ suc k
    step_few k h (Past q next) = omega (arith, h next.at)
    step_few k h (Refused n) = omega arith

    step_first : (w : Step) → get_or (places (by_step at on w)) 0 0 ≡ at
    step_first (Past q next) = refl
    step_first (Refused n) = refl

    step_places : at ≤ length s → ((a : ℕ) → a ≤ length s → (j : ℕ) → get_or (places (on a)) j 0 ≤ length s) →
        (w : Step) → StepWithin s at w → (j : ℕ) → get_or (places (by_step at on w)) j 0 ≤ length s
    step_places h ih (Past q next) p zero = h
    step_places h ih (Past q next) p (suc j) = ih next.at p.2 j
    step_places h ih (Refused n) p zero = h
    step_places h ih (Refused n) p (suc j) = omega arith

    step_data : ((a : ℕ) → get_or (places (on a)) 0 0 ≡ a) →
        ((a j : ℕ) → j < length (on a).starts → data_at s (get_or (on a).starts j 0) ≤ get_or (places (on a)) (suc j) 0) →
        (w : Step) → StepWithin s at w → (j : ℕ) → j < length (by_step at on w).starts →
        data_at s (get_or (by_step at on w).starts j 0) ≤ get_or (places (by_step at on w)) (suc j) 0
    step_data first ih (Past q next) p zero h = omega (arith, first next.at, p.0, p.1)
    step_data first ih (Past q next) p (suc j) h = ih next.at j (omega (arith, h))
    step_data first ih (Refused n) p j h = absurd (omega (arith, h))

  pub pass_few : (k at : ℕ) → length (pass s k at).starts ≤ k
  unfolding pass
  pass_few zero at = omega arith
  pass_few (suc k) at = step_few at (pass s k) k (pass_few k) (step_at s at)

  pub pass_first : (k at : ℕ) → get_or (places (pass s k at)) 0 0 ≡ at
  unfolding pass
  pass_first zero at = refl
  pass_first (suc k) at = step_first at (pass s k) (step_at s at)

  pub pass_places : (k at : ℕ) → at ≤ length s → (j : ℕ) → get_or (places (pass s k at)) j 0 ≤ length s
  unfolding pass
  pass_places zero at h zero = h
  pass_places zero at h (suc j) = omega arith
  pass_places (suc k) at h j = step_places at (pass s k) h (pass_places k) (step_at s at) (within s at) j

  -- a property's data starts before the next property
  pub pass_data : (k at j : ℕ) → j < length (pass s k at).starts → data_at s (get_or (pass s k at).starts j 0) ≤ get_or (places (pass s k at)) (suc j) 0
  unfolding pass
  pass_data zero at j h = absurd (omega (arith, h))
  pass_data (suc k) at j h = step_data at (pass s k) (pass_first k) (pass_data k) (step_at s at) (within s at) j h

  -- ---- the same of the properties of a body
  by_count : (P : PropertyWalk → Type 0) (k : ℕ) → P (stop 9 0) → (k ≤ 64 → P (pass s k 0)) → P (properties s k)
  unfolding properties
  by_count P k p q = by (ltb 64 k) refl
    where
      by : (b : Bool) → ltb 64 k ≡ b → P (cond b (stop 9 0) (pass s k 0))
      by true e = p
      by false e = q (ltb-false 64 k e)

  pub properties_few : (k : ℕ) → length (properties s k).starts ≤ 64
  properties_few k = by_count (λ w. length w.starts ≤ 64) k (omega arith) (λ h. omega (arith, pass_few k 0))

  pub properties_places : (k j : ℕ) → get_or (places (properties s k)) j 0 ≤ length s
  properties_places k j = by_count (λ w. get_or (places w) j 0 ≤ length s) k (none j) (λ h. pass_places k 0 (omega arith) j)
    where
      none : (j : ℕ) → get_or (places (stop 9 0)) j 0 ≤ length s
      none zero = omega arith
      none (suc j) = omega arith

  pub properties_end : (k : ℕ) → (properties s k).at ≤ length s
  properties_end k =
      subst (λ at. at ≤ length s) (get_or-append_seam (properties s k).starts (properties s k).at [] 0) (properties_places k (length (properties s k).starts))

  pub properties_data : (k j : ℕ) → j < length (properties s k).starts → data_at s (get_or (properties s k).starts j 0) ≤ get_or (places (properties s k)) (suc j) 0
  properties_data k j = by_count (λ w. j < length w.starts → data_at s (get_or w.starts j 0) ≤ get_or (places w) (suc j) 0) k (λ h. absurd (omega (arith, h))) (λ h. pass_data k 0 j)

-- each property starts in the body
pub starts_within : (s : List ℕ) (k i : ℕ) → get_or (properties s k).starts i 0 ≤ length s
starts_within s k i =
    let w = properties s k in
    by_test (ltb i (length w.starts))
    (λ t. subst (λ at. at ≤ length s) (get_or-append w.starts (w.at ∷ []) 0 i (ltb-true i _ t)) (properties_places s k i))
    (λ t. rw (get_or-eq_default w.starts 0 {n = i} (ltb-false i _ t)) (omega arith))

-- ---- the index of a walk over at most 64 properties
module _ (w : PropertyWalk) (few : length w.starts ≤ 64) where
  long : length (places w) ≤ 65
  long = omega (arith, length-append w.starts (w.at ∷ []), few)

  array : (index_of w).starts ≡ places w ++ drop (length (places w)) (replicate 65 0)
  array = sets-eq (places w) (replicate 65 0) 0 (omega (arith, long)) ∙ ap (λ n. places w ++ drop n (replicate 65 0)) (zero-add (length (places w)))

  pub index_places : (j : ℕ) → j ≤ length w.starts → get_or (index_of w).starts j 0 ≡ get_or (places w) j 0
  index_places j h =
      ap (λ l. get_or l j 0) array
      ∙ get_or-append (places w) (drop (length (places w)) (replicate 65 0)) 0 j (omega (arith, length-append w.starts (w.at ∷ []), h))

  pub index_starts : take (length w.starts) (index_of w).starts ≡ w.starts
  index_starts =
      ap (take (length w.starts)) array
      ∙ take-append-le (length w.starts) (places w) (drop (length (places w)) (replicate 65 0)) (omega (arith, length-append w.starts (w.at ∷ [])))
      ∙ take-append_seam w.starts (w.at ∷ [])

-- what the index answers of the properties of a body
module _ (s : List ℕ) (k : ℕ) {r : Index} (e : r ≡ index_of (properties s k)) where
  pub starts_taken : take r.count r.starts ≡ (properties s k).starts
  starts_taken = ap (λ r. take r.count r.starts) e ∙ index_starts (properties s k) (properties_few s k)

  pub starts_room : r.count ≤ 64 → r.count ≤ length r.starts
  starts_room h =
      let long : length r.starts ≡ 65 = ap (λ r. length r.starts) e ∙ length-sets (replicate 65 0) 0 (places (properties s k)) in
      omega (arith, h, long)
