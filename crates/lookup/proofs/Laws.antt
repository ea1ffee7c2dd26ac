-- The search in a body, a property at a time; and what it finds lies within.
use mathlib.Core.Path.{◌≡◌, refl, sym, ap, ◌∙◌}
use mathlib.Core.Bool.{Bool, true, false, cond, ◌&&◌, not}
use mathlib.Core.List.{List, [], ◌∷◌}
use Prim.Native.Nat.{ℕ, zero, suc, ◌+◌, ◌-◌, ◌<◌, ◌≤◌}
use native.Mathlib.Numerals.{add-one}
use native.Mathlib.Omega.{arith}
use lib.Dec.{eqb}
use lib.ListN.{length, get_or, get_or-append}
use borrow.Author.Tests.{eq-eqb, ne_eqb, eqb-true, eqb-false}
use Rattle.base.proofs.Tests.{by_test}
use Rattle.le.proofs.Laws.{rest}
use Rattle.names.specs.Names.{same}
use Rattle.props.specs.declared.Cursor.{Cursor}
use Rattle.props.specs.declared.Offsets.{Offsets}
use Rattle.props.specs.Step.{Step}
use Rattle.props.specs.Step.{Past}
use Rattle.props.specs.Step.{Refused as refusedStep}
use Rattle.props.specs.Step.{step_at, name_at, data_at}
use Rattle.props.proofs.Within.{step_within}
use Rattle.body.specs.Body.{Sought}
use Rattle.body.specs.Body.{Found as FoundAt, Nowhere}
use Rattle.body.specs.Body.{RefusedAt}
use Rattle.body.specs.Body.{PropertyWalk, stop, after, pass, properties, sought, exactly, places, first_named}
use Rattle.body.proofs.Laws.{done, passed, refused, first_most}
use Rattle.body.proofs.Search.{sought_done, sought_refused, sought_here, sought_later}
use Rattle.body.proofs.Places.{pass_first, properties_places, properties_data}
use Rattle.format.proofs.Properties.{step_told}
use Rattle.lookup.specs.Lookup.{Found}
use Rattle.lookup.specs.Lookup.{At, Refused}
use Rattle.lookup.specs.Lookup.{in_body, FoundWithin}
use Rattle.lookup.proofs.Rest.{exactly_on}

-- ---- what a walk over properties answers of a name, as `in_body` says it of a body
abbrev exact_walk : (s : List ℕ) → PropertyWalk → Bool
exact_walk s w = eqb w.number 0 && eqb w.at (length s)

unfoldable pub found_in : (s name : List ℕ) → PropertyWalk → Found
found_in s name w =
    let i = first_named s name w.starts in
    cond (not (exact_walk s w)) (Refused 42)
    (cond (eqb i (length w.starts)) (Refused 43)
    (At (data_at s (get_or (places w) i 0)) (get_or (places w) (i + 1) 0)))

eqb_suc : (i n : ℕ) → eqb (suc i) (suc n) ≡ eqb i n
eqb_suc i n =
    by_test (eqb i n)
    (λ t. eq-eqb (suc i) (suc n) (omega (arith, eqb-true i n t)) ∙ sym t)
    (λ t. ne_eqb (suc i) (suc n) (λ e. eqb-false i n t (omega (arith, e))) ∙ sym t)

module _ (s name : List ℕ) where
  pub body_found : (k : ℕ) → found_in s name (properties s k) ≡ in_body s k name
  unfolding in_body exactly found_in
  body_found k = refl

  pub found_refused : (n at : ℕ) → (n ≡ 0 → ⊥) → Refused 42 ≡ found_in s name (stop n at)
  unfolding found_in
  found_refused n at h = rw (ne_eqb n 0 h)

  pub found_short : (at : ℕ) → (at ≡ length s → ⊥) → Refused 42 ≡ found_in s name (stop 0 at)
  unfolding found_in
  found_short at h = rw (ne_eqb at (length s) h)

  pub found_none : (at : ℕ) → at ≡ length s → Refused 43 ≡ found_in s name (stop 0 at)
  unfolding found_in first_named
  found_none at h = rw (eq-eqb at (length s) h)

  module _ (at : ℕ) (w : PropertyWalk) where
    pub found_later : same (name_at s at) name ≡ false → found_in s name (after at w) ≡ found_in s name w
    unfolding found_in first_named
    found_later e =
        let i = first_named s name w.starts in
        let next : suc i + 1 ≡ suc (i + 1) = omega arith in
        rw (e, eqb_suc i (length w.starts), next)

    found_here : same (name_at s at) name ≡ true → found_in s name (after at w) ≡ cond (not (exact_walk s w)) (Refused 42) (At (data_at s at) (get_or (places w) 0 0))
    unfolding found_in first_named
    found_here e = rw (e, ne_eqb 0 (suc (length w.starts)) (λ z. omega (arith, z)))

-- ---- the same at a place of a body with properties left, by the step there
module _ (s name : List ℕ) (k at : ℕ) (more : 0 < k) where
  abbrev here : Found
  here = found_in s name (pass s k at)

  pub turn_refused : {n : ℕ} → step_at s at ≡ refusedStep n → Refused 42 ≡ here
  turn_refused {n} e = found_refused s name n at (λ z. step_told s at (e ∙ ap refusedStep z)) ∙ ap (found_in s name) (sym (refused s k at more e))

  module _ {p : Offsets} {q : Cursor} (e : step_at s at ≡ Past p q) where
    past : found_in s name (after at (pass s (k - 1) q.at)) ≡ here
    past = ap (found_in s name) (sym (passed s k at more e))

    pub turn_other : same (name_at s at) name ≡ false → found_in s name (pass s (k - 1) q.at) ≡ here
    turn_other other = sym (found_later s name at (pass s (k - 1) q.at) other) ∙ past

    module _ (most : k ≤ 64) (is : same (name_at s at) name ≡ true) where
      -- the rest is judged, and then it is this property
      pub turn_here : cond (not (exactly (rest s q.at) (k - 1))) (Refused 42) (At p.start q.at) ≡ here
      turn_here =
          let lies = step_within s at e in
          let judged = exactly_on s q.at (k - 1) lies.2 (omega (arith, most)) in
          rw (judged, ← lies.0) (ap (λ n. cond (not (exact_walk s (pass s (k - 1) q.at))) (Refused 42) (At (data_at s at) n)) (sym (pass_first s (k - 1) q.at))
          ∙ sym (found_here s name at (pass s (k - 1) q.at) is)
          ∙ past)

-- ---- what a search among the properties answers
abbrev pub by_sought : (s : List ℕ) → Sought → Found
by_sought s (FoundAt start end left) = cond (not (exactly (rest s end) left)) (Refused 42) (At start end)
by_sought s (Nowhere at) = cond (eqb at (length s)) (Refused 43) (Refused 42)
by_sought s (RefusedAt n at) = Refused 42

pub sought_found : (s name : List ℕ) (k at : ℕ) → k ≤ 64 → by_sought s (sought s name k at) ≡ found_in s name (pass s k at)
sought_found s name zero at most =
    ap (by_sought s) (sym (sought_done s name 0 at (omega arith)))
    ∙ by_test (eqb at (length s)) (λ t. rw t (found_none s name at (eqb-true at (length s) t))) (λ t. rw t (found_short s name at (eqb-false at (length s) t)))
    ∙ ap (found_in s name) (sym (done s 0 at (omega arith)))
sought_found s name (suc k) at most = by (step_at s at) (λ b. sought_found s name k b (omega arith)) refl
  where
    by : (w : Step) → ((b : ℕ) → by_sought s (sought s name k b) ≡ found_in s name (pass s k b)) → step_at s at ≡ w
        → by_sought s (sought s name (suc k) at) ≡ found_in s name (pass s (suc k) at)
    by (Past p q) ih e =
        let one : suc k - 1 ≡ k = omega arith in
        by_test (same (name_at s at) name)
        (λ is. ap (by_sought s) (sym (sought_here s name (suc k) at (omega arith) e is)) ∙ turn_here s name (suc k) at (omega arith) e most is)
        (λ is. ap (by_sought s) (sym (sought_later s name (suc k) at (omega arith) e is)) ∙ rw one (ih q.at) ∙ turn_other s name (suc k) at (omega arith) e is)
    by (refusedStep n) ih e = ap (by_sought s) (sym (sought_refused s name (suc k) at (omega arith) e)) ∙ turn_refused s name (suc k) at (omega arith) e

-- ---- the cases of the definition
module _ (s name : List ℕ) (k : ℕ) (right : (properties s k).number ≡ 0) (whole : (properties s k).at ≡ length s) where
  pub by_none : first_named s name (properties s k).starts ≡ length (properties s k).starts → Refused 43 ≡ in_body s k name
  unfolding in_body exactly
  by_none e = rw (eq-eqb _ _ right, eq-eqb _ _ whole, eq-eqb _ _ e)

  pub by_first : (first_named s name (properties s k).starts ≡ length (properties s k).starts → ⊥) →
      At (data_at s (get_or (places (properties s k)) (first_named s name (properties s k).starts) 0)) (get_or (places (properties s k)) (first_named s name (properties s k).starts + 1) 0) ≡ in_body s k name
  unfolding in_body exactly
  by_first h = rw (eq-eqb _ _ right, eq-eqb _ _ whole, ne_eqb _ _ h)

-- ---- within
module _ (s name : List ℕ) (k : ℕ) where
  within_by : (x z : Bool) → eqb (first_named s name (properties s k).starts) (length (properties s k).starts) ≡ z
      → FoundWithin (length s) (cond x (Refused 42) (cond z (Refused 43) (At (data_at s (get_or (places (properties s k)) (first_named s name (properties s k).starts) 0)) (get_or (places (properties s k)) (first_named s name (properties s k).starts + 1) 0))))
  within_by true z f = tt
  within_by false true f = tt
  within_by false false f =
      let w = properties s k in
      let i = first_named s name w.starts in
      let differ = eqb-false i (length w.starts) f in
      let inside : i < length w.starts = omega (arith, differ, first_most s name w.starts) in
      let start : get_or (places w) i 0 ≡ get_or w.starts i 0 = get_or-append w.starts (w.at ∷ []) 0 i inside in
      (rw (start, add-one) (properties_data s k i inside), properties_places s k (i + 1))

  pub body_within : FoundWithin (length s) (in_body s k name)
  unfolding in_body
  body_within = within_by (not (exactly s k)) (eqb (first_named s name (properties s k).starts) (length (properties s k).starts)) refl
