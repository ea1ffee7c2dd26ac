-- The second pass: where the first one passed all properties, it finds the same places.
use mathlib.Core.Path.{◌≡◌, refl, ap, ◌∙◌}
use mathlib.Core.Bool.{Bool, true, false, cond, not}
use mathlib.Core.List.{List, ◌∷◌}
use Prim.Native.Nat.{ℕ, zero, suc, ◌+◌, ◌-◌, ◌≤◌, ◌<◌}
use native.Mathlib.Omega.{arith}
use lib.Dec.{ltb}
use lib.ListN.{length, drop, get_or}
use borrow.Author.Tests.{lt-ltb, le-ltb, ltb-false}
use Rattle.base.proofs.Tests.{by_test}
use Rattle.le.proofs.Laws.{rest, drop_rest, length_rest}
use Rattle.props.specs.declared.PropertyHeader.{PropertyHeader}
use Rattle.names.specs.Names.{size_ok, bytes_ok}
use Rattle.props.specs.declared.Cursor.{Cursor}
use Rattle.props.specs.declared.Offsets.{Offsets}
use Rattle.props.specs.Step.{Step}
use Rattle.props.specs.Step.{Past, Refused}
use Rattle.props.specs.Types.{element_size, no_such}
use Rattle.props.specs.Step.{code_at, size_at, length_at, name_at, start_at, length_ok, data_size, step_at}
use Rattle.props.proofs.Within.{StepWithin, within, StepEnds, ends}
use Rattle.body.specs.Body.{by_step, pass, properties, next_by, next_at, skim, skimmed}

-- a step that refuses has a number
abbrev Told : Step → Type 0
Told (Past p next) = Unit
Told (Refused n) = n ≡ 0 → ⊥

-- by what is left of the bytes from its place on
pub next_rest : (s : List ℕ) (at : ℕ) (h : PropertyHeader) → at ≤ length s → at + next_by (rest s at) 0 h ≡ next_by s at h
next_rest s at h l =
    let k = 8 + h.size in
    let same : drop k (rest s at) ≡ drop (at + 8 + h.size) s
    = drop_rest s at k ∙ (let e : at + k ≡ at + 8 + h.size = omega arith in ap (λ i. drop i s) e) in
    let taken : data_size (element_size h.code) h.length (drop k (rest s at)) ≡ data_size (element_size h.code) h.length (drop (at + 8 + h.size) s)
    = ap (data_size (element_size h.code) h.length) same in
    omega (arith, length_rest s at, taken, l)

module _ (s : List ℕ) where
  -- ---- where a property ends
  abbrev ended : ℕ → ℕ
  ended at = start_at s at + data_size (element_size (code_at s at)) (length_at s at) (drop (start_at s at) s)

  pub next_most : (at : ℕ) → next_at s at ≤ length s
  unfolding next_at
  next_most at = omega arith

  next_inside : (at : ℕ) → ended at ≤ length s → ended at ≡ next_at s at
  unfolding next_at
  next_inside at h = omega (arith, h)

  -- ---- the places
  pub length_skim : (k at : ℕ) → length (skim s k at) ≡ k
  unfolding skim
  length_skim zero at = refl
  length_skim (suc k) at = ap suc (length_skim k (next_at s at))

  pub skim_within : (k at : ℕ) → at ≤ length s → (i : ℕ) → get_or (skim s k at) i 0 ≤ length s
  unfolding skim
  skim_within zero at h i = omega arith
  skim_within (suc k) at h zero = h
  skim_within (suc k) at h (suc i) = skim_within k (next_at s at) (next_most at) i

  -- what was passed is found again
  refused_by : (a b c d e f g : Bool) (p : Offsets) (next : Cursor) → Told (cond a (Refused 10) (cond b (Refused 11)
      (cond c (Refused 11) (cond d (Refused 10) (cond e (Refused 11) (cond f (Refused 11) (cond g (Refused 10) (Past p next))))))))
  refused_by true b c d e f g p next = λ q. absurd (omega (arith, q))
  refused_by false true c d e f g p next = λ q. absurd (omega (arith, q))
  refused_by false false true d e f g p next = λ q. absurd (omega (arith, q))
  refused_by false false false true e f g p next = λ q. absurd (omega (arith, q))
  refused_by false false false false true f g p next = λ q. absurd (omega (arith, q))
  refused_by false false false false false true g p next = λ q. absurd (omega (arith, q))
  refused_by false false false false false false true p next = λ q. absurd (omega (arith, q))
  refused_by false false false false false false false p next = tt

  told : (at : ℕ) → Told (step_at s at)
  unfolding step_at
  told at =
      let size = element_size (code_at s at) in
      let room = length s - at in
      let bs = drop (start_at s at) s in
      refused_by (ltb room 8) (no_such size) (not (size_ok (size_at s at))) (ltb room (8 + size_at s at)) (not (bytes_ok (name_at s at)))
      (not (length_ok size (length_at s at))) (ltb (length bs) (data_size size (length_at s at) bs)) _ _

  by_end : (k at : ℕ) → ((a : ℕ) → (pass s k a).number ≡ 0 → (pass s k a).starts ≡ skim s k a) →
      (w : Step) → StepWithin s at w → StepEnds s at w → Told w → (by_step at (pass s k) w).number ≡ 0 → (by_step at (pass s k) w).starts ≡ at ∷ skim s k (next_at s at)
  by_end k at ih (Past p next) h g n e =
      let same : next.at ≡ next_at s at = g.1 ∙ next_inside at (omega (arith, h.2, g.1)) in
      ap (λ l. at ∷ l) (ih next.at e ∙ ap (skim s k) same)
  by_end k at ih (Refused n) h g told e = absurd (told e)

  pass_skim : (k at : ℕ) → (pass s k at).number ≡ 0 → (pass s k at).starts ≡ skim s k at
  unfolding pass skim
  pass_skim zero at e = refl
  pass_skim (suc k) at e = by_end k at (pass_skim k) (step_at s at) (within s at) (ends s at) (told at) e

  -- for callers: the places of a body whose properties were all passed
  pub skimmed_passed : (k : ℕ) → (properties s k).number ≡ 0 → (properties s k).starts ≡ skimmed s k
  unfolding properties skimmed
  skimmed_passed k e =
      by_test (ltb 64 k)
      (λ t. absurd (nine (rw t at e)))
      (λ t. rw t (pass_skim k 0 (rw t at e)))
    where
      nine : suc 8 ≡ 0 → ⊥
      nine q = omega (arith, q)

  pub skimmed_within : (k i : ℕ) → get_or (skimmed s k) i 0 ≤ length s
  unfolding skimmed
  skimmed_within k i = by_test (ltb 64 k) (λ t. rw t (omega arith)) (λ t. rw t (skim_within k 0 (omega arith) i))

  pub skimmed_few : (k : ℕ) → length (skimmed s k) ≤ 64
  unfolding skimmed
  skimmed_few k = by_test (ltb 64 k) (λ t. rw t (omega arith)) (λ t. rw (t, length_skim k 0) (ltb-false 64 k t))

  -- for callers: the count that is taken, none where it is over 64
  pub skim_none : (k n : ℕ) → 64 < k → n ≡ 0 → skim s n 0 ≡ skimmed s k
  unfolding skimmed skim
  skim_none k n h e = rw (e, lt-ltb 64 k h)

  pub skim_all : (k n : ℕ) → k ≤ 64 → n ≡ k → skim s n 0 ≡ skimmed s k
  unfolding skimmed
  skim_all k n h e = rw (e, le-ltb 64 k h)
