-- The walk over a body from a place on is the walk over the part of it from there on.
use mathlib.Core.Path.{◌≡◌, refl, sym, ap, subst, ◌∙◌}
use mathlib.Core.Bool.{Bool, true, false, ◌&&◌, not}
use mathlib.Core.List.{List}
use Prim.Native.Nat.{ℕ, zero, suc, ◌+◌, ◌-◌, ◌≤◌}
use native.Mathlib.Omega.{arith}
use lib.Dec.{eqb, ltb}
use lib.ListN.{length, drop, length-drop}
use lib.Seq.{drop-drop}
use borrow.Author.Tests.{eq-eqb, ne_eqb, eqb-true, eqb-false}
use Rattle.base.proofs.Tests.{by_test}
use Rattle.le.specs.Le.{number_at}
use Rattle.le.proofs.Laws.{rest, rest_drop}
use Rattle.names.specs.Names.{size_ok, bytes_ok}
use Rattle.props.specs.Step.{Step}
use Rattle.props.specs.Step.{Past, Refused}
use Rattle.props.specs.Types.{element_size, no_such}
use Rattle.props.specs.Step.{code_at, size_at, length_at, name_at, start_at, length_ok, data_size, step_at}
use Rattle.body.specs.Body.{PropertyWalk, by_step, pass, properties, exactly}
use Rattle.body.proofs.Laws.{few}
use Rattle.body.proofs.Search.{tested}

-- ---- a step from a place on
abbrev moved : ℕ → Step → Step
moved a (Past p q) = Past (record { name = a + p.name; start = a + p.start }) (record { at = a + q.at })
moved a (Refused n) = Refused n

moved_tested : (k : ℕ) (a b c d e f g : Bool) (next : Step) → tested a b c d e f g (moved k next) ≡ moved k (tested a b c d e f g next)
moved_tested k true b c d e f g next = refl
moved_tested k false true c d e f g next = refl
moved_tested k false false true d e f g next = refl
moved_tested k false false false true e f g next = refl
moved_tested k false false false false true f g next = refl
moved_tested k false false false false false true g next = refl
moved_tested k false false false false false false true next = refl
moved_tested k false false false false false false false next = refl

module _ (s : List ℕ) (a : ℕ) where
  abbrev on : List ℕ
  on = drop a s

  dropped : (k : ℕ) → drop k on ≡ drop (a + k) s
  dropped k = drop-drop k a s

  number_on : (w at : ℕ) → number_at w s (a + at) ≡ number_at w on at
  unfolding number_at
  number_on w at = rw (dropped at)

  size_on : (at : ℕ) → size_at s (a + at) ≡ size_at on at
  size_on at = let two : a + at + 2 ≡ a + (at + 2) = omega arith in ap (number_at 2 s) two ∙ number_on 2 (at + 2)

  length_on : (at : ℕ) → length_at s (a + at) ≡ length_at on at
  length_on at = let four : a + at + 4 ≡ a + (at + 4) = omega arith in ap (number_at 4 s) four ∙ number_on 4 (at + 4)

  name_on : (at : ℕ) → name_at s (a + at) ≡ name_at on at
  unfolding name_at
  name_on at =
      let eight : a + at + 8 ≡ a + (at + 8) = omega arith in
      rw (size_on at, eight, dropped (at + 8))

  step_on : (at : ℕ) → step_at s (a + at) ≡ moved a (step_at on at)
  unfolding step_at
  step_on at =
      let eight : a + at + 8 ≡ a + (at + 8) = omega arith in
      let room : length s - (a + at) ≡ length on - at = omega (arith, length-drop a s) in
      let start : start_at s (a + at) ≡ a + start_at on at = omega (arith, size_on at) in
      let after : drop (start_at s (a + at)) s ≡ drop (start_at on at) on = ap (λ n. drop n s) start ∙ sym (dropped (start_at on at)) in
      let size = element_size (code_at on at) in
      let n = data_size size (length_at on at) (drop (start_at on at) on) in
      let next : start_at s (a + at) + n ≡ a + (start_at on at + n) = omega (arith, start) in
      rw (after, name_on at, room, number_on 2 at, length_on at, next, start, eight, size_on at)
      (moved_tested a (ltb (length on - at) 8) (no_such size) (not (size_ok (size_at on at))) (ltb (length on - at) (8 + size_at on at)) (not (bytes_ok (name_at on at))) (not (length_ok size (length_at on at))) (ltb (length (drop (start_at on at) on)) n) (Past (record { name = at + 8; start = start_at on at }) (record { at = start_at on at + n })))

  -- ---- the walk
  -- a walk's end, in the part and in the whole
  abbrev Same : (inner outer : PropertyWalk) → Type 0
  Same inner outer = (inner.number ≡ outer.number) × (a + inner.at ≡ outer.at)

  pass_on : (k at : ℕ) → Same (pass on k at) (pass s k (a + at))
  unfolding pass
  pass_on zero at = (refl, refl)
  pass_on (suc k) at = rw (step_on at) (by (step_at on at) (pass_on k))
    where
      by : (w : Step) → ((b : ℕ) → Same (pass on k b) (pass s k (a + b))) → Same (by_step at (pass on k) w) (by_step (a + at) (pass s k) (moved a w))
      by (Past p q) ih = ih q.at
      by (Refused n) ih = (refl, refl)

  ends : (x y n : ℕ) → a ≤ n → a + x ≡ y → eqb x (n - a) ≡ eqb y n
  ends x y n h e =
      by_test (eqb y n)
      (λ t. let same : y ≡ n = eqb-true y n t in eq-eqb x (n - a) (omega arith) ∙ sym t)
      (λ t. ne_eqb x (n - a) (λ same. eqb-false y n t (omega (arith, same))) ∙ sym t)

  -- the part is exactly these properties where the walk from its place on ends with the whole
  pub exactly_on : (k : ℕ) → a ≤ length s → k ≤ 64 → exactly (rest s a) k ≡ eqb (pass s k a).number 0 && eqb (pass s k a).at (length s)
  unfolding exactly
  exactly_on k h most =
      let from : a + 0 ≡ a = omega arith in
      let end : Same (properties on k) (pass s k a)
      = subst (λ n. Same (properties on k) (pass s k n)) from (subst (λ w. Same w (pass s k (a + 0))) (few on k most) (pass_on k 0)) in
      rw (rest_drop s a, end.0, length-drop a s, ends (properties on k).at (pass s k a).at (length s) h end.1)
