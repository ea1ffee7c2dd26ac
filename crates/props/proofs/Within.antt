-- A property that is passed lies in its body: its data starts where `data_at` says, and ends within.
use mathlib.Core.Path.{◌≡◌, refl, subst}
use mathlib.Core.Bool.{Bool, true, false, cond, not}
use mathlib.Core.List.{List}
use Prim.Native.Nat.{ℕ, ◌+◌, ◌-◌, ◌≤◌}
use native.Mathlib.Omega.{arith}
use lib.Dec.{ltb}
use lib.ListN.{length, drop, length-drop}
use Rattle.base.proofs.Refusals.{by_refusal}
use Rattle.base.proofs.Tests.{by_test}
use Rattle.names.specs.Names.{size_ok, bytes_ok}
use Rattle.props.specs.declared.Cursor.{Cursor}
use Rattle.props.specs.declared.Offsets.{Offsets}
use Rattle.props.specs.Private.{Extent}
use Rattle.props.specs.Private.{Takes}
use Rattle.props.specs.Private.{Refused as noData}
use Rattle.props.specs.Step.{Step}
use Rattle.props.specs.Step.{Past, Refused}
use Rattle.props.specs.Types.{element_size, no_such}
use Rattle.props.specs.Step.{header_refusal, length_ok, data_size, code_at, size_at, length_at, name_at, start_at, step_at, data_at}
use Rattle.props.specs.Private.{data_of}
use Rattle.props.proofs.Laws.{data_here}
use Rattle.props.proofs.Cases.{Within, name_fits, data_within, past, by_stages}

abbrev pub StepWithin : List ℕ → ℕ → Step → Type 0
StepWithin s at (Past p next) = (data_at s at ≡ p.start) × (p.start ≤ next.at) × (next.at ≤ length s)
StepWithin s at (Refused n) = Unit

module _ (s : List ℕ) (at : ℕ) where
  past_within : (start : ℕ) → data_at s at ≡ start → start ≤ length s → (e : Extent) → Within (length s - start) e → StepWithin s at (past at start e)
  past_within start d h (Takes n) w = (d, omega arith, omega (arith, w))
  past_within start d h (noData n) w = tt

  pub within : StepWithin s at (step_at s at)
  within =
      let start = start_at s at in
      let extent = data_of (element_size (code_at s at)) (length_at s at) (drop start s) in
      rw (by_stages s at)
      (by_refusal (StepWithin s at) (header_refusal (code_at s at) (size_at s at) (length s - at)) _ _ (λ refused. tt)
      (λ right. by_test (bytes_ok (name_at s at))
      (λ named. let fits : start ≤ length s = omega (arith, name_fits (code_at s at) (size_at s at) (length s - at) right) in
      rw named (past_within start (data_here s at fits) fits extent
      (subst (λ n. Within n extent) (length-drop start s) (data_within (element_size (code_at s at)) (length_at s at) (drop start s)))))
      (λ bad. rw bad tt)))

  pub step_within : {p : Offsets} {next : Cursor} → step_at s at ≡ Past p next → (data_at s at ≡ p.start) × (p.start ≤ next.at) × (next.at ≤ length s)
  step_within e = subst (StepWithin s at) e within

-- and it ends where its header and its data say
abbrev pub StepEnds : List ℕ → ℕ → Step → Type 0
StepEnds s at (Past p next) =
    (p.start ≡ start_at s at)
    × (next.at ≡ start_at s at + data_size (element_size (code_at s at)) (length_at s at) (drop (start_at s at) s))
StepEnds s at (Refused n) = Unit

module _ (s : List ℕ) (at : ℕ) where
  ends_by : (a b c d e f g : Bool) (step : Step) → StepEnds s at step → StepEnds s at (cond a (Refused 10) (cond b (Refused 11)
      (cond c (Refused 11) (cond d (Refused 10) (cond e (Refused 11) (cond f (Refused 11) (cond g (Refused 10) step)))))))
  ends_by true b c d e f g step h = tt
  ends_by false true c d e f g step h = tt
  ends_by false false true d e f g step h = tt
  ends_by false false false true e f g step h = tt
  ends_by false false false false true f g step h = tt
  ends_by false false false false false true g step h = tt
  ends_by false false false false false false true step h = tt
  ends_by false false false false false false false step h = h

  pub ends : StepEnds s at (step_at s at)
  unfolding step_at
  ends =
      let size = element_size (code_at s at) in
      let room = length s - at in
      let bs = drop (start_at s at) s in
      let n = data_size size (length_at s at) bs in
      ends_by (ltb room 8) (no_such size) (not (size_ok (size_at s at))) (ltb room (8 + size_at s at)) (not (bytes_ok (name_at s at))) (not (length_ok size (length_at s at))) (ltb (length bs) n)
      (Past (record { name = at + 8; start = start_at s at }) (record { at = start_at s at + n })) (refl, refl)

  pub step_ends : {p : Offsets} {next : Cursor} → step_at s at ≡ Past p next →
      (p.start ≡ start_at s at) × (next.at ≡ start_at s at + data_size (element_size (code_at s at)) (length_at s at) (drop (start_at s at) s))
  step_ends e = subst (StepEnds s at) e ends
