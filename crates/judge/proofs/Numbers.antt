-- The numbers of a node's refusal: 13 to 15.
use Rattle.std.proofs.Common.{◌≡◌, ℕ, ◌+◌, ◌≤◌, List, [], ◌∷◌, ◌++◌, length, refl, arith}
use Rattle.base.specs.Refusals.{Refusal}
use Rattle.base.specs.Refusals.{refusal}
use Rattle.base.proofs.Refusals.{by_refusal}
use Rattle.base.proofs.Tests.{by_test}
use Rattle.body.specs.Body.{properties}
use Rattle.faces.specs.Faces.{degenerate}
use Rattle.rules.specs.Table.{Line}
use Rattle.rules.specs.Rules.{lines_of}
use Rattle.judge.specs.Properties.{rule_at, Beside, beside_of}
use Rattle.judge.specs.Typed.{is_mistyped, typed}
use Rattle.judge.specs.Missing.{lacks}
use Rattle.judge.specs.Valued.{fault_of, fault_number, valued, node_faces, node_links}
use Rattle.judge.specs.Judge.{verdict_at, refused_node, accepted_node, judged_at, judged}

-- a number that, if it is a refusal's, is one of these
abbrev pub Among : (least most n : ℕ) → Type 0
Among least most n = (n ≡ 0 → ⊥) → (least ≤ n) × (n ≤ most)

abbrev Told : Refusal → Type 0
Told v = Among 13 15 v.number

module _ (ls : List Line) (s : List ℕ) where
  typed_number : (before starts : List ℕ) → Told (typed ls s before starts)
  unfolding typed
  typed_number before [] = λ h. absurd (h refl)
  typed_number before (at ∷ more) =
      by_test (is_mistyped ls s before at) (λ t. rw t (λ h. (omega arith, omega arith))) (λ t. rw t (typed_number (before ++ (at ∷ [])) more))

  valued_number : (b : Beside) (starts : List ℕ) → Told (valued ls s b starts)
  unfolding valued
  valued_number b [] = λ h. absurd (h refl)
  valued_number b (at ∷ more) =
      by_refusal Told (fault_number (fault_of (rule_at ls s at).held s at b)) (refusal 15 (24 + at)) (valued ls s b more)
      (λ n h. (omega arith, omega arith)) (λ n. valued_number b more)

  verdict_number : (kind : ℕ) (starts : List ℕ) (bones : ℕ) → Told (verdict_at kind ls s starts bones)
  unfolding verdict_at
  verdict_number kind starts bones =
      by_refusal Told (typed ls s [] starts).number (typed ls s [] starts) _ (λ n. typed_number [] starts)
      (λ n. by_test (lacks kind ls s starts) (λ t. rw t (λ h. (omega arith, omega arith))) (λ t. rw t (valued_number (beside_of kind s starts bones) starts)))

pub judged_number : (kind count : ℕ) (s : List ℕ) (bones : ℕ) → Among 13 15 (judged kind count s bones).number
unfolding judged judged_at
judged_number kind count s bones =
    let starts = (properties s count).starts in
    let v = verdict_at kind (lines_of kind) s starts bones in
    let fs = node_faces (lines_of kind) s starts in
    by_refusal (λ j. Among 13 15 j.number) v.number (refused_node v.number v.place)
    (accepted_node (length fs) (degenerate fs) (node_links (lines_of kind) s starts))
    (λ n. verdict_number (lines_of kind) s kind starts bones) (λ n h. absurd (h refl))
