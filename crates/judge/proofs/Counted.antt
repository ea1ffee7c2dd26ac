-- What a node that is judged right counts.
use Rattle.std.proofs.Common.{◌≡◌, ℕ, ◌+◌, List, [], ◌∷◌, ◌++◌, length, refl, arith}
use Rattle.base.specs.Refusals.{Refusal}
use Rattle.base.proofs.Refusals.{by_refusal}
use Rattle.base.proofs.Tests.{by_test}
use Rattle.body.specs.Body.{properties}
use Rattle.faces.specs.declared.Face.{Face}
use Rattle.faces.specs.Faces.{is_degenerate, degenerate}
use Rattle.rules.specs.Rules.{lines_of}
use Rattle.judge.specs.Judge.{Judged}
use Rattle.judge.specs.Valued.{node_faces, node_links}
use Rattle.judge.specs.Judge.{verdict_at, refused_node, accepted_node, judged_by, judged_at, judged}

pub degenerate_append : (xs ys : List Face) → degenerate (xs ++ ys) ≡ degenerate xs + degenerate ys
unfolding degenerate
degenerate_append [] ys = omega arith
degenerate_append (x ∷ xs) ys =
    by_test (is_degenerate x) (λ t. rw (t, degenerate_append xs ys) (omega arith)) (λ t. rw (t, degenerate_append xs ys))

-- a judgement that refuses nothing counts these
abbrev Counts : List Face → (links : ℕ) → Judged → Type 0
Counts fs links j = j.number ≡ 0 → (j.faces.0 ≡ length fs) × (j.degenerate ≡ degenerate fs) × (j.links ≡ links)

counted_by_lem : (v : Refusal) (fs : List Face) (links : ℕ) → Counts fs links (judged_by v fs links)
counted_by_lem v fs links =
    by_refusal (Counts fs links) v.number (refused_node v.number v.place) (accepted_node (length fs) (degenerate fs) links)
    (λ h e. absurd (h e)) (λ h e. (refl, refl, refl))

module _ (kind count : ℕ) (s : List ℕ) (bones : ℕ) (e : (judged kind count s bones).number ≡ 0) where
  abbrev starts : List ℕ
  starts = (properties s count).starts

  counts : Counts (node_faces (lines_of kind) s starts) (node_links (lines_of kind) s starts) (judged kind count s bones)
  unfolding judged judged_at
  counts = counted_by_lem (verdict_at kind (lines_of kind) s starts bones) (node_faces (lines_of kind) s starts) (node_links (lines_of kind) s starts)

  pub judged_counts : ((judged kind count s bones).faces.0 ≡ length (node_faces (lines_of kind) s starts))
      × ((judged kind count s bones).degenerate ≡ degenerate (node_faces (lines_of kind) s starts))
  judged_counts = ((counts e).0, (counts e).1)

  pub judged_links : (judged kind count s bones).links ≡ node_links (lines_of kind) s starts
  judged_links = (counts e).2
