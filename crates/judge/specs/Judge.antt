-- Document 01's refusals 13, 14 and 15 of one node, from its kind, its property count, its body and the number of Bones
-- beside it: "all 13, then 14, then all 15". The lines of its kind are ls. The place is an offset from the node's header: 0 is the
-- node, 24 the first byte of its body.
use Rattle.std.specs.Prelude.{ℕ, ◌+◌, ◌*◌, ◌^◌, ◌≤◌, cond, List, [], length, Result, Ok, Err}
use Rattle.base.specs.Limits.{most_properties}
use Rattle.base.specs.declared.Refusal.{Refusal as CodeRefusal}
use Rattle.base.specs.Refusals.{Refusal, refusal, refused_or, reason_number}
use Rattle.body.specs.Body.{properties}
use Rattle.faces.specs.declared.Face.{Face}
use Rattle.faces.specs.declared.Faces.{Faces}
use Rattle.faces.specs.Faces.{degenerate}
use Rattle.judge.specs.declared.Judged.{Judged as CodeJudged}
use Rattle.rules.specs.Table.{Line}
use Rattle.rules.specs.Rules.{lines_of}
use Rattle.judge.specs.Properties.{beside_of}
use Rattle.judge.specs.Typed.{typed}
use Rattle.judge.specs.Missing.{lacks}
use Rattle.judge.specs.Valued.{valued, node_faces, node_links}

-- the verdict on the properties at some places
unfoldable pub verdict_at : (kind : ℕ) → List Line → (s starts : List ℕ) (bones : ℕ) → Refusal
verdict_at kind ls s starts bones =
    let v = typed ls s [] starts in
    refused_or v.number v
    (cond (lacks kind ls s starts) (refusal 14 0)
    (valued ls s (beside_of kind s starts bones) starts))

-- what a node's rules give: a refusal's number, 0 for none, and its place; its faces, how many of them are degenerate, and its links
pub record Judged : Type 0 where
  pub number : ℕ
  pub place : ℕ
  pub faces : Faces
  pub degenerate : ℕ
  pub links : ℕ

abbrev pub refused_node : (number place : ℕ) → Judged
refused_node n place = record { number = n; place = place; faces = record { 0 = 0 }; degenerate = 0; links = 0 }

abbrev pub accepted_node : (faces degenerate links : ℕ) → Judged
accepted_node faces degenerate links = record { number = 0; place = 0; faces = record { 0 = faces }; degenerate = degenerate; links = links }

-- as the code has it
abbrev pub judged_told : Result CodeJudged CodeRefusal → Judged
judged_told (Ok j) = record { number = 0; place = 0; faces = j.faces; degenerate = j.degenerate; links = j.links }
judged_told (Err r) = refused_node (reason_number r.reason) r.place

-- what a node counts where nothing is refused
abbrev pub judged_by : Refusal → List Face → (links : ℕ) → Judged
judged_by v fs links = refused_or v.number (refused_node v.number v.place) (accepted_node (length fs) (degenerate fs) links)

unfoldable pub judged_at : (kind : ℕ) → List Line → (s starts : List ℕ) (bones : ℕ) → Judged
judged_at kind ls s starts bones = judged_by (verdict_at kind ls s starts bones) (node_faces ls s starts) (node_links ls s starts)

-- of a given number of properties, those that the walk passes
unfoldable pub judged : (kind count : ℕ) (s : List ℕ) (bones : ℕ) → Judged
judged kind count s bones = judged_at kind (lines_of kind) s (properties s count).starts bones

-- how large a judgement's numbers are: its place lies in the node, whose body has a given size; and 64 properties count at most this
pub record Bounded (r : Judged) (size : ℕ) : Type 0 where
  pub place : r.place ≤ 24 + size
  pub faces : r.faces.0 ≤ most_properties * 2 ^ 32
  pub degenerates : r.degenerate ≤ most_properties * 2 ^ 32
  pub links : r.links ≤ most_properties
