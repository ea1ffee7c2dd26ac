-- What private functions promise each other; nothing here need be believed.
use Rattle.std.specs.Prelude.{◌≡◌, ℕ, ◌≤◌, Bool, true, false, ◌||◌, List, [], ◌∷◌, map, length, ◌==◌, slice_index, cond, Option, Some, None, Result, Ok, Err}
use Rattle.std.proofs.lemmas.List.Edits.{sets}
use Rattle.faces.specs.declared.Face.{Face}
use Rattle.faces.specs.declared.Counted.{Counted}
use Rattle.faces.specs.Faces.{degenerate}
use Rattle.rules.specs.Table.{Held, Line}
use Rattle.rules.specs.Packing.{types_from}
use Rattle.rules.specs.declared.Types.TheVariants as T
use Rattle.judge.specs.Judge.{Judged}
use Rattle.judge.specs.Valued.{Fault}
use Rattle.judge.specs.Valued.{Right, Whole, Element}
use Rattle.judge.specs.declared.valued.Measures.{Measures}
use Rattle.judge.specs.Properties.{line_number, Beside}
use Rattle.judge.specs.Typed.{rightly_typed, key_at, slot_at, marked}
use Rattle.judge.specs.ByLine.{has_number, place_by_line}
use Rattle.judge.specs.declared.valued.Fault.{Fault as CodeFault}
use Rattle.judge.specs.Valued.{fault_named, fault_of, held_faces, valued, node_faces, node_links}
use Rattle.judge.specs.Judge.{judged_by}

-- properties start in the body
abbrev pub StartsWithin : (s starts : List ℕ) → Type 0
StartsWithin s starts = (i : ℕ) → slice_index starts i ≤ length s

-- where the first property of a line starts, if it has one
abbrev pub place_found : (starts numbers : List ℕ) (k : ℕ) → Option ℕ
place_found starts ns k = cond (has_number ns k) (Some (place_by_line starts ns k)) None

unfoldable pub has_key : List ℕ → (key : ℕ) → Bool
has_key [] key = false
has_key (k ∷ ks) key = k == key || has_key ks key

-- what a property is held against, from its numbers
abbrev pub beside_from : Measures → Beside
beside_from m = record {
  vertices = m.vertices;
  weights = m.weights;
  indices = m.indices;
  keys = m.keys;
  types = types_from m.types;
  bones = m.bones;
}

-- at a kind whose properties are held against the Bones alone
abbrev pub measures_none : (bones : ℕ) → Measures
measures_none bones = record { vertices = 0; weights = 0; indices = 0; keys = 0; types = T.Any; bones = bones }

abbrev pub breaks : Fault → Bool
breaks Right = false
breaks Whole = true
breaks (Element k) = true

pub record Kept : Type 0 where
  pub fault : Fault
  pub faces : ℕ
  pub degenerate : ℕ

-- as the code has it
abbrev pub kept_told : Result Counted CodeFault → Kept
kept_told (Ok c) = record { fault = Right; faces = c.faces.0; degenerate = c.degenerate }
kept_told (Err f) = record { fault = fault_named f; faces = 0; degenerate = 0 }

-- what a property breaks, and where it breaks nothing how many faces and degenerate ones it counts
abbrev pub kept_by : Fault → List Face → Kept
kept_by Right fs = record { fault = Right; faces = length fs; degenerate = degenerate fs }
kept_by Whole fs = record { fault = Whole; faces = 0; degenerate = 0 }
kept_by (Element k) fs = record { fault = Element k; faces = 0; degenerate = 0 }

unfoldable pub kept_at : Held → (s : List ℕ) (at : ℕ) → Beside → Kept
kept_at h s at b = kept_by (fault_of h s at b) (held_faces h s at)

-- 15 of some properties, with what they count
unfoldable pub valued_to : List Line → (s : List ℕ) → Beside → (starts : List ℕ) → Judged
valued_to ls s b starts = judged_by (valued ls s b starts) (node_faces ls s starts) (node_links ls s starts)

-- what 13 notes of the properties that it passes: where they start, their lines and the keys of their names; and the slots that it marks
pub record Noted (ls : List Line) (s : List ℕ) (mark : ℕ) (all starts₀ numbers₀ keys₀ marks₀ starts₁ numbers₁ keys₁ marks₁ : List ℕ) : Type 0 where
  pub starts : starts₁ ≡ sets starts₀ 0 (rightly_typed ls s [] all)
  pub numbers : numbers₁ ≡ sets numbers₀ 0 (map (line_number ls s) (rightly_typed ls s [] all))
  pub keys : keys₁ ≡ sets keys₀ 0 (map (key_at s) (rightly_typed ls s [] all))
  pub marks : marks₁ ≡ marked mark marks₀ (map (slot_at s) (rightly_typed ls s [] all))
