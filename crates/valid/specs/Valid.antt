-- Acceptance as propositions, with no number, place or order: the layout (format), where kinds may stand, and document 01's
-- rules of properties and links.
use Rattle.std.specs.Prelude.{ℕ, suc, ◌+◌, ◌≤◌, ◌≡◌, cond, ◌&&◌, List, eqb, length, None}
use Rattle.base.specs.Limits.{most_bytes}
use Rattle.le.specs.Le.{val}
use Rattle.kinds.specs.Kinds.{bone}
use Rattle.rules.specs.Table.{link_to}
use Rattle.format.specs.Forest.{Forest, end, known, unknown, file_of}
use Rattle.base.specs.Lists.{Each}
use Rattle.format.specs.Layout.{Property, GoodBody, WellFormedFile, Placed, Few}
use Rattle.valid.specs.Lines.{ByLine}
use Rattle.valid.specs.Obeys.{Obeys}

-- ---- rules

-- the Bones among nodes side by side (where nodes are well-formed, no unknown one is among them)
abbrev pub bones : Forest → ℕ
bones end = 0
bones (known k h p body kids next) = cond (eqb k bone) (suc (bones next)) (bones next)
bones (unknown k h p c rest next) = cond (eqb k bone) (suc (bones next)) (bones next)

-- what holds of each known node, by the Bones beside it, its kind, its property count and its body; an unknown node's
-- properties are not read
abbrev pub EachKnown : ((beside kind count : ℕ) (body : List ℕ) → Type 0) → (beside : ℕ) → Forest → Type 0
EachKnown P beside end = Unit {0}
EachKnown P beside (known k h p body kids next) = P beside k p body × EachKnown P (bones kids) kids × EachKnown P beside next
EachKnown P beside (unknown k h p c rest next) = EachKnown P beside next

-- its properties obey the rules (a well-formed node is of one list of properties: `OneBody`)
abbrev pub NodeRuled : (beside kind count : ℕ) (body : List ℕ) → Type 0
NodeRuled beside kind count body = (good : GoodBody count body) → Obeys kind good.properties beside

-- ---- links

-- how many nodes are of a kind and have a hash
abbrev pub reaches : (kind hash : ℕ) → Forest → ℕ
reaches kind hash end = 0
reaches kind hash (known k h p body kids next) =
    let others = reaches kind hash kids + reaches kind hash next in
    cond (eqb k kind && eqb h hash) (suc others) others
reaches kind hash (unknown k h p c rest next) = cond (eqb k kind && eqb h hash) (suc (reaches kind hash next)) (reaches kind hash next)

-- a property that its line makes a link: "exactly one node of that kind in the file has that hash"
abbrev pub Links : (file : Forest) (kind : ℕ) → Property → Type 0
Links file kind p = ByLine kind p.name (λ l. (to : ℕ) → l.held ≡ link_to to → reaches to (val p.content) file ≡ 1)

abbrev pub NodeLinked : (file : Forest) (beside kind count : ℕ) (body : List ℕ) → Type 0
NodeLinked file beside kind count body = (good : GoodBody count body) → Each (Links file kind) good.properties

-- ---- a file that is accepted
pub record Valid (flags : ℕ) (f : Forest) : Type 0 where
  -- the layout
  pub well_formed : WellFormedFile flags f
  -- each kind stands where it may, so that none lies deeper than 5; and there are at most 1,024 nodes
  pub placed : Placed None f
  pub few : Few f
  -- not "file over 16,777,216 bytes"
  pub short : length (file_of flags f) ≤ most_bytes
  pub ruled : EachKnown NodeRuled (bones f) f
  pub linked : EachKnown (NodeLinked f) (bones f) f
