-- What the definitions of this crate rest on, and the refusals of one node, as named statements.
use Rattle.std.specs.Prelude.{ℕ, ◌≡◌, ◌↔◌, List}
use Rattle.props.specs.Types.{Bytes}
use Rattle.props.specs.Types.{element_size}
use Rattle.faces.specs.Faces.{width_of}
use Rattle.format.specs.Forest.{Forest}
use Rattle.base.specs.Lists.{Each}
use Rattle.format.specs.Layout.{Property, GoodBody, WellFormed}
use Rattle.kinds.specs.Kinds.{mesh}
use Rattle.judge.specs.Judge.{judged}
use Rattle.valid.specs.Lines.{ByLine, IsN}
use Rattle.valid.specs.Obeys.{Distinct, FitsLine, HasRequired, Partnered, Keeps, Obeys}
use Rattle.valid.specs.Nodes.{nodes_of}

-- "`N` any of `b h i`, read unsigned": the width that a value of b, h or i is read with is the element size of its type
abbrev pub WidthIsSize : Type 0
WidthIsSize = (code : ℕ) → IsN code → element_size code ≡ Bytes (width_of code)

-- well-formed nodes are of one list of nodes with their properties
abbrev pub OneNodeList : Type 0
OneNodeList = (f : Forest) (a b : WellFormed f) → nodes_of f a ≡ nodes_of f b

-- ---- the refusals of one node's properties: "all 13, then 14, then all 15"

-- not 13: "name twice on a node; listed name with another type or length"
abbrev pub WellTyped : (kind : ℕ) → List Property → Type 0
WellTyped kind ps = Distinct ps × Each (λ p. ByLine kind p.name (λ l. FitsLine l p)) ps

-- not 14: "required or partner property missing"
abbrev pub NothingMissing : (kind : ℕ) → List Property → Type 0
NothingMissing kind ps = HasRequired kind ps × (kind ≡ mesh → Partnered ps)

-- not 15: "any other property rule above broken"
abbrev pub AllKept : (kind : ℕ) → List Property → (bones : ℕ) → Type 0
AllKept kind ps bones = Each (λ p. ByLine kind p.name (λ l. Keeps l.held ps bones p)) ps

-- each number is given exactly when none before it is, and what it says is so; `judged` is the contract of `judge::judge`
pub record NodeAnswers (kind n : ℕ) (body : List ℕ) (bones : ℕ) (ps : List Property) : Type 0 where
  pub mistyped : ((judged kind n body bones).number ≡ 13) ↔ (WellTyped kind ps → ⊥)
  pub missing : ((judged kind n body bones).number ≡ 14) ↔ (WellTyped kind ps × (NothingMissing kind ps → ⊥))
  pub broken : ((judged kind n body bones).number ≡ 15) ↔ (WellTyped kind ps × NothingMissing kind ps × (AllKept kind ps bones → ⊥))
  pub right : ((judged kind n body bones).number ≡ 0) ↔ Obeys kind ps bones

-- of any kind, any body of its count of good properties, and any number of Bones beside it
abbrev pub JudgedExactly : Type 0
JudgedExactly = (kind n : ℕ) (body : List ℕ) (bones : ℕ) (good : GoodBody n body) → NodeAnswers kind n body bones good.properties
