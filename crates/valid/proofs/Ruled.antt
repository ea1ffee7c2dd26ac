-- The rules of a node's properties as the reading goes by them: by the line that its search finds.
use Prim.Native.Nat.{ℕ}
use mathlib.Core.Path.{◌≡◌}
use mathlib.Core.List.{List}
use Rattle.kinds.specs.Kinds.{mesh}
use Rattle.rules.specs.Table.{Types, only}
use Rattle.base.specs.Letters.{letters}
use Rattle.props.specs.Types.{float}
use Rattle.rules.proofs.Laws.{rule_of}
use Rattle.judge.specs.Properties.{wanted_types}
use Rattle.base.specs.Lists.{Each}
use Rattle.format.specs.Layout.{Property}
use Rattle.valid.specs.Obeys.{FitsLine, Keeps, Distinct, HasRequired, Partnered, of_named}

-- the types that kp wants of kv
abbrev pub wanted : List Property → Types
wanted ps = of_named (letters "kp") (λ p. wanted_types p.content) (only float) ps

abbrev pub FitsRules : (kind : ℕ) → List Property → Type 0
FitsRules kind ps = Each (λ p. FitsLine (rule_of kind p.name) p) ps

pub record ObeysRules (kind : ℕ) (ps : List Property) (bones : ℕ) : Type 0 where
  pub distinct : Distinct ps
  pub fits : FitsRules kind ps
  pub complete : HasRequired kind ps
  pub partnered : kind ≡ mesh → Partnered ps
  pub keeps : Each (λ p. Keeps (rule_of kind p.name).held ps bones p) ps
