-- `plan::right_parent`: a Root's parent by its number, another's by the path.
use mathlib.Core.Path.{◌∙◌}
use Rattle.plan.proofs.Judging.{parent_root, parent_other}
use Rattle.plan.proofs.right_parent.Goals as goal

pub returns-then-row-eq-ROOT : goal.returns-then-row-eq-ROOT
returns-then-row-eq-ROOT c = parent_root _ _ c.if-row-eq-ROOT.true

pub returns : goal.returns
returns c = c.is_above.ensures ∙ parent_other _ _ c.if-row-eq-ROOT.false
