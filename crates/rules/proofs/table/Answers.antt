-- `rules::table`: the constant, read as lines, is the definition's.
use mathlib.Core.Path.{refl}
use Rattle.base.specs.Letters.{letters}
use Rattle.rules.specs.Table.{lines}
use Rattle.rules.proofs.table.Goals as goal

pub returns : goal.returns
unfolding lines letters
returns c = refl
