-- `kinds::standing_of`: may stand or not, known or not.
use mathlib.Core.Path.{refl}
use Rattle.kinds.proofs.Standings.{standing}
use Rattle.kinds.proofs.standing_of.Goals as goal

pub returns-then-not-stands : goal.returns-then-not-stands
returns-then-not-stands c = standing c.args.parent c.args.kind c.parents_of-parents.result c.parents_of-parents.ensures c.if-not-stands.ensures refl

pub returns-then-is_some : goal.returns-then-is_some
returns-then-is_some c = standing c.args.parent c.args.kind c.parents_of-parents.result c.parents_of-parents.ensures c.if-not-stands.ensures c.if-is_some.ensures

pub returns-else-is_some : goal.returns-else-is_some
returns-else-is_some c = standing c.args.parent c.args.kind c.parents_of-parents.result c.parents_of-parents.ensures c.if-not-stands.ensures c.if-is_some.ensures
