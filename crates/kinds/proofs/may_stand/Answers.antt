-- `kinds::may_stand`: by the parents of the kind.
use mathlib.Core.Path.{ap, ◌∙◌}
use Rattle.kinds.specs.Private.{stands_by}
use Rattle.kinds.proofs.Standings.{stands_is}
use Rattle.kinds.proofs.may_stand.Goals as goal

pub returns : goal.returns
returns c =
    let a = c.args in
    c.stands.ensures ∙ ap (stands_by a.parent) c.parents_of.ensures ∙ stands_is a.parent a.kind
