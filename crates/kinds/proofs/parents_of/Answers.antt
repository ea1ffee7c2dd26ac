-- `kinds::parents_of`: the parents of the kind that has the number; of none, unknown.
use Rattle.kinds.proofs.Standings.{parents_mapped}
use Rattle.kinds.proofs.parents_of.Goals as goal

pub returns : goal.returns
returns c = parents_mapped c.of.result c.map.result c.args.number c.of.ensures.known c.of.ensures.number c.map.ensures.cases
