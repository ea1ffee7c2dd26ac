-- `listing::put_node_lines`: the lines of the earlier rows were put.
use Rattle.listing.proofs.Laws.{Passed}
use Rattle.listing.proofs.Whole.{nodes_from}
use Rattle.listing.proofs.put_node_lines.Given as goal

abbrev pub invariant-loop-index : goal.invariant-loop-index
invariant-loop-index l = Passed l.initial.out l.at (nodes_from l.table l.nodes 0) (nodes_from l.table l.nodes l.index) l.next l.out
