-- The measures of `walk::walk_children` and `walk::walk_node`, a cycle of calls: twice the bytes from their place on, and one more for a list
-- of nodes; and how far a loop over a list of nodes has come.
use Rattle.std.proofs.Common.{length, ◌+◌, ◌-◌, ◌*◌}
use Rattle.walk.proofs.Steps.{Going}
use Rattle.walk.proofs.+walk_children_walk_node.Given as goal

abbrev pub decreases-walk_children : goal.decreases-walk_children
decreases-walk_children l = 2 * (length l.bytes.now - l.start) + 1

abbrev pub decreases-walk_node : goal.decreases-walk_node
decreases-walk_node l = 2 * (length l.bytes.now - l.at)

abbrev pub invariant-walk_children-loop : goal.invariant-walk_children-loop
invariant-walk_children-loop l =
    Going l.around.kind l.around.row l.around.depth l.count l.start l.row l.bytes l.fn.table l.table l.at l.rows (l.count - l.counter)
