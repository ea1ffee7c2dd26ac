-- `listing::nodes_size`: what was added, and what the lines of the later rows add.
use Prim.Native.Nat.{◌+◌, ◌*◌, ◌≤◌}
use mathlib.Core.Path.{◌≡◌}
use lib.ListN.{length}
use Rattle.listing.proofs.Whole.{nodes_from}
use Rattle.listing.proofs.nodes_size.Given as goal

abbrev pub invariant-loop-index : goal.invariant-loop-index
invariant-loop-index l =
    (l.sum ≤ 92 * l.index)
    × (l.sum + length (nodes_from l.table l.nodes l.index) ≡ length (nodes_from l.table l.nodes 0))
