-- `trimmer::Removal::move_up`: with the rest of the rows, what was put so far is what all of them give.
use Prim.Native.Nat.{◌≤◌}
use Rattle.trimmer.proofs.Loops.{Moving}
use Rattle.trimmer.proofs.Removal.move_up.Given as goal

abbrev pub invariant-loop-i : goal.invariant-loop-i
invariant-loop-i l = (l.to ≤ l.i) × Moving l.initial.table l.self.nodes l.self.row l.self.above l.table l.to l.i
