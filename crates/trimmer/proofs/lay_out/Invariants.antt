-- `trimmer::lay_out`: with the rest of the rows, what was put so far is what all of them give.
use Prim.Native.Nat.{◌≤◌}
use Rattle.trimmer.proofs.Loops.{Laying, places_left}
use Rattle.trimmer.proofs.lay_out.Given as goal

abbrev pub invariant-loop-i : goal.invariant-loop-i
invariant-loop-i l = (places_left l.table l.rows l.at l.i ≤ 16777216) × Laying l.initial.table l.rows l.table l.at l.i
