-- `table::count_under`: what was counted for a row, with the rest's count, is that of all rows.
use Rattle.table.proofs.Counts.{Counting}
use Rattle.table.proofs.count_under.Given as goal

abbrev pub invariant-loop-i : goal.invariant-loop-i
invariant-loop-i l = Counting l.which l.numbers l.n l.counts l.i
