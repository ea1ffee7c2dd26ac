-- `emit::measure`: the numbers tell the sizes so far, and the length is that of the rows passed.
use Rattle.std.proofs.Common.{◌≡◌, ◌+◌, ◌-◌, ◌≤◌}
use Rattle.emit.specs.Emission.{roots}
use Rattle.table.proofs.Rests.{rest}
use Rattle.emit.proofs.Sizes.{owns}
use Rattle.emit.proofs.Measuring.{Measuring}
use Rattle.emit.proofs.measure.Given as goal

abbrev pub invariant-loop-i : goal.invariant-loop-i
invariant-loop-i l =
    Measuring l.sizes l.source l.plan l.rows l.i
    × (l.length ≡ 16 + owns l.source (rest l.plan l.rows l.i)) × (l.length ≤ 16777216)
    × (l.roots ≡ roots (rest l.plan l.rows l.i)) × (l.roots ≤ l.rows - l.i)
