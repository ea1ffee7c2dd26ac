-- `reader::rules_of`: what was counted, on top of what the rest gives, is what all rows give.
use Prim.Native.Nat.{◌+◌, ◌-◌, ◌*◌, ◌^◌, ◌≤◌}
use mathlib.Core.Path.{◌≡◌}
use lib.ListN.{length}
use Rattle.table.specs.Table.{rows_at}
use Rattle.reader.specs.Reading.{ruled, own_unknown}
use Rattle.links.specs.Links.{linked_told}
use Rattle.links.specs.Private.{rows_linked}
use Rattle.reader.specs.Private.{continued, target_count}
use Rattle.table.proofs.Rests.{rest}
use Rattle.reader.proofs.Loops.{on_top}
use Rattle.reader.proofs.rules_of.Given as goal

abbrev pub invariant-loop-from : goal.invariant-loop-from
invariant-loop-from l =
    (l.from ≤ l.walked.nodes) × (l.faces ≤ l.from * 274877906944) × (l.degenerate ≤ l.from * 274877906944) × (l.links ≤ l.from * 64)
    × (on_top l.faces l.degenerate l.links (ruled l.walked.file.now (rows_at l.walked.table.now 0 l.walked.nodes) (rest l.walked.table.now l.walked.nodes l.from))
    ≡ ruled l.walked.file.now (rows_at l.walked.table.now 0 l.walked.nodes) (rows_at l.walked.table.now 0 l.walked.nodes))
    × ((linked_told l.linked).links ≤ l.from * 64)
    × (continued (target_count l.targets) l.walked.file.now (linked_told l.linked) (rest l.walked.table.now l.walked.nodes l.from)
    ≡ rows_linked (target_count l.targets) l.walked.file.now 0 (rows_at l.walked.table.now 0 l.walked.nodes))
    × (length l.starts ≡ 64) × (length l.numbers ≡ 64)
    × (l.unknown ≤ l.from * 2 ^ 33)
    × (l.unknown + own_unknown (rest l.walked.table.now l.walked.nodes l.from) ≡ own_unknown (rows_at l.walked.table.now 0 l.walked.nodes))

abbrev pub decreases-loop-from : goal.decreases-loop-from
decreases-loop-from l = l.walked.nodes - l.from
