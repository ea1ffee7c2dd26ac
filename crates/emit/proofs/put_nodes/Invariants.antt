-- `emit::put_nodes`: what is put, with the rest after it, is all nodes.
use Rattle.std.proofs.Common.{◌≡◌, ◌+◌, ◌≤◌, length}
use Rattle.std.proofs.lemmas.List.Edits.{sets}
use Rattle.table.specs.Table.{rows_at}
use Rattle.emit.specs.Emission.{nodes_bytes}
use Rattle.emit.proofs.Nodes.{nodes_from}
use Rattle.emit.proofs.put_nodes.Given as goal

abbrev pub invariant-loop-i : goal.invariant-loop-i
invariant-loop-i l =
    (l.at + length (nodes_from l.source l.plan l.rows l.i) ≤ length l.initial.out)
    × (sets l.out l.at (nodes_from l.source l.plan l.rows l.i) ≡ sets l.initial.out 16 (nodes_bytes l.source 0 (rows_at l.plan 0 l.rows)))
