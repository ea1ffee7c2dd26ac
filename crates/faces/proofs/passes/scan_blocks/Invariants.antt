-- `faces::passes::scan_blocks`: the faces passed have no value that is past the limit.
use Prim.Native.Nat.{◌≤◌}
use mathlib.Core.Path.{◌≡◌}
use mathlib.Core.Bool.{false}
use Rattle.faces.specs.Private.{tally_of}
use Rattle.faces.specs.Faces.{width_of, faces_in}
use Rattle.faces.proofs.passes.scan_blocks.Given as goal

abbrev pub invariant-loop-done : goal.invariant-loop-done
invariant-loop-done l =
    (l.done ≤ l.count)
    × (record { outside = false; degenerate = l.degenerate } ≡ tally_of l.vertices (faces_in (width_of l.code) l.done l.bytes))
