-- `faces::passes::scan_each`: the faces passed have no value that is past the limit.
use mathlib.Core.Path.{◌≡◌}
use mathlib.Core.Bool.{false}
use Rattle.faces.specs.Private.{tally_of}
use Rattle.faces.specs.Faces.{width_of, faces_in}
use Rattle.faces.proofs.passes.scan_each.Given as goal

abbrev pub invariant-loop-i : goal.invariant-loop-i
invariant-loop-i l = record { outside = false; degenerate = l.degenerate } ≡ tally_of l.vertices (faces_in (width_of l.code) l.i l.bytes)
