-- `faces::tally::each`: the faces passed are tallied.
use mathlib.Core.Path.{◌≡◌}
use Rattle.faces.specs.Private.{tally_of}
use Rattle.faces.specs.Faces.{faces_in}
use Rattle.faces.proofs.tally.each.Given as goal

abbrev pub invariant-loop-i : goal.invariant-loop-i
invariant-loop-i g l = l.t ≡ tally_of l.vertices (faces_in g.V.Value.WIDTH l.i l.bytes)
