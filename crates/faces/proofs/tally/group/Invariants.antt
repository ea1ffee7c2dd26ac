-- `faces::tally::group`: the values passed are tallied as if each were the first of a face.
use mathlib.Core.Path.{◌≡◌}
use mathlib.Core.Bool.{◌||◌}
use lib.Dec.{leb}
use Rattle.faces.proofs.Groups.{any_value, equal_firsts}
use Rattle.faces.proofs.tally.group.Given as goal

abbrev pub invariant-loop-i : goal.invariant-loop-i
invariant-loop-i g l =
    (leb l.vertices (g.V.Value.number l.greatest) ≡ (leb l.vertices 0 || any_value g.V.Value.WIDTH l.vertices l.i l.bytes))
    × (g.V.Value.number l.degenerate ≡ equal_firsts g.V.Value.WIDTH l.i l.bytes)
