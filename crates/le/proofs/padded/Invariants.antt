-- `le::padded`: the first i bytes are those of the bytes, or zeros.
use mathlib.Core.Path.{◌≡◌}
use lib.ListN.{length, get_or}
use Prim.Native.Nat.{ℕ, ◌<◌}
use Rattle.le.proofs.padded.Given as goal

abbrev pub invariant-loop-i : goal.invariant-loop-i
invariant-loop-i g l = (length l.all ≡ g.row.N) × ((k : ℕ) → k < l.i → get_or l.all k 0 ≡ get_or l.bytes k 0)
