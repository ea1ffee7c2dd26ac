-- `vectors::buffers::fill`: what is filled, and what is left to fill, are the whole.
use mathlib.Core.Path.{◌≡◌}
use mathlib.Core.List.{◌++◌}
use lib.ListN.{length, take}
use Prim.Native.Nat.{◌-◌, ◌<◌}
use Rattle.vectors.specs.Buffers.{rising, filling}
use Rattle.vectors.proofs.buffers.fill.Given as goal

abbrev pub invariant-loop-b : goal.invariant-loop-b
invariant-loop-b l =
    (l.v < 256)
    × (take l.b-index l.out ++ rising (length l.initial.out - l.b-index) l.v ≡ filling l.seed (length l.initial.out))
