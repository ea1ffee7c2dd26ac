-- `vectors::buffers::numbers`: the numbers that are read, and those that are left to read, are the whole.
use mathlib.Core.Path.{◌≡◌}
use mathlib.Core.List.{◌++◌}
use lib.ListN.{length, take}
use Prim.Native.Nat.{◌-◌}
use Rattle.vectors.specs.Buffers.{numbers_in, numbers_read}
use Rattle.vectors.proofs.buffers.numbers.Given as goal

abbrev pub invariant-loop-i : goal.invariant-loop-i
invariant-loop-i l =
    take l.i l.out ++ numbers_read l.bytes l.i (length l.initial.out - l.i) ≡ numbers_in l.bytes (length l.initial.out)
