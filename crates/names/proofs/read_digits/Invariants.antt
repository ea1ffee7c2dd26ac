-- `names::read_digits`: the value so far and the digits that are left give what all give, and the value is below 10 ^ i.
use Prim.Native.Nat.{◌<◌, ◌^◌}
use mathlib.Core.Path.{◌≡◌}
use lib.ListN.{drop}
use Rattle.names.specs.Names.{read_digits}
use Rattle.names.proofs.read_digits.Given as goal

abbrev pub invariant-loop-b : goal.invariant-loop-b
invariant-loop-b l = (l.value < 10 ^ l.b-index) × (read_digits l.value (drop l.b-index l.digits) ≡ read_digits 0 l.digits)
