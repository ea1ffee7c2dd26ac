-- `names::same`: another length, or the blocks and the rest.
use Prim.Native.Nat.{◌/◌}
use native.Mathlib.Omega.{arith}
use mathlib.Core.Path.{sym}
use lib.ListN.{length}
use Rattle.names.proofs.Laws.{same_length_lem, same_blocks}
use Rattle.names.proofs.same.Goals as goal

pub returns-then-a-b : goal.returns-then-a-b
returns-then-a-b c = sym (same_length_lem c.args.a.now c.args.b.now (λ e. omega arith))

pub returns-then-same_each : goal.returns-then-same_each
returns-then-same_each c =
    let all = same_blocks 8 (length c.args.a.now / 8) c.args.a.now c.args.b.now in
    grind arith

pub returns-else-same_each : goal.returns-else-same_each
returns-else-same_each c =
    let all = same_blocks 8 (length c.args.a.now / 8) c.args.a.now c.args.b.now in
    grind arith
