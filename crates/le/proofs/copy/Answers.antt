-- `le::copy`: one more byte.
use Prim.Native.Nat.{◌+◌}
use native.Mathlib.Omega.{arith}
use native.Mathlib.Nat.{zero-add}
use mathlib.Core.Path.{ap, sym, ◌∙◌}
use lib.ListN.{length, take, get_or, set}
use lib.Seq.{length-sets}
use Rattle.base.proofs.Stores.{copy_next}
use Rattle.le.proofs.copy.Goals as goal

pub loop-i-preserved : goal.loop-i-preserved
loop-i-preserved c =
    let a = c.args in
    let i = c.loop-i.i in
    let next = ap (λ k. set c.loop-i.out k (get_or a.bytes.now i 0)) (sym (zero-add i)) ∙ copy_next a.out.now 0 a.bytes.now i 0 (omega arith) c.loop-i.invariant.1 in
    (ap length next ∙ length-sets a.out.now 0 (take (i + 1) a.bytes.now), next)
