-- `vectors::buffers::numbers`: the numbers that are read, and those that are left to read, are the whole.
use mathlib.Core.Path.{ap, sym, ◌∙◌}
use mathlib.Core.List.{◌∷◌, ◌++◌}
use native.Mathlib.Omega.{arith}
use lib.ListN.{length, take}
use Prim.Native.Nat.{◌+◌, ◌-◌, ◌≤◌, ◌<◌}
use Rattle.vectors.specs.Buffers.{numbers_read}
use Rattle.vectors.proofs.Lent.{stored_more, stored_all, numbers_more, numbers_none}
use Rattle.vectors.proofs.buffers.numbers.Goals as goal

pub loop-i-preserved : goal.loop-i-preserved
loop-i-preserved c =
    let l = c.loop-i in
    let s = c.args.bytes.now in
    let n = length c.args.out.now in
    let h : l.i < length l.out = omega arith in
    let k : l.i < n = omega arith in
    let rest = numbers_read s (l.i + 1) (n - (l.i + 1)) in
    stored_more l.out l.i c.read.result rest h (ap (λ x. take l.i l.out ++ (x ∷ rest)) c.read.ensures ∙ ap (λ r. take l.i l.out ++ r) (sym (numbers_more n l.i s k)) ∙ l.invariant)

pub returns : goal.returns
returns c =
    let l = c.loop-i in
    let s = c.args.bytes.now in
    let n = length c.args.out.now in
    let h : length l.out ≤ l.i = omega arith in
    let k : n ≤ l.i = omega arith in
    stored_all l.out l.i h (ap (λ r. take l.i l.out ++ r) (sym (numbers_none n l.i s k)) ∙ l.invariant)
