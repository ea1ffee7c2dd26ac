-- `vectors::buffers::fill`: what is filled, and what is left to fill, are the whole.
use mathlib.Core.Path.{ap, sym, ◌∙◌}
use mathlib.Core.List.{◌++◌}
use native.Mathlib.Omega.{arith}
use lib.ListN.{length, take}
use Prim.Native.Nat.{◌+◌, ◌-◌, ◌%◌, ◌≤◌, ◌<◌}
use Rattle.vectors.specs.Buffers.{rising}
use Rattle.vectors.proofs.Lent.{stored_more, stored_all, rising_more, rising_none}
use Rattle.vectors.proofs.buffers.fill.Goals as goal

pub loop-b-preserved : goal.loop-b-preserved
loop-b-preserved c =
    let l = c.loop-b in
    let i = l.b-index in
    let n = length c.args.out.now in
    let h : i < length l.out = omega arith in
    let k : i < n = omega arith in
    let rest = rising (n - (i + 1)) ((l.v + 37) % 256) in
    (omega arith, stored_more l.out i l.v rest h (ap (λ r. take i l.out ++ r) (sym (rising_more n i l.v k)) ∙ l.invariant.1))

pub returns : goal.returns
returns c =
    let l = c.loop-b in
    let i = l.b-index in
    let n = length c.args.out.now in
    let h : length l.out ≤ i = omega arith in
    let k : n ≤ i = omega arith in
    stored_all l.out i h (ap (λ r. take i l.out ++ r) (sym (rising_none n i l.v k)) ∙ l.invariant.1)
