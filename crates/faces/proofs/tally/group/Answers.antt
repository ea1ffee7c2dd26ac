-- `faces::tally::group`: the values passed are tallied as if each were the first of a face.
use Prim.Native.Nat.{◌*◌}
use native.Mathlib.Omega.{arith}
use mathlib.Core.Path.{◌≡◌, refl, ap, ◌∙◌}
use Rattle.faces.proofs.Groups.{values_none, firsts_none, values_step, firsts_step, firsts_most, group_ended}
use Rattle.faces.proofs.tally.group.Goals as goal

pub loop-i-init : goal.loop-i-init
loop-i-init g c =
    let a = c.args in
    let w = g.V.Value.WIDTH in
    (rw c.zero-greatest.ensures (values_none w a.vertices a.bytes.now), c.zero-degenerate.ensures ∙ firsts_none w a.vertices a.bytes.now)

pub plus-degenerate-requires : goal.plus-degenerate-requires
plus-degenerate-requires g c = omega (arith, c.loop-i.invariant.1, firsts_most g.V.Value.WIDTH c.loop-i.i c.args.bytes.now)

pub loop-i-preserved : goal.loop-i-preserved
loop-i-preserved g c =
    let a = c.args in
    let w = g.V.Value.WIDTH in
    let i = c.loop-i.i in
    let at = i * c.WIDTH.result in
    let is : at ≡ i * w = ap (λ w. i * w) c.WIDTH.ensures in (
      values_step w a.vertices a.bytes.now i at (g.V.Value.number c.loop-i.greatest) is c.loop-i.invariant.0 c.read.ensures c.greater-greatest.ensures,
      firsts_step w a.vertices a.bytes.now i at is c.loop-i.invariant.1 c.face-f.ensures (rw (← c.is_degenerate.ensures) c.plus-degenerate.ensures),
    )

pub returns : goal.returns
returns g c =
    let a = c.args in
    let read = c.loop-i.invariant in
    rw (c.wide.ensures, c.wide-2.ensures) (group_ended g.V.Value.WIDTH a.vertices a.bytes.now c.loop-i.i 15 (g.V.Value.number c.loop-i.greatest) (omega arith) read.0 read.1 refl)
