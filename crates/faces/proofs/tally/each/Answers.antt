-- `faces::tally::each`: the faces passed are tallied.
use Prim.Native.Nat.{◌*◌}
use native.Mathlib.Omega.{arith}
use mathlib.Core.Path.{◌≡◌, ap, ◌∙◌}
use Rattle.faces.specs.Private.{tally_of}
use Rattle.faces.specs.Faces.{faces_in}
use Rattle.faces.proofs.Blocks.{tally_none, tally_step_lem, tally_few}
use Rattle.faces.proofs.tally.each.Goals as goal

pub loop-i-init : goal.loop-i-init
loop-i-init g c = tally_none g.V.Value.WIDTH c.args.vertices c.args.bytes.now

pub with-t-requires : goal.with-t-requires
with-t-requires g c = omega (arith, tally_few g.V.Value.WIDTH c.args.vertices c.loop-i.i c.args.bytes.now c.loop-i.invariant)

pub loop-i-preserved : goal.loop-i-preserved
loop-i-preserved g c =
    let i = c.loop-i.i in
    let at = i * (3 * c.WIDTH-step.result) in
    let is : at ≡ i * (3 * g.V.Value.WIDTH) = ap (λ w. i * (3 * w)) c.WIDTH-step.ensures in
    tally_step_lem g.V.Value.WIDTH c.args.vertices c.args.bytes.now i at _ is (omega arith) c.loop-i.invariant c.face.ensures c.with-t.ensures

pub returns : goal.returns
returns g c =
    let all : c.loop-i.i ≡ c.args.n = omega arith in
    c.loop-i.invariant ∙ ap (λ m. tally_of c.args.vertices (faces_in g.V.Value.WIDTH m c.args.bytes.now)) all
