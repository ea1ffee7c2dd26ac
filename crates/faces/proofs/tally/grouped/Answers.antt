-- `faces::tally::grouped`: the faces passed are tallied, and the last ones.
use Prim.Native.Nat.{ℕ, ◌+◌, ◌-◌, ◌*◌, ◌/◌, ◌≤◌}
use native.Mathlib.Omega.{arith}
use mathlib.Core.Path.{◌≡◌, refl, ap, ◌∙◌}
use lib.ListN.{length-take, length-drop}
use Rattle.faces.specs.declared.tally.Tally.{Tally}
use Rattle.faces.specs.Private.{tally_of}
use Rattle.faces.specs.Faces.{faces_in}
use Rattle.faces.proofs.Blocks.{tally_none, tally_both, tally_few, parts_fit}
use Rattle.faces.proofs.tally.grouped.Goals as goal

pub loop-i-init : goal.loop-i-init
loop-i-init g c = tally_none g.V.Value.WIDTH c.args.vertices c.args.bytes.now

pub slice_bounds-part-end : goal.slice_bounds-part-end
slice_bounds-part-end g c =
    let i = c.loop-i.i in
    let there : 16 * i + 17 ≤ c.args.n = omega arith in
    omega (arith, parts_fit (16 * i) 17 c.args.n c.WIDTH-step.ensures there c.requires.1)

pub and-t-requires : goal.and-t-requires
and-t-requires g c =
    let w = g.V.Value.WIDTH in
    let a = c.args in (
      omega (arith, tally_few w a.vertices (16 * c.loop-i.i) a.bytes.now c.loop-i.invariant),
      omega (arith, tally_few w a.vertices 16 _ c.group.ensures),
    )

pub loop-i-preserved : goal.loop-i-preserved
loop-i-preserved g c =
    let w = g.V.Value.WIDTH in
    let a = c.args in
    let i = c.loop-i.i in
    let next : 16 * i + 16 ≡ 16 * (i + 1) = omega arith in
    tally_both w a.vertices a.bytes.now (16 * i) 16 _ _ (ap (λ w. 16 * i * (3 * w)) c.WIDTH-step.ensures) (omega arith) c.loop-i.invariant c.group.ensures c.and-t.ensures
    ∙ ap (λ m. tally_of a.vertices (faces_in w m a.bytes.now)) next

pub each-requires : goal.each-requires
each-requires g c =
    let n = c.args.n in
    let w = g.V.Value.WIDTH in
    let done = 16 * (c.saturating_sub-groups.result / 16) in
    let own : n * (3 * w) ≤ n * (3 * w) = omega arith in
    let rest = parts_fit done (n - done) n {l = n * (3 * w)} refl (omega arith) own in
    rw c.WIDTH-step.ensures (omega arith, simp (length-take, length-drop) (omega (arith, rest, c.requires.1)))

pub and-requires : goal.and-requires
and-requires g c =
    let w = g.V.Value.WIDTH in
    let a = c.args in
    let done = 16 * (c.saturating_sub-groups.result / 16) in (
      omega (arith, tally_few w a.vertices (16 * c.loop-i.i) a.bytes.now c.loop-i.invariant),
      omega (arith, tally_few w a.vertices (a.n - done) _ c.each.ensures),
    )

pub returns : goal.returns
returns g c =
    let w = g.V.Value.WIDTH in
    let a = c.args in
    let done = 16 * (c.saturating_sub-groups.result / 16) in
    let passed : 16 * c.loop-i.i ≡ done = omega arith in
    let all : done + (a.n - done) ≡ a.n = omega arith in
    let tally : ℕ → Tally = λ m. tally_of a.vertices (faces_in w m a.bytes.now) in
    let own : a.n * (3 * w) ≤ a.n * (3 * w) = omega arith in
    let rest = parts_fit done (a.n - done) a.n {l = a.n * (3 * w)} refl (omega arith) own in
    let same = ap (λ w. done * (3 * w)) c.WIDTH-step.ensures in
    let end = ap (λ w. a.n * (3 * w)) c.WIDTH-step.ensures in
    tally_both w a.vertices a.bytes.now done (a.n - done) _ _ same (omega (arith, rest, same, end)) (c.loop-i.invariant ∙ ap tally passed) c.each.ensures c.and.ensures
    ∙ ap tally all
