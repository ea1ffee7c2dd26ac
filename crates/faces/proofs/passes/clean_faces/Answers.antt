-- `faces::passes::clean_faces`: no value of the faces before is past the limit.
use Prim.Native.Nat.{◌+◌, ◌*◌, ◌/◌, ◌≤◌}
use native.Mathlib.Omega.{arith}
use mathlib.Core.Path.{◌≡◌, sym, ap, ◌∙◌}
use Rattle.faces.specs.declared.tally.Tally.{Tally}
use Rattle.faces.specs.Private.{any_outside}
use Rattle.faces.specs.Faces.{width_of, faces_in}
use Rattle.faces.proofs.Blocks.{tally_none, part_clean, parts_fit}
use Rattle.faces.proofs.passes.clean_faces.Goals as goal

pub loop-k-init : goal.loop-k-init
loop-k-init c = sym (ap (λ (t : Tally). t.outside) (tally_none (width_of c.args.code) c.args.vertices c.args.block.now))

pub slice_bounds-tally_of-end : goal.slice_bounds-tally_of-end
slice_bounds-tally_of-end c =
    let there : 64 * c.loop-k.k + 64 ≤ c.args.n = omega arith in
    omega (arith, parts_fit (64 * c.loop-k.k) 64 c.args.n c.width_of.ensures.result there c.requires.1)

pub returns-then-tally_of-clause-clean : goal.returns-then-tally_of-clause-clean
returns-then-tally_of-clause-clean c = c.loop-k.invariant

pub loop-k-preserved : goal.loop-k-preserved
loop-k-preserved c =
    let a = c.args in
    let done = 64 * c.loop-k.k in
    let next : done + 64 ≡ 64 * (c.loop-k.k + 1) = omega arith in
    let same = ap (λ w. done * (3 * w)) c.width_of.ensures.result in
    ap (λ m. any_outside a.vertices (faces_in (width_of a.code) m a.block.now)) (sym next)
    ∙ part_clean (width_of a.code) a.vertices a.block.now done 64 _ _ same (omega (arith, c.width_of.ensures.result)) c.loop-k.invariant c.tally_of.ensures c.if-tally_of.false

pub returns-clause-clean : goal.returns-clause-clean
returns-clause-clean c =
    let all : c.args.n / 64 * 64 ≡ 64 * c.loop-k.k = omega arith in
    ap (λ m. any_outside c.args.vertices (faces_in (width_of c.args.code) m c.args.block.now)) all ∙ c.loop-k.invariant
