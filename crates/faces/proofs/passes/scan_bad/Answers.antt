-- `faces::passes::scan_bad`: what the faces after the clean ones say is what all say.
use Prim.Native.Nat.{◌+◌, ◌-◌, ◌*◌}
use native.Mathlib.Omega.{arith}
use mathlib.Core.Path.{◌≡◌, ap, ◌∙◌}
use lib.ListN.{drop}
use Rattle.le.proofs.Laws.{rest_drop}
use Rattle.faces.specs.Faces.{width_of, faces_in}
use Rattle.faces.specs.Private.{scan_from}
use Rattle.faces.proofs.Blocks.{others_outside, some_stop}
use Rattle.faces.proofs.passes.scan_bad.Goals as goal

pub returns : goal.returns
returns c =
    let a = c.args in
    let w = width_of a.code in
    let bs = a.block.now in
    let clean = c.clean_faces-clean.result in
    let told = c.clean_faces-clean.ensures in
    let at : clean * (3 * c.width_of.result) ≡ clean * (3 * w) = ap (λ w. clean * (3 * w)) c.width_of.ensures.result in
    c.scan_each.ensures
    ∙ ap (λ l. scan_from a.vertices (a.start + 3 * clean) (faces_in w (a.n - clean) l)) (rest_drop bs (clean * (3 * c.width_of.result)) ∙ ap (λ k. drop k bs) at)
    ∙ some_stop w a.vertices bs clean (a.n - clean) a.n a.start (omega (arith, told.within)) told.clean (others_outside w a.vertices bs clean a.n told.within told.clean c.requires.bad)
