-- `judge::valued::faces_at`: a length that three does not divide, or what the scan gives.
use Rattle.std.proofs.Common.{◌≡◌, rules, arith, ap, ◌∙◌, refl}
use Rattle.judge.specs.Valued.{faces_at, face_fault}
use Rattle.judge.specs.Private.{kept_by, kept_told}
use Rattle.judge.proofs.Faults.{faces_cut, faces_kept, told_kept, few_told}
use Rattle.judge.proofs.valued.faces_at.Goals as goal
use Rattle.judge.proofs.valued.faces_at.Goals.{After-map_err}

pub returns-then-elements-ne0-clause-kept : goal.returns-then-elements-ne0-clause-kept
returns-then-elements-ne0-clause-kept c =
    let a = c.args in
    faces_cut a.body.now a.at a.vertices (ap (λ h. h.length) c.header_at-header.ensures) c.if-elements-ne0.true

kept : (c : After-map_err) → let a = c.args in kept_told c.map_err.result ≡ kept_by (face_fault a.body.now a.at a.vertices) (faces_at a.body.now a.at)
kept c =
    let e = c.header_at-header.ensures in
    let a = c.args in
    told_kept c.scan.result (λ x w. search rules) (λ k w. search rules)
    ∙ faces_kept a.body.now a.at a.vertices (ap (λ h. h.length) e) c.if-elements-ne0.false
    (ap (λ h. h.code) e) c.rest_at.ensures c.scan.ensures.result refl

pub returns-clause-kept : goal.returns-clause-kept
returns-clause-kept c = kept (goal.at.returns-clause-kept c).After-map_err

pub returns-clause-few : goal.returns-clause-few
returns-clause-few c =
    let a = c.args in
    few_told a.body.now a.at (λ i. omega (arith, c.type_inv.body i)) (face_fault a.body.now a.at a.vertices) c.map_err.result
    (kept (goal.at.returns-clause-few c).After-map_err)
