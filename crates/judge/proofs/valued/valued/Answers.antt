-- `judge::valued::valued`: what was counted and what the properties from i on say is what all say.
use Rattle.std.proofs.Common.{◌≡◌, ℕ, ◌<◌, true, false, length, get_or, sym, ap, ◌∙◌, refl, rules, arith}
use Rattle.std.specs.Prelude.{Ok, Err, is_ok}
use Rattle.rules.specs.Packing.{line_of, lines_from}
use Rattle.judge.specs.Properties.{rule_at}
use Rattle.judge.specs.ByLine.{beside_by_line}
use Rattle.judge.specs.Judge.{Judged, judged_told}
use Rattle.judge.specs.Private.{beside_from, kept_told, valued_to}
use Rattle.judge.proofs.Values.{line_found, on_top, on_none, ended, faces_counted, faces_wrong, link_counted, other_counted, other_wrong, told_right, told_wrong, kept_wrong}
use Rattle.judge.proofs.valued.valued.Goals as goal
use Rattle.judge.proofs.valued.valued.Goals.{After-at-broken, in-Faces+in_ok-counted-in-Faces, in-Link, in_default+in_ok-map_err-in_default}

pub loop-i-init : goal.loop-i-init
loop-i-init c =
    let a = c.args in
    record {
      faces_most = omega arith;
      degenerate_most = omega arith;
      links_most = omega arith;
      says = ap (λ b. on_top 0 0 0 (lines_from a.lines.now) a.properties.now.body.now b a.properties.now.starts.now) c.measures_of-m.ensures
          ∙ on_none (lines_from a.lines.now) a.properties.now.body.now (beside_by_line a.kind a.properties.now.body.now a.properties.now.starts.now a.properties.now.numbers.now a.bones) a.properties.now.starts.now;
    }

-- the property that was read, and its line
module _ (c : After-at-broken) where
  abbrev at : ℕ
  at = get_or c.args.properties.now.starts.now c.loop-i.i 0

  abbrev all : Judged
  all = let a = c.args in valued_to (lines_from a.lines.now) a.properties.now.body.now (beside_by_line a.kind a.properties.now.body.now a.properties.now.starts.now a.properties.now.numbers.now a.bones) a.properties.now.starts.now

  inside : c.loop-i.i < length c.args.properties.now.starts.now
  inside = c.loop-i-test.true

  line : line_of c.line_in-line.result ≡ rule_at (lines_from c.args.lines.now) c.args.properties.now.body.now at
  line =
      let a = c.args in
      line_found (lines_from a.lines.now) a.properties.now.body.now a.properties.now.starts.now c.requires.numbers c.loop-i.i inside c.line_in-line.ensures.line

pub returns-in_err-counted-in-Faces-clause-result : goal.returns-in_err-counted-in-Faces-clause-result
returns-in_err-counted-in-Faces-clause-result c =
    let l = (goal.at.returns-in_err-counted-in-Faces-clause-result c).After-at-broken in
    let told : c.from_residual.result ≡ Err c.at-broken.result = search rules in
    let broken : is_ok c.faces_at.result ≡ false = sym c.map_err.ensures.variant ∙ ap is_ok c.in_err-counted-in-Faces.was in
    ap judged_told (told ∙ ap Err c.at-broken.ensures)
    ∙ faces_wrong c.loop-i.invariant (inside l) c.line_in-line.result (line l) c.in-Faces.is c.faces_at.ensures.kept (kept_wrong c.faces_at.result broken)

pub overflow_add-faces : goal.overflow_add-faces
overflow_add-faces c =
    let told : c.faces_at.result ≡ Ok c.in_ok-counted-in-Faces.counted = search rules in
    let few = rw told at c.faces_at.ensures.few in
    omega (arith, few)

pub overflow_add-degenerate : goal.overflow_add-degenerate
overflow_add-degenerate c =
    let told : c.faces_at.result ≡ Ok c.in_ok-counted-in-Faces.counted = search rules in
    let few = rw told at c.faces_at.ensures.few in
    omega (arith, few)

pub returns-in_err-map_err-in_default-clause-result : goal.returns-in_err-map_err-in_default-clause-result
returns-in_err-map_err-in_default-clause-result c =
    let l = (goal.at.returns-in_err-map_err-in_default-clause-result c).After-at-broken in
    let told : c.from_residual-in_err-map_err-in_default.result ≡ Err c.at-broken.result = search rules in
    let broken : is_ok c.check.result ≡ false = sym c.map_err-in_default.ensures.variant ∙ ap is_ok c.in_err-map_err-in_default.was in
    ap judged_told (told ∙ ap Err c.at-broken.ensures)
    ∙ other_wrong c.loop-i.invariant (inside l) c.line_in-line.result (line l) c.in_default.not-Faces c.check.ensures (told_wrong c.check.result broken)

pub loop-i-preserved : goal.loop-i-preserved
loop-i-preserved c =
    let l = (goal.at.loop-i-preserved c).After-at-broken in
    let inv = c.loop-i.invariant in
    let e = c.line_in-line.result in
    elim c.match-line.branch [
      | in-Faces+in_ok-counted-in-Faces w ↦ rw (w.faces-is, w.degenerate-is, w.links-is)
          (let told : w.faces_at.result ≡ Ok w.in_ok-counted-in-Faces.counted = search rules in
          faces_counted inv (inside l) e (line l) w.in-Faces.is {k = kept_told (Ok w.in_ok-counted-in-Faces.counted)} (sym (ap kept_told told) ∙ w.faces_at.ensures.kept) refl (rw told at w.faces_at.ensures.few))
      | in-Link w ↦ rw (w.faces-is, w.degenerate-is, w.links-is)
          (link_counted inv (inside l) e (line l) w.in-Link.is)
      | in_default+in_ok-map_err-in_default w ↦ rw (w.faces-is, w.degenerate-is, w.links-is)
          (let right : is_ok w.check.result ≡ true = sym w.map_err-in_default.ensures.variant ∙ ap is_ok w.in_ok-map_err-in_default.was in
          other_counted inv (inside l) e (line l) w.in_default.not-Faces w.in_default.not-Link w.check.ensures (told_right w.check.result right))
    ]

pub returns-clause-result : goal.returns-clause-result
returns-clause-result c =
    let a = c.args in
    let p = c.loop-i in
    let b = beside_from c.measures_of-m.result in
    sym (ended (lines_from a.lines.now) a.properties.now.body.now b p.faces p.degenerate p.links a.properties.now.starts.now p.i c.loop-i-test.false) ∙ p.invariant.says
