-- A node's verdict is no refusal exactly where its properties obey the rules.
use Prim.Native.Nat.{ℕ, zero, suc}
use native.Mathlib.Omega.{arith}
use mathlib.Core.Path.{◌≡◌, refl, sym, ◌∙◌}
use mathlib.Core.Logic.{◌↔◌}
use mathlib.Core.Bool.{cond, false≢true}
use mathlib.Core.List.{List, []}
use lib.ListN.{length}
use Rattle.body.specs.Body.{first_named, properties}
use Rattle.faces.specs.declared.Face.{Face}
use Rattle.faces.specs.Faces.{degenerate}
use Rattle.rules.specs.Rules.{lines_of}
use Rattle.base.specs.Refusals.{Refusal}
use Rattle.judge.specs.Properties.{has, beside_of}
use Rattle.judge.specs.Typed.{typed}
use Rattle.judge.specs.Missing.{lacks}
use Rattle.judge.specs.Valued.{valued, node_faces, node_links}
use Rattle.base.specs.Refusals.{refusal, refused_or}
use Rattle.judge.specs.Judge.{verdict_at, refused_node, accepted_node, judged_by, judged_at, judged}
use Rattle.format.specs.Layout.{Property, GoodBody}
use Rattle.valid.specs.Obeys.{Obeys}
use Rattle.valid.proofs.Ruled.{ObeysRules}
use Rattle.valid.proofs.Agree.{ends, obeys_agree}
use Rattle.valid.proofs.Says.{Says}
use Rattle.valid.proofs.Described.{Described, described, each_good}
use Rattle.base.proofs.Lists.{each_map}
use Rattle.valid.proofs.Types.{refused, typed_right}
use Rattle.valid.proofs.Missing.{lacks_none}
use Rattle.valid.proofs.Beside.{beheld}
use Rattle.valid.proofs.Held.{valued_right}

both : (n : ℕ) (v w : Refusal) → v.number ≡ n → ((refused_or n v w).number ≡ 0) ↔ (n ≡ 0) × (w.number ≡ 0)
both zero v w h = (λ e. (refl, e), λ p. p.1)
both (suc n) v w h = (λ e. absurd (omega (arith, h, e)), λ p. absurd (omega (arith, p.0)))

-- a judgement has the number of its verdict
pub same_number_lem : (v : Refusal) (fs : List Face) (links : ℕ) → (judged_by v fs links).number ≡ v.number
same_number_lem v fs links = by v.number
  where
    by : (n : ℕ) → (refused_or n (refused_node n v.place) (accepted_node (length fs) (degenerate fs) links)).number ≡ n
    by zero = refl
    by (suc n) = refl

pub none_before : (s name : List ℕ) → Says (has s [] name) ⊥
unfolding first_named
none_before s name = (λ e. false≢true e, λ h. absurd h)

module _ (kind : ℕ) (s : List ℕ) (bones : ℕ) where
  verdict_right : {starts : List ℕ} {ps : List Property} → Described s starts ps → ((verdict_at kind (lines_of kind) s starts bones).number ≡ 0) ↔ ObeysRules kind ps bones
  unfolding verdict_at
  verdict_right {starts} {ps} d =
      let types = typed_right kind s (λ name. ⊥) [] (none_before s) d in
      let missing = lacks_none kind s d in
      let values = valued (lines_of kind) s (beside_of kind s starts bones) starts in
      let first = typed (lines_of kind) s [] starts in
      let second = cond (lacks kind (lines_of kind) s starts) (refusal 14 0) values in
      let ordered = both first.number first second refl in
      let after = refused (lacks kind (lines_of kind) s starts) 14 0 values (λ e. omega arith) in (
        λ e.
            let typing = types.0 (ordered.0 e).0 in
            let rest = after.0 (ordered.0 e).1 in
            let present = missing.0 rest.0 in
            let held = valued_right kind s ps bones (beside_of kind s starts bones) (beheld kind s d typing.2 bones) typing.1 (ends kind ps (each_good d) typing.2) d typing.2 in
            record { distinct = typing.1; fits = typing.2; complete = present.0; partnered = present.1; keeps = held.0 rest.1 },
        λ o.
            let held = valued_right kind s ps bones (beside_of kind s starts bones) (beheld kind s d o.fits bones) o.distinct (ends kind ps (each_good d) o.fits) d o.fits in
            ordered.1 (
              types.1 (each_map (λ p f h. h) ps o.fits, o.distinct, o.fits),
              after.1 (missing.1 (o.complete, o.partnered), held.1 o.keeps),
            ),
      )

  judged_right : (n : ℕ) (good : GoodBody n s) → ((judged kind n s bones).number ≡ 0) ↔ ObeysRules kind good.properties bones
  unfolding judged judged_at
  judged_right n good =
      let starts = (properties s n).starts in
      let verdict = verdict_at kind (lines_of kind) s starts bones in
      let same = same_number_lem verdict (node_faces (lines_of kind) s starts) (node_links (lines_of kind) s starts) in
      let right = verdict_right (described n s good) in
      (λ e. right.0 (sym same ∙ e), λ o. same ∙ right.1 o)

-- for callers: what is not refused obeys the rules, and what obeys them is not refused
module _ (kind n : ℕ) (s : List ℕ) (bones : ℕ) (good : GoodBody n s) where
  abbrev agree : ObeysRules kind good.properties bones ↔ Obeys kind good.properties bones
  agree = obeys_agree kind good.properties bones

  pub obeyed : (judged kind n s bones).number ≡ 0 → Obeys kind good.properties bones
  obeyed e = agree.0 ((judged_right kind s bones n good).0 e)

  pub accepted : Obeys kind good.properties bones → (judged kind n s bones).number ≡ 0
  accepted o = (judged_right kind s bones n good).1 (agree.1 o)
