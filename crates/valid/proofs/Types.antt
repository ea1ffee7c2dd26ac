-- 13 is given to no property exactly where no name stands twice and each property fits its line.
use Prim.Native.Nat.{ℕ, ◌+◌}
use native.Mathlib.Omega.{arith}
use mathlib.Core.Path.{◌≡◌, refl, sym}
use mathlib.Core.Logic.{◌↔◌, ◌⊎◌, inl, inr, ⊎_elim}
use mathlib.Core.Bool.{Bool, true, false, cond, not, true≢false}
use mathlib.Core.List.{List, [], ◌∷◌, ◌++◌}
use lib.Dec.{eqb}
use Rattle.names.specs.Names.{same}
use Rattle.rules.specs.Table.{Line}
use Rattle.rules.proofs.Laws.{rule_of}
use Rattle.rules.specs.Rules.{takes, misfits, lines_of}
use Rattle.judge.specs.Properties.{has}
use Rattle.base.specs.Refusals.{Refusal}
use Rattle.judge.specs.Typed.{is_mistyped, typed}
use Rattle.base.specs.Refusals.{refusal}
use Rattle.base.specs.Lists.{Each}
use Rattle.format.specs.Layout.{Property}
use Rattle.valid.specs.Obeys.{Has, Distinct, FitsLine}
use Rattle.valid.proofs.Ruled.{FitsRules}
use Rattle.valid.proofs.Values.{says_takes}
use Rattle.valid.proofs.Says.{Says, says_eqb, says_same, says_or, says_not, Fails, fails, fails_not, fails_and, fails_or}
use Rattle.valid.proofs.Described.{At, Described, none, one}
use Rattle.judge.proofs.Presence.{has_snoc}

pub refused : (b : Bool) (n at : ℕ) (v : Refusal) → (n ≡ 0 → ⊥) → ((cond b (refusal n at) v).number ≡ 0) ↔ (b ≡ false) × (v.number ≡ 0)
refused true n at v h = (λ e. absurd (h e), λ p. absurd (true≢false p.0))
refused false n at v h = (λ e. (refl, e), λ p. p.1)

-- ---- a property fits its line
fits : (l : Line) (p : Property) → Fails (misfits l p.code p.elements) (FitsLine l p)
fits l p =
    let one = fails_not (eqb p.elements 1) (says_eqb p.elements 1) in
    fails_or (not (takes l.types p.code)) _ (fails_not (takes l.types p.code) (says_takes l.types p.code))
    (fails_and (not l.array) _ (says_not l.array) one)

-- ---- no name stands twice
-- a name is not among those of some properties, nor has one of them a name that was before
module _ (H : List ℕ → Type 0) (name : List ℕ) where
  apart : (ps : List Property) → Each (λ p. H p.name ⊎ (name ≡ p.name) → ⊥) ps → Each (λ p. H p.name → ⊥) ps × (Has name ps → ⊥)
  apart [] h = (tt, λ x. x)
  apart (p ∷ ps) h =
      let ih = apart ps h.1 in
      ((λ x. h.0 (inl x), ih.0), ⊎_elim (λ e. h.0 (inr (sym e))) ih.1)

  together : (ps : List Property) → Each (λ p. H p.name → ⊥) ps → (Has name ps → ⊥) → Each (λ p. H p.name ⊎ (name ≡ p.name) → ⊥) ps
  together [] h n = tt
  together (p ∷ ps) h n = (⊎_elim h.0 (λ e. n (inl (sym e))), together ps h.1 (λ x. n (inr x)))

-- ---- all of 13, after some properties that have the names H
module _ (kind : ℕ) (s : List ℕ) where
  mistyped : (H : List ℕ → Type 0) (before : List ℕ) → ((name : List ℕ) → Says (has s before name) (H name)) →
      {at : ℕ} {p : Property} → At s at p → Fails (is_mistyped (lines_of kind) s before at) ((H p.name → ⊥) × FitsLine (rule_of kind p.name) p)
  mistyped H before h {at} {p} a =
      rw (a.name, a.code, a.elements)
      (fails_or (has s before p.name) _ (fails (has s before p.name) (h p.name)) (fits (rule_of kind p.name) p))

  pub typed_right : (H : List ℕ → Type 0) (before : List ℕ) → ((name : List ℕ) → Says (has s before name) (H name)) →
      {starts : List ℕ} {ps : List Property} → Described s starts ps →
      ((typed (lines_of kind) s before starts).number ≡ 0) ↔ Each (λ p. H p.name → ⊥) ps × Distinct ps × FitsRules kind ps
  unfolding typed
  typed_right H before h none = (λ e. (tt, tt, tt), λ p. refl)
  typed_right H before h (one {at} {p} {starts} {ps} a d) =
      let next : (name : List ℕ) → Says (has s (before ++ (at ∷ [])) name) (H name ⊎ (p.name ≡ name)) =
      λ name. rw (has_snoc s name before at, a.name) (says_or (has s before name) (same p.name name) (h name) (says_same p.name name)) in
      let ih = typed_right (λ name. H name ⊎ (p.name ≡ name)) (before ++ (at ∷ [])) next d in
      let first = mistyped H before h a in
      let here = refused (is_mistyped (lines_of kind) s before at) 13 (24 + at) (typed (lines_of kind) s (before ++ (at ∷ [])) starts) (λ e. omega arith) in (
        λ e.
            let now = first.0 (here.0 e).0 in
            let rest = ih.0 (here.0 e).1 in
            let away = apart H p.name ps rest.0 in
            ((now.0, away.0), (away.1, rest.1), (now.1, rest.2)),
        λ k. here.1 (first.1 (k.0.0, k.2.0), ih.1 (together H p.name ps k.0.1 k.1.0, k.1.1, k.2.1)),
      )
