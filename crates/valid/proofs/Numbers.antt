-- A node's refusals, each exactly: 13, 14 and 15 in turn.
use Prim.Native.Nat.{ℕ, ◌+◌}
use native.Mathlib.Omega.{arith}
use mathlib.Core.Path.{◌≡◌, refl, sym, ◌∙◌}
use mathlib.Core.Logic.Iff
use mathlib.Core.Logic.{◌↔◌, ◌⊎◌, inl, inr, ⊎_elim}
use mathlib.Core.Bool.{Bool, false, cond, true≢false}
use mathlib.Core.List.{List, [], ◌∷◌, ◌++◌}
use Rattle.base.proofs.Tests.{by_test}
use Rattle.body.specs.Body.{properties}
use Rattle.rules.specs.Table.{Line}
use Rattle.rules.specs.Rules.{lines_of}
use Rattle.judge.specs.Properties.{Beside, rule_at, beside_of}
use Rattle.base.specs.Refusals.{Refusal}
use Rattle.judge.specs.Typed.{is_mistyped, typed}
use Rattle.judge.specs.Missing.{lacks}
use Rattle.judge.specs.Valued.{fault_of, fault_number, valued, node_faces, node_links}
use Rattle.base.specs.Refusals.{refusal, refused_or}
use Rattle.base.proofs.Refusals.{by_refusal}
use Rattle.judge.specs.Judge.{verdict_at, judged_at, judged}
use Rattle.base.proofs.Lists.{each_map}
use Rattle.valid.specs.Statements.{WellTyped, AllKept, JudgedExactly}
use Rattle.valid.proofs.Agree.{ends, fits_rules, keeps_rules}
use Rattle.valid.proofs.Described.{described}
use Rattle.valid.proofs.Types.{typed_right}
use Rattle.valid.proofs.Missing.{lacks_none}
use Rattle.valid.proofs.Beside.{beheld}
use Rattle.valid.proofs.Held.{valued_right}
use Rattle.valid.proofs.Rules.{same_number_lem, none_before, obeyed, accepted}

-- ---- each stage gives its own number, or none
abbrev Only : (k n : ℕ) → Type 0
Only k n = (n ≡ 0) ⊎ (n ≡ k)

typed_only : (ls : List Line) (s before starts : List ℕ) → Only 13 (typed ls s before starts).number
unfolding typed
typed_only ls s before [] = inl refl
typed_only ls s before (at ∷ more) =
    by_test (is_mistyped ls s before at) (λ t. rw t (inr refl)) (λ t. rw t (typed_only ls s (before ++ (at ∷ [])) more))

valued_only : (ls : List Line) (s : List ℕ) (b : Beside) (starts : List ℕ) → Only 15 (valued ls s b starts).number
unfolding valued
valued_only ls s b [] = inl refl
valued_only ls s b (at ∷ more) =
    by_refusal (λ v. Only 15 v.number) (fault_number (fault_of (rule_at ls s at).held s at b)) (refusal 15 (24 + at)) (valued ls s b more)
    (λ h. inr refl) (λ h. valued_only ls s b more)

-- ---- one after the other, where the first says T, the second C and the third, of what the first lets pass, K
module _ {T C K : Type 0} (v w : Refusal) (b : Bool) (first : Only 13 v.number) (third : Only 15 w.number)
    (t : (v.number ≡ 0) ↔ T) (c : (b ≡ false) ↔ C) (k : T → (w.number ≡ 0) ↔ K) where
  abbrev number : ℕ
  number = (refused_or v.number v (cond b (refusal 14 0) w)).number

  past : v.number ≡ 0 → number ≡ (cond b (refusal 14 0) w).number
  past e = rw e

  stopped : v.number ≡ 13 → number ≡ 13
  stopped e = rw e

  -- what is given: 13, 14, 15 or none
  abbrev Outcome : Type 0
  Outcome = ((T → ⊥) × (number ≡ 13)) ⊎ ((T × (C → ⊥) × (number ≡ 14)) ⊎ ((T × C × (K → ⊥) × (number ≡ 15)) ⊎ (T × C × K × (number ≡ 0))))

  cases : Outcome
  cases =
      ⊎_elim
      (λ z.
      let T-holds = t.0 z in
      by_test b
      (λ e. inr (inl (T-holds, λ h. true≢false (sym e ∙ c.1 h), past z ∙ rw e)))
      (λ e.
      let on : number ≡ w.number = past z ∙ rw e in
      ⊎_elim
      (λ y. inr (inr (inr (T-holds, c.0 e, (k T-holds).0 y, on ∙ y))))
      (λ y. inr (inr (inl (T-holds, c.0 e, (λ h. omega (arith, y, (k T-holds).1 h)), on ∙ y)))) third))
      (λ e. inl ((λ h. omega (arith, e, t.1 h)), stopped e)) first

  is_13 : (number ≡ 13) ↔ (T → ⊥)
  is_13 = (to cases, from cases)
    where
      to : Outcome → number ≡ 13 → T → ⊥
      to (inl h) e = h.0
      to (inr (inl h)) e = absurd (omega (arith, e, h.2))
      to (inr (inr (inl h))) e = absurd (omega (arith, e, h.3))
      to (inr (inr (inr h))) e = absurd (omega (arith, e, h.3))

      from : Outcome → (T → ⊥) → number ≡ 13
      from (inl h) n = h.1
      from (inr (inl h)) n = absurd (n h.0)
      from (inr (inr (inl h))) n = absurd (n h.0)
      from (inr (inr (inr h))) n = absurd (n h.0)

  is_14 : (number ≡ 14) ↔ (T × (C → ⊥))
  is_14 = (to cases, from cases)
    where
      to : Outcome → number ≡ 14 → T × (C → ⊥)
      to (inl h) e = absurd (omega (arith, e, h.1))
      to (inr (inl h)) e = (h.0, h.1)
      to (inr (inr (inl h))) e = absurd (omega (arith, e, h.3))
      to (inr (inr (inr h))) e = absurd (omega (arith, e, h.3))

      from : Outcome → T × (C → ⊥) → number ≡ 14
      from (inl h) n = absurd (h.0 n.0)
      from (inr (inl h)) n = h.2
      from (inr (inr (inl h))) n = absurd (n.1 h.1)
      from (inr (inr (inr h))) n = absurd (n.1 h.1)

  is_15 : (number ≡ 15) ↔ (T × C × (K → ⊥))
  is_15 = (to cases, from cases)
    where
      to : Outcome → number ≡ 15 → T × C × (K → ⊥)
      to (inl h) e = absurd (omega (arith, e, h.1))
      to (inr (inl h)) e = absurd (omega (arith, e, h.2))
      to (inr (inr (inl h))) e = (h.0, h.1, h.2)
      to (inr (inr (inr h))) e = absurd (omega (arith, e, h.3))

      from : Outcome → T × C × (K → ⊥) → number ≡ 15
      from (inl h) n = absurd (h.0 n.0)
      from (inr (inl h)) n = absurd (h.1 n.1)
      from (inr (inr (inl h))) n = h.3
      from (inr (inr (inr h))) n = absurd (n.2 h.2)

pub judged_exactly : JudgedExactly
unfolding judged judged_at verdict_at
judged_exactly kind n s bones good =
    let starts = (properties s n).starts in
    let ps = good.properties in
    let d = described n s good in
    let verdict = verdict_at kind (lines_of kind) s starts bones in
    let first = typed (lines_of kind) s [] starts in
    let values = valued (lines_of kind) s (beside_of kind s starts bones) starts in
    let types = typed_right kind s (λ name. ⊥) [] (none_before s) d in
    let fits = fits_rules kind ps in
    let t : (first.number ≡ 0) ↔ WellTyped kind ps = (
      λ e. let h = types.0 e in (h.1, fits.0 h.2),
      λ h. let f = fits.1 h.1 in types.1 (each_map (λ p f h. h) ps f, h.0, f),
    ) in
    let k : WellTyped kind ps → (values.number ≡ 0) ↔ AllKept kind ps bones = λ h.
    let f = fits.1 h.1 in
    Iff.trans (valued_right kind s ps bones (beside_of kind s starts bones) (beheld kind s d f bones) h.0 (ends kind ps good.good f) d f) (keeps_rules kind ps bones ps) in
    let same : (judged kind n s bones).number ≡ verdict.number = same_number_lem verdict (node_faces (lines_of kind) s starts) (node_links (lines_of kind) s starts) in
    let ask = lacks kind (lines_of kind) s starts in
    let only = typed_only (lines_of kind) s [] starts in
    let last = valued_only (lines_of kind) s (beside_of kind s starts bones) starts in
    let c = lacks_none kind s d in
    let thirteen = is_13 first values ask only last t c k in
    let fourteen = is_14 first values ask only last t c k in
    let fifteen = is_15 first values ask only last t c k in
    record {
      mistyped = (λ e. thirteen.0 (sym same ∙ e), λ h. same ∙ thirteen.1 h);
      missing = (λ e. fourteen.0 (sym same ∙ e), λ h. same ∙ fourteen.1 h);
      broken = (λ e. fifteen.0 (sym same ∙ e), λ h. same ∙ fifteen.1 h);
      right = (obeyed kind n s bones good, accepted kind n s bones good);
    }
