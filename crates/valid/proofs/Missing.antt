-- 14 is not given exactly where the properties are complete and partnered.
use Prim.Native.Nat.{ℕ}
use mathlib.Core.Path.{◌≡◌, refl}
use mathlib.Core.Logic.Iff
use mathlib.Core.Logic.{◌⊎◌, inl, inr, ⊎_elim}
use mathlib.Core.Bool.{Bool, true, false, ◌&&◌, ◌||◌, false≢true}
use mathlib.Core.List.{List, [], ◌∷◌}
use lib.Dec.{eqb}
use Rattle.base.proofs.Tests.{by_test}
use Rattle.kinds.specs.Kinds.{mesh}
use Rattle.rules.specs.Table.{Line, required, lines}
use Rattle.base.specs.Letters.{letters}
use Rattle.rules.specs.Rules.{of_kind, lines_of}
use Rattle.judge.specs.Properties.{has}
use Rattle.judge.specs.Missing.{is_missing, misses, partnered, unpartnered, lacks}
use Rattle.base.specs.Lists.{Each}
use Rattle.format.specs.Layout.{Property}
use Rattle.valid.specs.Obeys.{Has, HasRequired, Partnered}
use Rattle.valid.proofs.Says.{Says, says_eqb, Fails, fails_not, fails_and, fails_or}
use Rattle.valid.proofs.Described.{Described}
use Rattle.valid.proofs.Names.{says_has}

all_partners : {A B C : Type 0} (a b c : Bool) → Says a A → Says b B → Says c C → Says (partnered a b c) (A ⊎ B → A × B × C)
all_partners true true true h k m = (λ e x. (h.0 refl, k.0 refl, m.0 refl), λ f. refl)
all_partners true true false h k m = (λ e. absurd (false≢true e), λ f. m.1 (f (inl (h.0 refl))).2)
all_partners true false c h k m = (λ e. absurd (false≢true e), λ f. k.1 (f (inl (h.0 refl))).1)
all_partners false true c h k m = (λ e. absurd (false≢true e), λ f. h.1 (f (inr (k.0 refl))).0)
all_partners false false c h k m = (λ e. ⊎_elim (λ x. absurd (false≢true (h.1 x))) (λ x. absurd (false≢true (k.1 x))), λ f. refl)

module _ (kind : ℕ) (s : List ℕ) {starts : List ℕ} {ps : List Property} (d : Described s starts ps) where
  of_kind_lem : (l : Line) (ls : List Line) →
      misses (of_kind (l ∷ ls) kind) s starts ≡ ((eqb l.kind kind && is_missing l s starts) || misses (of_kind ls kind) s starts)
  unfolding misses of_kind
  of_kind_lem l ls = by_test (eqb l.kind kind) (λ t. rw t) (λ t. rw t)

  none_missing : (ls : List Line) → Fails (misses (of_kind ls kind) s starts) (Each (λ l. l.kind ≡ kind → l.required ≡ required → Has l.name ps) ls)
  unfolding misses of_kind
  none_missing [] = (λ e. tt, λ h. refl)
  none_missing (l ∷ ls) =
      let there = fails_not (has s starts l.name) (says_has s l.name d) in
      let wanted = fails_and l.required _ Iff.rfl there in
      let here = fails_and (eqb l.kind kind) _ (says_eqb l.kind kind) wanted in
      rw (of_kind_lem l ls) (fails_or (eqb l.kind kind && is_missing l s starts) _ here (none_missing ls))

  all_partnered : Fails (unpartnered kind s starts) (kind ≡ mesh → Partnered ps)
  all_partnered =
      let wb = has s starts (letters "wb") in
      let wv = has s starts (letters "wv") in
      let mi = has s starts (letters "mi") in
      let partners = all_partners wb wv mi (says_has s (letters "wb") d) (says_has s (letters "wv") d) (says_has s (letters "mi") d) in
      fails_and (eqb kind mesh) _ (says_eqb kind mesh) (fails_not (partnered wb wv mi) partners)

  pub lacks_none : Fails (lacks kind (lines_of kind) s starts) (HasRequired kind ps × (kind ≡ mesh → Partnered ps))
  unfolding lacks lines_of
  lacks_none = fails_or (misses (lines_of kind) s starts) _ (none_missing lines) all_partnered
