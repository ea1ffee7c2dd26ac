-- The search for a name over places finds the property that has it.
use Prim.Native.Nat.{ℕ, suc}
use native.Mathlib.Omega.{arith}
use mathlib.Core.Path.{◌≡◌, refl}
use mathlib.Core.Bool.{cond, false≢true}
use mathlib.Core.List.{List, ◌∷◌}
use lib.Dec.{leb-suc-suc}
use lib.ListN.{length}
use borrow.Author.Tests.{lt-ltb}
use Rattle.base.proofs.Tests.{by_test}
use Rattle.names.specs.Names.{same}
use Rattle.names.proofs.Laws.{same_eq}
use Rattle.props.specs.Step.{name_at}
use Rattle.body.specs.Body.{first_named}
use Rattle.judge.specs.Properties.{has, place_of}
use Rattle.judge.proofs.Presence.{has_cons}
use Rattle.base.specs.Lists.{Each}
use Rattle.format.specs.Layout.{Property}
use Rattle.valid.specs.Obeys.{Has, of_named}
use Rattle.valid.proofs.Says.{Says, says_same, says_or}
use Rattle.valid.proofs.Described.{At, Described, none, one}

module _ (s name : List ℕ) where
  -- what is read of the property that has the name; something else where there is none
  abbrev pub read_of : {A : Type 0} → (read : ℕ → A) (other : A) → List ℕ → A
  read_of read other starts = cond (has s starts name) (read (place_of s starts name)) other

  module _ (at : ℕ) (more : List ℕ) where
    read_cons : {A : Type 0} (read : ℕ → A) (other : A) → read_of read other (at ∷ more) ≡ cond (same (name_at s at) name) (read at) (read_of read other more)
    unfolding first_named
    read_cons read other =
        by_test (same (name_at s at) name)
        (λ e. rw (e, lt-ltb 0 (suc (length more)) (omega arith)))
        (λ e. rw (e, leb-suc-suc (suc (first_named s name more)) (length more)))

  pub says_has : {starts : List ℕ} {ps : List Property} → Described s starts ps → Says (has s starts name) (Has name ps)
  unfolding first_named
  says_has none = (λ e. absurd (false≢true e), λ h. absurd h)
  says_has (one {at} {p} {starts} {ps} a d) =
      rw (has_cons s name at starts, a.name) (says_or (same p.name name) (has s starts name) (says_same p.name name) (says_has d))

-- what is read of the property of a name is what is read at its place, where both agree
pub read_named : {A : Type 0} (s name : List ℕ) (read : ℕ → A) (say : Property → A) (other : A) {starts : List ℕ} {ps : List Property} → Described s starts ps →
    Each (λ p. (at : ℕ) → At s at p → p.name ≡ name → read at ≡ say p) ps → read_of s name read other starts ≡ of_named name say other ps
unfolding of_named first_named
read_named s name read say other none h = refl
read_named s name read say other (one {at} {p} {starts} {ps} a d) h =
    rw (read_cons s name at starts read other, a.name, read_named s name read say other d h.1)
    (by_test (same p.name name) (λ e. rw e (h.0 at a (same_eq p.name name e))) (λ e. rw e))
