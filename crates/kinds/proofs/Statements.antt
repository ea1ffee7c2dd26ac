-- The search through the table agrees with document 01's lists. The table and the pairs are looked at once, by computation; no proof
-- goes by cases over the kinds.
use Rattle.std.specs.Prelude.{Some}
use Rattle.std.specs.Prelude.{None}
use Prim.Native.Nat.{ℕ}
use mathlib.Core.Path.{◌≡◌, refl, sym, ◌∙◌, subst}
use mathlib.Core.Logic.{◌↔◌, ◌⊎◌, inl, inr, ⊎_elim}
use mathlib.Core.Bool.{Bool, true, false, cond, ◌&&◌, ◌||◌, true≢false, false≢true, and-eq-true_iff}
use mathlib.Core.List.{List, [], ◌∷◌, map}
use lib.Dec.{eqb}
use borrow.Author.Tests.{eqb-true, eq-eqb}
use Rattle.kinds.specs.Kinds.{Parents}
use Rattle.kinds.specs.Kinds.{Top, Under, UnderEither, Unknown}
use Rattle.kinds.specs.Kinds.{root, parents_table, parents_in, parents_of, is_listed, is_known, under_by, stands_at_top, stands_under, may_stand}
use Rattle.base.specs.Lists.{Each, Some as SomeOf}
use Rattle.kinds.specs.Statements.{sixteen, IsOneOfSixteen, KnownExactly, UnknownExactly, parents, IsParent, StandsExactly}
use Rattle.kinds.proofs.Related.{right, all_right, related}
use Rattle.kinds.proofs.Tops.{top_root}

-- ---- kinds

kinds : List (ℕ × Parents) → List ℕ
kinds xs = map (λ x. x.0) xs

the_sixteen : kinds parents_table ≡ sixteen
unfolding parents_table kinds
the_sixteen = refl

-- each of a list has its parents
abbrev AllListed : List (ℕ × Parents) → Type 0
AllListed xs = Each (λ x. is_listed x.1 ≡ true) xs

listed : (xs : List (ℕ × Parents)) → AllListed xs → (k : ℕ) → (is_listed (parents_in xs k) ≡ true) ↔ SomeOf (λ x. k ≡ x) (kinds xs)
unfolding parents_in kinds
listed [] a k = (λ e. false≢true e, λ x. absurd x)
listed (x ∷ xs) a k = by (eqb x.0 k) refl (listed xs a.1 k)
  where
    by : (b : Bool) → eqb x.0 k ≡ b → (is_listed (parents_in xs k) ≡ true) ↔ SomeOf (λ y. k ≡ y) (kinds xs)
        → (is_listed (cond b x.1 (parents_in xs k)) ≡ true) ↔ (k ≡ x.0) ⊎ SomeOf (λ y. k ≡ y) (kinds xs)
    by true h ih = (λ e. inl (sym (eqb-true _ _ h)), λ s. a.0)
    by false h ih = (λ e. inr (ih.0 e), ⊎_elim (λ e. absurd (true≢false (sym (eq-eqb _ _ (sym e)) ∙ h))) ih.1)

all_listed : AllListed parents_table
unfolding parents_table
all_listed = (refl, (refl, (refl, (refl, (refl, (refl, (refl, (refl, (refl, (refl, (refl, (refl, (refl, (refl, (refl, (refl, tt))))))))))))))))

pub known_exactly : KnownExactly
unfolding is_known parents_of
known_exactly k = subst (λ xs. (is_listed (parents_in parents_table k) ≡ true) ↔ SomeOf (λ x. k ≡ x) xs) the_sixteen (listed parents_table all_listed k)

pub unknown_exactly : UnknownExactly
unknown_exactly k = by (is_known k) (known_exactly k)
  where
    by : (b : Bool) → (b ≡ true) ↔ IsOneOfSixteen k → (b ≡ false) ↔ (IsOneOfSixteen k → ⊥)
    by true h = (λ e. absurd (true≢false e), λ n. absurd (n (h.0 refl)))
    by false h = (λ e s. false≢true (h.1 s), λ n. refl)

-- ---- parents

-- the pairs, searched
unfoldable is_pair : List (ℕ × ℕ) → (parent k : ℕ) → Bool
is_pair [] p k = false
is_pair (x ∷ xs) p k = (eqb x.1 k && eqb p x.0) || is_pair xs p k

pairs : (xs : List (ℕ × ℕ)) (p k : ℕ) → (is_pair xs p k ≡ true) ↔ SomeOf (λ pair. (p ≡ pair.0) × (k ≡ pair.1)) xs
unfolding is_pair
pairs [] p k = (λ e. false≢true e, λ x. absurd x)
pairs (x ∷ xs) p k = by (eqb x.1 k) (eqb p x.0) refl refl (pairs xs p k)
  where
    by : (b c : Bool) → eqb x.1 k ≡ b → eqb p x.0 ≡ c → (is_pair xs p k ≡ true) ↔ SomeOf (λ pair. (p ≡ pair.0) × (k ≡ pair.1)) xs
        → (((b && c) || is_pair xs p k) ≡ true) ↔ ((p ≡ x.0) × (k ≡ x.1)) ⊎ SomeOf (λ pair. (p ≡ pair.0) × (k ≡ pair.1)) xs
    by true true f g ih = (λ e. inl (eqb-true _ _ g, sym (eqb-true _ _ f)), λ s. refl)
    by true false f g ih = (λ e. inr (ih.0 e), ⊎_elim (λ e. absurd (true≢false (sym (eq-eqb _ _ e.0) ∙ g))) ih.1)
    by false c f g ih = (λ e. inr (ih.0 e), ⊎_elim (λ e. absurd (true≢false (sym (eq-eqb _ _ (sym e.1)) ∙ f))) ih.1)

-- what stands under a known kind does so by a pair: computed once over the table
all_pairs : all_right (is_pair parents) parents_table ≡ true
unfolding parents_table all_right right is_pair
all_pairs = refl

-- and the kind of each pair is known, and stands there: computed once over the pairs
all_stand : List (ℕ × ℕ) → Bool
all_stand [] = true
all_stand (x ∷ xs) = (is_known x.1 && stands_under x.0 x.1) && all_stand xs

all_stand_lem : all_stand parents ≡ true
unfolding all_stand is_known stands_under parents_of parents_in parents_table
all_stand_lem = refl

pair_stands : (xs : List (ℕ × ℕ)) → all_stand xs ≡ true → (p k : ℕ) → SomeOf (λ pair. (p ≡ pair.0) × (k ≡ pair.1)) xs
    → (is_known k && stands_under p k) ≡ true
unfolding all_stand
pair_stands [] h p k s = absurd s
pair_stands (x ∷ xs) h p k (inl e) = rw (e.0, e.1) ((and-eq-true_iff (is_known x.1 && stands_under x.0 x.1) (all_stand xs)).0 h).0
pair_stands (x ∷ xs) h p k (inr s) = pair_stands xs ((and-eq-true_iff (is_known x.1 && stands_under x.0 x.1) (all_stand xs)).0 h).1 p k s

parent_stands : (p k : ℕ) → IsParent p k → (is_known k ≡ true) × (stands_under p k ≡ true)
parent_stands p k s = (and-eq-true_iff (is_known k) (stands_under p k)).0 (pair_stands parents all_stand_lem p k s)

unknown_under : (p k : ℕ) → is_known k ≡ false → stands_under p k ≡ is_known p
unfolding is_known stands_under parents_of
unknown_under p k e = by (parents_in parents_table k) e
  where
    by : (ps : Parents) → is_listed ps ≡ false → under_by p ps ≡ is_known p
    by Top e = absurd (true≢false e)
    by (Under q) e = absurd (true≢false e)
    by (UnderEither q r) e = absurd (true≢false e)
    by Unknown e = refl

root_stands : may_stand None root ≡ true
unfolding may_stand stands_at_top parents_of parents_in parents_table
root_stands = refl

pub stands_exactly : StandsExactly
unfolding may_stand
stands_exactly None k = (top_root k, λ e. subst (λ k. may_stand None k ≡ true) (sym e) root_stands)
stands_exactly (Some p) k = by (is_known k) refl
  where
    by : (b : Bool) → is_known k ≡ b → (stands_under p k ≡ true) ↔ IsParent p k ⊎ ((IsOneOfSixteen k → ⊥) × IsOneOfSixteen p)
    by true h = (
      λ e. inl ((pairs parents p k).0 (related (is_pair parents) all_pairs p k h e)),
      ⊎_elim (λ s. (parent_stands p k s).1) (λ n. absurd (n.0 ((known_exactly k).0 h))),
    )
    by false h =
        let same : stands_under p k ≡ is_known p = unknown_under p k h in (
          λ e. inr ((unknown_exactly k).0 h, (known_exactly p).0 (sym same ∙ e)),
          ⊎_elim (λ s. (parent_stands p k s).1) (λ n. same ∙ (known_exactly p).1 n.1),
        )
