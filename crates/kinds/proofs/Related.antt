-- What a test says of each kind of the table and its parents, computed once over the table, it says of whatever stands under a known kind.
use Prim.Native.Nat.{ℕ}
use mathlib.Core.Path.{◌≡◌, refl, sym, subst}
use mathlib.Core.Bool.{Bool, true, false, cond, ◌&&◌, ◌||◌, true≢false, and-eq-true_iff}
use mathlib.Core.List.{List, [], ◌∷◌}
use lib.Dec.{eqb}
use borrow.Author.Tests.{eqb-true}
use Rattle.kinds.specs.Kinds.{Parents}
use Rattle.kinds.specs.Kinds.{Top, Under, UnderEither, Unknown}
use Rattle.kinds.specs.Kinds.{parents_table, parents_in, parents_of, is_listed, is_known, under_by, stands_under}

either : {P : Type 0} (a b : Bool) → (a || b) ≡ true → (a ≡ true → P) → (b ≡ true → P) → P
either true b e f g = f refl
either false b e f g = g e

-- R is the test of a parent and the kind under it
module _ (R : ℕ → ℕ → Bool) where
  unfoldable pub right : (k : ℕ) → Parents → Bool
  right k Top = true
  right k (Under p) = R p k
  right k (UnderEither p q) = R p k && R q k
  right k Unknown = true

  unfoldable pub all_right : List (ℕ × Parents) → Bool
  all_right [] = true
  all_right (x ∷ xs) = right x.0 x.1 && all_right xs

  -- the parents that are found are right where all are
  found : (xs : List (ℕ × Parents)) (k : ℕ) → all_right xs ≡ true → right k (parents_in xs k) ≡ true
  unfolding parents_in all_right right
  found [] k e = refl
  found (x ∷ xs) k e =
      let both = (and-eq-true_iff (right x.0 x.1) (all_right xs)).0 e in
      by (eqb x.0 k) refl both.0 (found xs k both.1)
    where
      by : (b : Bool) → eqb x.0 k ≡ b → right x.0 x.1 ≡ true → right k (parents_in xs k) ≡ true → right k (cond b x.1 (parents_in xs k)) ≡ true
      by true h g more = subst (λ z. right z x.1 ≡ true) (eqb-true _ _ h) g
      by false h g more = more

  by_parents : (p k : ℕ) (ps : Parents) → right k ps ≡ true → is_listed ps ≡ true → under_by p ps ≡ true → R p k ≡ true
  unfolding right
  by_parents p k Top g n e = absurd (true≢false (sym e))
  by_parents p k (Under q) g n e = subst (λ x. R x k ≡ true) (sym (eqb-true p q e)) g
  by_parents p k (UnderEither a b) g n e =
      let both = (and-eq-true_iff (R a k) (R b k)).0 g in
      either (eqb p a) (eqb p b) e
      (λ h. subst (λ x. R x k ≡ true) (sym (eqb-true p a h)) both.0)
      (λ h. subst (λ x. R x k ≡ true) (sym (eqb-true p b h)) both.1)
  by_parents p k Unknown g n e = absurd (true≢false (sym n))

  pub related : all_right parents_table ≡ true → (p k : ℕ) → is_known k ≡ true → stands_under p k ≡ true → R p k ≡ true
  unfolding is_known stands_under parents_of
  related all p k n e = by_parents p k (parents_in parents_table k) (found parents_table k all) n e
