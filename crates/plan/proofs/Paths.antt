-- Paths that are climbed: from their part above a row on, and from one row's to the next.
use Prim.Native.Nat.{ℕ, suc, ◌+◌, ◌%◌, ◌≤◌, ◌<◌}
use native.Mathlib.Numerals.{add-one}
use native.Mathlib.Omega.{arith}
use mathlib.Core.Path.{◌≡◌, refl, sym, ◌∙◌}
use mathlib.Core.Bool.{true, false}
use mathlib.Core.List.{List, [], ◌∷◌}
use lib.Dec.{eqb}
use borrow.Author.Tests.{eq-eqb, ne_eqb, eqb-true}
use Rattle.base.proofs.Tests.{by_test}
use Rattle.kinds.specs.Kinds.{root, is_known}
use Rattle.table.specs.declared.Row.{Row}
use Rattle.table.specs.Table.{no_parent, row_at}
use Rattle.plan.specs.Plan.{up_from, path_of, is_on, right_parent}
use Rattle.plan.specs.Private.{path_at, Climbs}

-- what falls with each step of a climb: 0 at none
abbrev pub height : ℕ → ℕ
height at = (at + 1) % 4294967296

module _ (t : List ℕ) where
  pub climbs_below : (a b from : ℕ) (path : List ℕ) → a ≤ b → Climbs t a from path → Climbs t b from path
  climbs_below a b from [] h c = c
  climbs_below a b from (q ∷ qs) h c = (c.0, omega (arith, c.1), c.2)

  -- the part of a path from one of its rows on
  climbs_from : (row below from : ℕ) (path : List ℕ) → Climbs t below from path → is_on row path ≡ true → Climbs t below row (up_from row path)
  unfolding up_from is_on
  climbs_from row below from [] c h = let z : ◌≡◌ {A = ℕ} 0 1 = cc in omega arith
  climbs_from row below from (q ∷ qs) c h =
      by_test (eqb q row)
      (λ e. rw e (sym (eqb-true q row e), c.1, c.2))
      (λ e. rw e (climbs_below q below row (up_from row qs) (omega (arith, c.1)) (climbs_from row q (row_at t q).parent qs c.2 (rw e at h))))

  -- no row has the number that stands for none
  none_above : (below from : ℕ) (path : List ℕ) → below ≤ no_parent → Climbs t below from path → up_from no_parent path ≡ []
  unfolding up_from
  none_above below from [] h c = refl
  none_above below from (q ∷ qs) h c =
      rw (ne_eqb q no_parent (λ e. omega (arith, c.1))) (none_above q (row_at t q).parent qs (omega (arith, c.1)) c.2)

  -- ---- climbing

  -- the climb is at a row: the numbers left of the path, which tell what the whole path tells
  pub record Climbing (row : ℕ) (path : List ℕ) (at : ℕ) : Type 0 where
    pub left : List ℕ
    pub climbs : Climbs t no_parent at left
    pub same : is_on row left ≡ is_on row path

  climbs_up_to : (below from : ℕ) (path : List ℕ) → below ≤ no_parent → Climbs t below from path → (from ≤ no_parent) × (height from ≤ below)
  climbs_up_to below from [] h c = (omega arith, omega arith)
  climbs_up_to below from (q ∷ qs) h c = (omega (arith, c.0, c.1), omega (arith, c.0, c.1))

  module _ (row at : ℕ) (path : List ℕ) where
    pub climbing_small : Climbing row path at → at ≤ no_parent
    climbing_small c = (climbs_up_to no_parent at c.left (omega arith) c.climbs).0

    found : (left : List ℕ) → Climbs t no_parent at left → (at ≡ no_parent → ⊥) → at ≡ row → is_on row left ≡ true
    unfolding is_on
    found [] c h e = absurd (h c)
    found (q ∷ qs) c h e = rw (eq-eqb q row (sym c.0 ∙ e))

    pub climbing_found : Climbing row path at → (at ≡ no_parent → ⊥) → at ≡ row → true ≡ is_on row path
    climbing_found c h e = sym (found c.left c.climbs h e) ∙ c.same

    module _ {r : Row} (f : r ≡ row_at t at) where
      next : (left : List ℕ) → Climbs t no_parent at left → is_on row left ≡ is_on row path → (at ≡ no_parent → ⊥) → (at ≡ row → ⊥)
          → (height r.parent < height at) × Climbing row path r.parent
      unfolding is_on
      next [] c s h e = absurd (h c)
      next (q ∷ qs) c s h e =
          let up : Climbs t q r.parent qs = rw (f, c.0) c.2 in (
            omega (arith, c.0, c.1, (climbs_up_to q r.parent qs (omega (arith, c.1)) up).1),
            record {
              left = qs;
              climbs = climbs_below q no_parent r.parent qs (omega (arith, c.1)) up;
              same = rw (ne_eqb q row (λ g. e (c.0 ∙ g))) at s;
            },
          )

      pub climbing_next : Climbing row path at → (at ≡ no_parent → ⊥) → (at ≡ row → ⊥)
          → (height r.parent < height at) × Climbing row path r.parent
      climbing_next c h e = next c.left c.climbs c.same h e

    ended : (left : List ℕ) → Climbs t no_parent at left → at ≡ no_parent → is_on row left ≡ false
    unfolding is_on
    ended [] c h = refl
    ended (q ∷ qs) c h = absurd (omega (arith, c.0, c.1))

    pub climbing_ended : Climbing row path at → at ≡ no_parent → false ≡ is_on row path
    climbing_ended c h = sym (ended c.left c.climbs h) ∙ c.same

  -- ---- from one row's path to the next
  module _ (i from : ℕ) (h : i < no_parent) {r : Row} (e : r ≡ row_at t i) (p : right_parent r (path_at t i) ≡ true) (c : Climbs t i from (path_at t i)) where
    above : Climbs t i r.parent (up_from r.parent (path_at t i))
    unfolding right_parent
    above =
        by_test (eqb r.kind root)
        (λ k.
        let none : r.parent ≡ no_parent = eqb-true r.parent no_parent (rw k at p) in
        rw (none, none_above i from (path_at t i) (omega arith) c))
        (λ k. climbs_from r.parent i from (path_at t i) c (rw k at p))

    pub path_known : is_known r.kind ≡ true → Climbs t (i + 1) i (path_at t (i + 1))
    unfolding path_at path_of
    path_known k = rw (add-one i, ← e, k) (refl, omega arith, rw (← e) above)

    pub path_unknown : is_known r.kind ≡ false → Climbs t (i + 1) r.parent (path_at t (i + 1))
    unfolding path_at path_of
    path_unknown k = rw (add-one i, ← e, k) (climbs_below i (suc i) r.parent (up_from r.parent (path_at t i)) (omega arith) above)
