-- A row's refusal by its tests, and the first refusal of the rows from one on.
use Prim.Native.Nat.{ℕ, ◌+◌, ◌≤◌, ◌<◌}
use native.Mathlib.Numerals.{add-one}
use native.Mathlib.Omega.{arith}
use mathlib.Core.Path.{◌≡◌}
use mathlib.Core.Bool.{true, false}
use mathlib.Core.List.{List}
use lib.Dec.{eqb}
use lib.ListN.{length}
use borrow.Author.Tests.{eq-eqb, ne_eqb}
use Rattle.base.specs.Refusals.{Refusal}
use Rattle.base.specs.Refusals.{refusal, no_refusal, refused_or}
use Rattle.base.proofs.Tests.{by_test}
use Rattle.base.proofs.Refusals.{is_refused}
use Rattle.kinds.specs.Kinds.{root, is_known}
use Rattle.table.specs.declared.Row.{Row}
use Rattle.table.specs.Table.{no_parent, row_at, rows_at}
use Rattle.table.proofs.Rests.{rest, rest_all, rest_more, rest_none}
use Rattle.body.specs.Body.{exactly}
use Rattle.format.specs.Rows.{body_of, outside}
use Rattle.plan.specs.Plan.{is_on, right_parent, naming, row_refusal, plan_refusal_from, plan_refusal}
use Rattle.plan.specs.Private.{path_at}

module _ (r : Row) (previous : List ℕ) where
  pub parent_root : r.kind ≡ root → eqb r.parent no_parent ≡ right_parent r previous
  unfolding right_parent
  parent_root k = rw (eq-eqb r.kind root k)

  pub parent_other : (r.kind ≡ root → ⊥) → is_on r.parent previous ≡ right_parent r previous
  unfolding right_parent
  parent_other k = rw (ne_eqb r.kind root k)

-- ---- a row, one case for each test passed
module _ (s previous : List ℕ) (named : ℕ) (r : Row) where
  pub refusal_parent : right_parent r previous ≡ false → 21 ≡ row_refusal s previous named r
  unfolding row_refusal
  refusal_parent p = rw p

  -- what is not refused has a right parent
  pub right : row_refusal s previous named r ≡ 0 → right_parent r previous ≡ true
  unfolding row_refusal
  right h = by_test (right_parent r previous) (λ p. p) (λ p. let z = rw p at h in absurd (omega arith))

  module _ (p : right_parent r previous ≡ true) where
    pub refusal_outside : outside (length s) r ≡ true → 22 ≡ row_refusal s previous named r
    unfolding row_refusal
    refusal_outside o = rw (p, o)

    module _ (o : outside (length s) r ≡ false) where
      pub refusal_unknown : is_known r.kind ≡ false → 0 ≡ row_refusal s previous named r
      unfolding row_refusal
      refusal_unknown k = rw (p, o, k)

      module _ (k : is_known r.kind ≡ true) where
        pub refusal_body : exactly (body_of s r) r.properties ≡ false → 23 ≡ row_refusal s previous named r
        unfolding row_refusal
        refusal_body b = rw (p, o, k, b)

        module _ (b : exactly (body_of s r) r.properties ≡ true) where
          pub refusal_children : (r.children ≡ named → ⊥) → 24 ≡ row_refusal s previous named r
          unfolding row_refusal
          refusal_children n = rw (p, o, k, b, ne_eqb r.children named n)

          pub refusal_none : r.children ≡ named → 0 ≡ row_refusal s previous named r
          unfolding row_refusal
          refusal_none n = rw (p, o, k, b, eq-eqb r.children named n)

-- ---- the rows
module _ (s t : List ℕ) (n : ℕ) where
  abbrev all : List Row
  all = rows_at t 0 n

  -- what the rows from row i on give
  abbrev pub judged_at : (i : ℕ) → Refusal
  judged_at i = plan_refusal_from s all i (path_at t i) (rest t n i)

  pub judging_begun : judged_at 0 ≡ plan_refusal s all
  unfolding plan_refusal path_at
  judging_begun = rw (rest_all t n)

  module _ (i : ℕ) where
    module _ (h : i < n) {r : Row} {named number : ℕ} (e : r ≡ row_at t i) (f : named ≡ naming all i)
        (g : number ≡ row_refusal s (path_at t i) named r) where
      next : judged_at i ≡ refused_or number (refusal number i) (judged_at (i + 1))
      unfolding plan_refusal_from path_at
      next = rw (rest_more t n i h, add-one i, ← e, ← f, ← g)

      pub judging_refused : (number ≡ 0 → ⊥) → judged_at i ≡ refusal number i
      judging_refused m = rw next (is_refused number (refusal number i) (judged_at (i + 1)) m)

      pub judging_passed : number ≡ 0 → judged_at i ≡ judged_at (i + 1)
      judging_passed m = rw (next, m)

    pub judging_ended : n ≤ i → judged_at i ≡ no_refusal
    unfolding plan_refusal_from
    judging_ended h = rw (rest_none t n i h)
