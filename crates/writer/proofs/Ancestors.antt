-- A row's right parent by its ancestors, and by the path of the row before it: a path has just the known rows that are the
-- previous row or its ancestors.
use Prim.Native.Nat.{ℕ, zero, suc, ◌≤◌, ◌<◌}
use native.Mathlib.Omega.{arith}
use mathlib.Core.Path.{◌≡◌, refl, ap, sym, subst, ◌∙◌}
use mathlib.Core.Logic.{◌⊎◌, inl, inr, ◌↔◌}
use mathlib.Core.Bool.{true, cond, true≢false}
use mathlib.Core.List.{List, [], ◌∷◌}
use lib.Dec.{eqb}
use lib.ListN.{length, get_or, drop}
use borrow.Author.Tests.{eq-eqb, ne_eqb, eqb-true, eqb-false}
use Rattle.base.proofs.Tests.{by_test}
use Rattle.kinds.specs.Kinds.{root, is_known}
use Rattle.table.specs.declared.Row.{Row}
use Rattle.table.specs.Table.{no_parent, blank}
use Rattle.plan.specs.Plan.{up_from, path_of, is_on, right_parent}
use Rattle.writer.specs.Writable.{nth_row, IsKnown, Ancestor, nearest, higher, MayHold, RightParent}
use Rattle.writer.proofs.Judged.{Parents}

-- the first of the rows from row k on
pub first_row : (k : ℕ) (all : List Row) (r : Row) (rs : List Row) → drop k all ≡ r ∷ rs → (nth_row all k ≡ r) × (drop (suc k) all ≡ rs) × (k < length all)
first_row zero [] r rs e = absurd (omega (arith, ap length e))
first_row zero (x ∷ xs) r rs e = (ap (λ (l : List Row). get_or l 0 blank) e, ap (λ (l : List Row). drop 1 l) e, omega arith)
first_row (suc k) [] r rs e = absurd (omega (arith, ap length e))
first_row (suc k) (x ∷ xs) r rs e = let ih = first_row k xs r rs e in (ih.0, ih.1, omega (arith, ih.2))

module _ (all : List Row) (few : length all ≤ 1024) where
  -- row p is row j, or an ancestor of it
  abbrev Reach : (p j : ℕ) → Type 0
  Reach p j = (p ≡ j) ⊎ Ancestor all p j

  reach_up : (p j : ℕ) → j < length all → Reach p (nth_row all j).parent → Ancestor all p j
  reach_up p j h (inl e) = nearest h (sym e)
  reach_up p j h (inr a) = higher h a

  up_reach : (p j : ℕ) → Ancestor all p j → (j < length all) × Reach p (nth_row all j).parent
  up_reach p j (nearest h e) = (h, inl (sym e))
  up_reach p j (higher h a) = (h, inr a)

  -- climbing by parents from a row's number gives this path of known rows; their numbers descend from below a bound
  abbrev Climb : (below from : ℕ) → List ℕ → Type 0
  Climb below from [] = from ≡ no_parent
  Climb below from (q ∷ qs) = (from ≡ q) × (q < below) × IsKnown (nth_row all q) × Climb q (nth_row all q).parent qs

  climb_below : (a b from : ℕ) (path : List ℕ) → a ≤ b → Climb a from path → Climb b from path
  climb_below a b from [] h c = c
  climb_below a b from (q ∷ qs) h c = (c.0, omega (arith, c.1), c.2, c.3)

  -- the path's rows are the row where it starts and that row's ancestors
  climb_on : (p below from : ℕ) (path : List ℕ) → below ≤ length all → Climb below from path → is_on p path ≡ true
      → Reach p from × (p < below) × IsKnown (nth_row all p)
  unfolding is_on
  climb_on p below from [] b c h = absurd (true≢false (sym h))
  climb_on p below from (q ∷ qs) b c h =
      by_test (eqb q p)
      (λ t.
      let same = eqb-true q p t in
      (inl (sym (c.0 ∙ same)), omega (arith, c.1, same), subst (λ n. IsKnown (nth_row all n)) same c.2))
      (λ t.
      let up = climb_on p q (nth_row all q).parent qs (omega (arith, c.1, b)) c.3 (rw t at h) in
      (inr (subst (Ancestor all p) (sym c.0) (reach_up p q (omega (arith, c.1, b)) up.0)), omega (arith, up.1, c.1), up.2))

  on_climb : (p below from : ℕ) (path : List ℕ) → Climb below from path → Reach p from → p < 1024 → is_on p path ≡ true
  unfolding is_on
  on_climb p below from [] c (inl e) h = absurd (omega (arith, e, c, h))
  on_climb p below from [] c (inr a) h = absurd (omega (arith, (up_reach p from a).0, c, few))
  on_climb p below from (q ∷ qs) c r h =
      by_test (eqb q p) (λ t. rw t) (λ t. rw t (on_climb p q (nth_row all q).parent qs c.3 (left r (eqb-false q p t)) h))
    where
      left : Reach p from → (q ≡ p → ⊥) → Reach p (nth_row all q).parent
      left (inl e) n = absurd (n (sym (e ∙ c.0)))
      left (inr a) n = subst (λ j. Reach p (nth_row all j).parent) c.0 (up_reach p from a).1

  -- ---- the path of the row before row k: where it starts
  abbrev start : ℕ → ℕ
  start zero = no_parent
  start (suc j) = cond (is_known (nth_row all j).kind) j (nth_row all j).parent

  abbrev pub PathAt : (k : ℕ) → List ℕ → Type 0
  PathAt k path = Climb k (start k) path

  on_held : (p k : ℕ) (path : List ℕ) → k ≤ length all → PathAt k path → is_on p path ≡ true → MayHold all k p
  on_held p zero path b c h = absurd (omega (arith, (climb_on p 0 no_parent path b c h).1))
  on_held p (suc j) path b c h =
      let on = climb_on p (suc j) (start (suc j)) path b c h in
      record {
        earlier = on.1;
        known = on.2;
        near = by_test (is_known (nth_row all j).kind) (λ t. rw t at on.0) (λ t. inr (reach_up p j (omega (arith, b)) (rw t at on.0)));
      }

  held_on : (p k : ℕ) (path : List ℕ) → k ≤ length all → PathAt k path → MayHold all k p → is_on p path ≡ true
  held_on p zero path b c m = absurd m.near
  held_on p (suc j) path b c m = on_climb p (suc j) (start (suc j)) path c (from m.near) (omega (arith, m.earlier, b, few))
    where
      from : Reach p j → Reach p (start (suc j))
      from (inl e) =
          by_test (is_known (nth_row all j).kind) (λ t. rw t (inl e))
          (λ t. absurd (true≢false (sym m.known ∙ ap (λ n. is_known (nth_row all n).kind) e ∙ t)))
      from (inr a) = by_test (is_known (nth_row all j).kind) (λ t. rw t (inr a)) (λ t. rw t (up_reach p j a).1)

  -- ---- a right parent, by either
  module _ (k : ℕ) (path : List ℕ) (b : k < length all) (c : PathAt k path) where
    pub right_parent_lem : right_parent (nth_row all k) path ≡ true → RightParent all k
    unfolding right_parent
    right_parent_lem h =
        by_test (eqb (nth_row all k).kind root)
        (λ t.
        let is = eqb-true (nth_row all k).kind root t in
        record { none = (λ e. eqb-true (nth_row all k).parent no_parent (rw t at h), λ e. is); other = λ n. absurd (n is) })
        (λ t.
        let not = eqb-false (nth_row all k).kind root t in
        let held = on_held (nth_row all k).parent k path (omega (arith, b)) c (rw t at h) in
        record { none = (λ e. absurd (not e), λ e. absurd (omega (arith, held.earlier, e, b, few))); other = λ n. held })

    pub parent_right : RightParent all k → right_parent (nth_row all k) path ≡ true
    unfolding right_parent
    parent_right m =
        by_test (eqb (nth_row all k).kind root)
        (λ t. rw t (eq-eqb (nth_row all k).parent no_parent (m.none.0 (eqb-true (nth_row all k).kind root t))))
        (λ t. rw t (held_on (nth_row all k).parent k path (omega (arith, b)) c (m.other (eqb-false (nth_row all k).kind root t))))

    -- ---- and the path of row k
    climb_from : (row below from : ℕ) (path : List ℕ) → Climb below from path → is_on row path ≡ true → Climb below row (up_from row path)
    unfolding up_from is_on
    climb_from row below from [] c h = absurd (true≢false (sym h))
    climb_from row below from (q ∷ qs) c h =
        by_test (eqb q row)
        (λ e. rw e (sym (eqb-true q row e), c.1, c.2, c.3))
        (λ e. rw e (climb_below q below row (up_from row qs) (omega (arith, c.1)) (climb_from row q (nth_row all q).parent qs c.3 (rw e at h))))

    none_above : (below from : ℕ) (path : List ℕ) → below ≤ no_parent → Climb below from path → up_from no_parent path ≡ []
    unfolding up_from
    none_above below from [] h c = refl
    none_above below from (q ∷ qs) h c =
        rw (ne_eqb q no_parent (λ e. omega (arith, c.1, e, h))) (none_above q (nth_row all q).parent qs (omega (arith, c.1, h)) c.3)

    up : right_parent (nth_row all k) path ≡ true → Climb k (nth_row all k).parent (up_from (nth_row all k).parent path)
    unfolding right_parent
    up p =
        by_test (eqb (nth_row all k).kind root)
        (λ t.
        let none : (nth_row all k).parent ≡ no_parent = eqb-true (nth_row all k).parent no_parent (rw t at p) in
        rw (none, none_above k (start k) path (omega (arith, b, few)) c))
        (λ t. climb_from (nth_row all k).parent k (start k) path c (rw t at p))

    pub path_next : right_parent (nth_row all k) path ≡ true → PathAt (suc k) (path_of k (nth_row all k) path)
    unfolding path_of
    path_next p =
        by_test (is_known (nth_row all k).kind)
        (λ t. rw t (refl, omega arith, t, up p))
        (λ t. rw t (climb_below k (suc k) (nth_row all k).parent (up_from (nth_row all k).parent path) (omega arith) (up p)))

  -- ---- all rows
  parents_of_lem : (k : ℕ) (path : List ℕ) (rs : List Row) → drop k all ≡ rs → PathAt k path → Parents k path rs
      → (i : ℕ) → k ≤ i → i < length all → RightParent all i
  parents_of_lem k path [] e c w i h b = absurd (past k all e (omega (arith, h, b)))
    where
      past : (k : ℕ) (l : List Row) → drop k l ≡ [] → k < length l → ⊥
      past zero [] e h = omega (arith, h)
      past zero (x ∷ xs) e h = omega (arith, ap length e)
      past (suc k) [] e h = omega (arith, h)
      past (suc k) (x ∷ xs) e h = past k xs e (omega (arith, h))
  parents_of_lem k path (r ∷ rs) e c w i h b =
      let first = first_row k all r rs e in
      let right : right_parent (nth_row all k) path ≡ true = rw first.0 w.0 in
      let next = parents_of_lem (suc k) (path_of k r path) rs first.1 (subst (λ q. PathAt (suc k) (path_of k q path)) first.0 (path_next k path first.2 c right)) w.1 in
      by_test (eqb k i)
      (λ t. subst (RightParent all) (eqb-true k i t) (right_parent_lem k path first.2 c right))
      (λ t. let other = eqb-false k i t in next i (omega arith) b)

  of_parents : (k : ℕ) (path : List ℕ) (rs : List Row) → drop k all ≡ rs → PathAt k path
      → ((i : ℕ) → i < length all → RightParent all i) → Parents k path rs
  of_parents k path [] e c h = tt
  of_parents k path (r ∷ rs) e c h =
      let first = first_row k all r rs e in
      let right = parent_right k path first.2 c (h k first.2) in
      (rw first.0 at right, of_parents (suc k) (path_of k r path) rs first.1 (subst (λ q. PathAt (suc k) (path_of k q path)) first.0 (path_next k path first.2 c right)) h)

  pub parents_are : Parents 0 [] all ↔ ((i : ℕ) → i < length all → RightParent all i)
  parents_are = (λ w i b. parents_of_lem 0 [] all refl refl w i (omega arith) b, of_parents 0 [] all refl refl)
