-- The first row that is wrong, and which of 21 to 24 it is refused with.
use Prim.Native.Nat.{ℕ, suc, ◌≤◌, ◌<◌}
use native.Mathlib.Omega.{arith}
use mathlib.Core.Path.{◌≡◌, refl, ap, sym, subst, ◌∙◌}
use mathlib.Core.Logic.{◌⊎◌, inl, inr}
use mathlib.Core.Bool.{true≢false}
use mathlib.Core.List.{List, [], ◌∷◌}
use lib.Dec.{eqb, ltb}
use lib.ListN.{length, drop, length-drop}
use borrow.Author.Tests.{eqb-true, eqb-false, ltb-true, ltb-false}
use Rattle.base.proofs.Refusals.{is_refused}
use Rattle.base.specs.Refusals.{refusal, no_refusal, refused_or}
use Rattle.le.specs.Le.{AreBytes}
use Rattle.base.proofs.Tests.{by_test}
use Rattle.kinds.specs.Kinds.{is_known}
use Rattle.table.specs.declared.Row.{Row}
use Rattle.body.specs.Body.{exactly}
use Rattle.format.specs.Rows.{body_of, outside}
use Rattle.base.specs.Refusals.{Refusal}
use Rattle.plan.specs.Plan.{path_of, right_parent, naming, row_refusal, plan_refusal_from, plan_refusal}
use Rattle.writer.specs.Writable.{nth_row, RightParent, RightRow}
use Rattle.format.specs.Layout.{InBytes}
use Rattle.writer.specs.Answers.{RightBody, RightChildren}
use Rattle.format.proofs.Rows.{not_outside, is_inside}
use Rattle.format.proofs.Bodies.{good_exactly, exactly_good}
use Rattle.writer.proofs.Ancestors.{first_row, PathAt, right_parent_lem, parent_right, path_next}
use Rattle.writer.proofs.Plans.{bytes_body}
use Rattle.writer.proofs.Writable.{naming_filter}

-- ---- the number of row k: the first of 21 to 24 that is given
module _ (s : List ℕ) (all : List Row) where
  abbrev pub Told : (k n : ℕ) → Type 0
  Told k n =
      ((n ≡ 21) × (RightParent all k → ⊥))
      ⊎ (((n ≡ 22) × RightParent all k × (InBytes s (nth_row all k) → ⊥))
      ⊎ (((n ≡ 23) × RightParent all k × InBytes s (nth_row all k) × (RightBody s (nth_row all k) → ⊥))
      ⊎ ((n ≡ 24) × RightParent all k × InBytes s (nth_row all k) × RightBody s (nth_row all k) × (RightChildren all k → ⊥))))

  module _ (k : ℕ) where
    pub told_range : (n : ℕ) → Told k n → (21 ≤ n) × (n ≤ 24)
    told_range n (inl a) = (omega (arith, a.0), omega (arith, a.0))
    told_range n (inr (inl a)) = (omega (arith, a.0), omega (arith, a.0))
    told_range n (inr (inr (inl a))) = (omega (arith, a.0), omega (arith, a.0))
    told_range n (inr (inr (inr a))) = (omega (arith, a.0), omega (arith, a.0))

    pub told_wrong : (n : ℕ) → Told k n → RightRow s all k → ⊥
    told_wrong n (inl a) r = a.1 r.parent
    told_wrong n (inr (inl a)) r = a.2 r.within
    told_wrong n (inr (inr (inl a))) r = a.3 r.body
    told_wrong n (inr (inr (inr a))) r = a.4 r.children

    -- a row has one number
    pub told_same : (n m : ℕ) → Told k n → Told k m → n ≡ m
    told_same n m (inl a) (inl b) = a.0 ∙ sym b.0
    told_same n m (inl a) (inr (inl b)) = absurd (a.1 b.1)
    told_same n m (inl a) (inr (inr (inl b))) = absurd (a.1 b.1)
    told_same n m (inl a) (inr (inr (inr b))) = absurd (a.1 b.1)
    told_same n m (inr (inl a)) (inl b) = absurd (b.1 a.1)
    told_same n m (inr (inl a)) (inr (inl b)) = a.0 ∙ sym b.0
    told_same n m (inr (inl a)) (inr (inr (inl b))) = absurd (a.2 b.2)
    told_same n m (inr (inl a)) (inr (inr (inr b))) = absurd (a.2 b.2)
    told_same n m (inr (inr (inl a))) (inl b) = absurd (b.1 a.1)
    told_same n m (inr (inr (inl a))) (inr (inl b)) = absurd (b.2 a.2)
    told_same n m (inr (inr (inl a))) (inr (inr (inl b))) = a.0 ∙ sym b.0
    told_same n m (inr (inr (inl a))) (inr (inr (inr b))) = absurd (a.3 b.3)
    told_same n m (inr (inr (inr a))) (inl b) = absurd (b.1 a.1)
    told_same n m (inr (inr (inr a))) (inr (inl b)) = absurd (b.2 a.2)
    told_same n m (inr (inr (inr a))) (inr (inr (inl b))) = absurd (b.3 a.3)
    told_same n m (inr (inr (inr a))) (inr (inr (inr b))) = a.0 ∙ sym b.0

    -- each by its number
    pub told_21 : Told k 21 → RightParent all k → ⊥
    told_21 (inl a) = a.1
    told_21 (inr (inl a)) = absurd (omega (arith, a.0))
    told_21 (inr (inr (inl a))) = absurd (omega (arith, a.0))
    told_21 (inr (inr (inr a))) = absurd (omega (arith, a.0))

    pub told_22 : Told k 22 → RightParent all k × (InBytes s (nth_row all k) → ⊥)
    told_22 (inl a) = absurd (omega (arith, a.0))
    told_22 (inr (inl a)) = (a.1, a.2)
    told_22 (inr (inr (inl a))) = absurd (omega (arith, a.0))
    told_22 (inr (inr (inr a))) = absurd (omega (arith, a.0))

    pub told_23 : Told k 23 → RightParent all k × InBytes s (nth_row all k) × (RightBody s (nth_row all k) → ⊥)
    told_23 (inl a) = absurd (omega (arith, a.0))
    told_23 (inr (inl a)) = absurd (omega (arith, a.0))
    told_23 (inr (inr (inl a))) = (a.1, a.2, a.3)
    told_23 (inr (inr (inr a))) = absurd (omega (arith, a.0))

    pub told_24 : Told k 24 → RightParent all k × InBytes s (nth_row all k) × RightBody s (nth_row all k) × (RightChildren all k → ⊥)
    told_24 (inl a) = absurd (omega (arith, a.0))
    told_24 (inr (inl a)) = absurd (omega (arith, a.0))
    told_24 (inr (inr (inl a))) = absurd (omega (arith, a.0))
    told_24 (inr (inr (inr a))) = (a.1, a.2, a.3, a.4)

  -- the first wrong row is one
  pub told_first : (j k n m : ℕ) → ((i : ℕ) → i < j → RightRow s all i) → Told j n → ((i : ℕ) → i < k → RightRow s all i) → Told k m → (j ≡ k) × (n ≡ m)
  told_first j k n m f a g b =
      by_test (ltb j k)
      (λ t. absurd (told_wrong j n a (g j (ltb-true j k t))))
      (λ t.
      by_test (ltb k j)
      (λ u. absurd (told_wrong k m b (f k (ltb-true k j u))))
      (λ u.
      let same : j ≡ k = omega (arith, ltb-false j k t, ltb-false k j u) in
      (same, told_same k n m (subst (λ i. Told i n) same a) b)))

module _ (s : List ℕ) (all : List Row) (few : length all ≤ 1024) (source : AreBytes s) where
  -- ---- one row
  abbrev One : (k : ℕ) (path : List ℕ) → Type 0
  One k path =
      let number = row_refusal s path (naming all k) (nth_row all k) in
      ((number ≡ 0) × RightRow s all k) ⊎ ((n : ℕ) × (number ≡ n) × Told s all k n)

  one : (k : ℕ) (path : List ℕ) → k < length all → PathAt all few k path → One k path
  unfolding row_refusal
  one k path b c =
      let r = nth_row all k in
      by_test (right_parent r path)
      (λ p.
      let parent = right_parent_lem all few k path b c p in
      by_test (outside (length s) r)
      (λ o. inr (22, rw (p, o), inr (inl (refl, parent, λ w. true≢false (sym o ∙ is_inside s r w)))))
      (λ o.
      let within = not_outside s r o in
      by_test (is_known r.kind)
      (λ t.
      by_test (exactly (body_of s r) r.properties)
      (λ e.
      let body : RightBody s r = λ u. exactly_good r.properties (body_of s r) (bytes_body s r source) e in
      by_test (eqb r.children (naming all k))
      (λ n. inl (
        rw (p, o, t, e, n),
        record {
          parent = parent;
          within = within;
          body = body;
          children = λ u. eqb-true r.children (naming all k) n ∙ naming_filter all k;
        },
      ))
      (λ n. inr (24, rw (p, o, t, e, n), inr (inr (inr (refl, parent, within, body, λ h. eqb-false r.children (naming all k) n (h t ∙ sym (naming_filter all k))))))))
      (λ e. inr (23, rw (p, o, t, e), inr (inr (inl (refl, parent, within, λ h. true≢false (sym (good_exactly r.properties (body_of s r) (h t)) ∙ e)))))))
      (λ t. inl (
        rw (p, o, t),
        record {
          parent = parent;
          within = within;
          body = λ u. absurd (true≢false (sym u ∙ t));
          children = λ u. absurd (true≢false (sym u ∙ t));
        },
      ))))
      (λ p. inr (21, rw p, inl (refl, λ h. true≢false (sym (parent_right all few k path b c h) ∙ p))))

  -- ---- all rows: each is right, or there is a first one that is not
  abbrev pub First : Refusal → Type 0
  First j =
      ((j ≡ no_refusal) × ((i : ℕ) → i < length all → RightRow s all i))
      ⊎ ((k n : ℕ) × (j ≡ refusal n k) × (k < length all) × ((i : ℕ) → i < k → RightRow s all i) × Told s all k n)

  on : (k : ℕ) (path : List ℕ) (later : Refusal) → k < length all → ((i : ℕ) → i < k → RightRow s all i) → (RightRow s all k → First later) → One k path
      → let number = row_refusal s path (naming all k) (nth_row all k) in First (refused_or number (refusal number k) later)
  on k path later b h next (inl x) = rw x.0 (next x.1)
  on k path later b h next (inr x) = inr (k, x.0, rw x.1 (is_refused x.0 (refusal x.0 k) later (λ z. omega (arith, (told_range s all k x.0 x.2).0))), b, h, x.2)

  one_more : (k : ℕ) → ((i : ℕ) → i < k → RightRow s all i) → RightRow s all k → (i : ℕ) → i < suc k → RightRow s all i
  one_more k h r i b =
      by_test (eqb i k) (λ t. subst (RightRow s all) (sym (eqb-true i k t)) r) (λ t. let other = eqb-false i k t in h i (omega (arith, other, b)))

  from : (k : ℕ) (path : List ℕ) (rs : List Row) → drop k all ≡ rs → PathAt all few k path → ((i : ℕ) → i < k → RightRow s all i)
      → First (plan_refusal_from s all k path rs)
  unfolding plan_refusal_from
  from k path [] e c h = let none = ap length e in inl (refl, λ i b. h i (omega (arith, none, length-drop k all, b)))
  from k path (r ∷ rs) e c h =
      let first = first_row k all r rs e in
      let next : RightRow s all k → First (plan_refusal_from s all (suc k) (path_of k (nth_row all k) path) rs)
      = λ x.
      from (suc k) (path_of k (nth_row all k) path) rs first.1 (path_next all few k path first.2 c (parent_right all few k path first.2 c x.parent)) (one_more k h x) in
      let here = on k path (plan_refusal_from s all (suc k) (path_of k (nth_row all k) path) rs) first.2 h next (one k path first.2 c) in
      subst (λ q. let number = row_refusal s path (naming all k) q in First (refused_or number (refusal number k) (plan_refusal_from s all (suc k) (path_of k q path) rs))) first.0 here

  pub first_wrong : First (plan_refusal s all)
  unfolding plan_refusal
  first_wrong = from 0 [] all refl refl (λ i b. absurd (omega (arith, b)))
