-- The numbers of the writer's answers, each exactly, with its place.
use Prim.Native.Nat.{ℕ, ◌+◌, ◌≤◌, ◌<◌}
use native.Mathlib.Omega.{arith}
use mathlib.Core.Path.{◌≡◌, refl, ap, sym, subst, ◌∙◌}
use mathlib.Core.Logic.{◌⊎◌, inl, inr}
use mathlib.Core.Bool.{true, true≢false}
use mathlib.Core.List.{List}
use lib.Dec.{ltb}
use lib.ListN.{length}
use borrow.Author.Tests.{ltb-true, ltb-false}
use Rattle.le.specs.Le.{AreBytes}
use Rattle.base.proofs.Tests.{by_test}
use Rattle.table.specs.declared.Row.{Row}
use Rattle.table.specs.Table.{row_count, is_plan}
use Rattle.base.specs.Refusals.{Refusal}
use Rattle.base.proofs.Refusals.{is_refused}
use Rattle.plan.specs.Plan.{plan_refusal}
use Rattle.format.specs.Rows.{all_own_bytes}
use Rattle.emit.specs.Emission.{Written}
use Rattle.emit.specs.Emission.{refused_writing, writing_done, by_length, file_bytes, emission}
use Rattle.writer.specs.Writer.{plan_rows, written_of}
use Rattle.writer.specs.Answers.{IsPlan, Reaches, AllRight, WriterAnswers, AnswersExactly}
use Rattle.format.specs.Layout.{InBytes}
use Rattle.writer.proofs.Writing.{count_few, goes_on}
use Rattle.writer.proofs.Written.{number, rows_few}
use Rattle.writer.proofs.First.{Told, told_range, told_wrong, told_21, told_22, told_23, told_24, told_first, First, first_wrong}
use Rattle.writer.proofs.Answers.{is_done}
use Rattle.writer.proofs.Writable.{at_each, file_long, whole_plan, plan_is, writes_exactly}

-- ---- 20
is_a_plan : (plan : List ℕ) → is_plan plan ≡ true → IsPlan plan
is_a_plan plan t = record { count = row_count plan; whole = whole_plan plan t; few = count_few plan t }

-- ---- what is answered, and why
module _ (plan s : List ℕ) (flags room : ℕ) (source : AreBytes s) where
  abbrev rs : List Row
  rs = plan_rows plan

  abbrev size : ℕ
  size = 16 + all_own_bytes rs

  abbrev answer : Written
  answer = written_of plan s flags room

  abbrev Outcome : Type 0
  Outcome =
      ((IsPlan plan → ⊥) × (answer ≡ refused_writing 20 0))
      ⊎ (((k n : ℕ) × Reaches plan s k × Told s rs k n × (answer ≡ refused_writing n k))
      ⊎ ((AllRight plan s × (16777216 < size) × (answer ≡ refused_writing 25 0))
      ⊎ ((AllRight plan s × (size ≤ 16777216) × (room < size) × (answer ≡ refused_writing 26 0))
      ⊎ (AllRight plan s × (size ≤ 16777216) × (size ≤ room) × (answer ≡ writing_done size)))))

  by_size : AllRight plan s → answer ≡ by_length size room → Outcome
  by_size a e =
      by_test (ltb 16777216 size)
      (λ t. inr (inr (inl (a, ltb-true 16777216 size t, e ∙ rw t))))
      (λ t.
      by_test (ltb room size)
      (λ u. inr (inr (inr (inl (a, ltb-false 16777216 size t, ltb-true room size u, e ∙ rw (t, u))))))
      (λ u. inr (inr (inr (inr (a, ltb-false 16777216 size t, ltb-false room size u, e ∙ rw (t, u)))))))

  by_rows : (t : is_plan plan ≡ true) → First s rs (rows_few plan t) source (plan_refusal s rs) → Outcome
  unfolding written_of emission
  by_rows t (inl x) =
      let long-is : length (file_bytes flags s rs) ≡ size = file_long flags s rs (at_each (InBytes s) rs (λ k b. (x.1 k b).within)) in
      let none : (plan_refusal s rs).number ≡ 0 = ap (λ (j : Refusal). j.number) x.0 in
      by_size (record { whole = is_a_plan plan t; right = x.1 }) (goes_on plan s flags room t none ∙ ap (λ n. by_length n room) long-is)
  by_rows t (inr (k, n, e, b, h, told)) =
      let range = told_range s rs k n told in
      inr (inl (k, n, record { whole = is_a_plan plan t; there = b; earlier = h }, told, rw (t, e) (is_refused n (refused_writing n k) _ (λ z. omega (arith, z, range.0)))))

  outcome : Outcome
  unfolding written_of
  outcome =
      by_test (is_plan plan)
      (λ t. by_rows t (first_wrong s rs (rows_few plan t) source))
      (λ t. inl (λ p. true≢false (sym (plan_is plan p.count p.whole p.few) ∙ t), rw t))

  -- ---- two answers are one
  same_number_lem : {w v : Written} → answer ≡ w → answer ≡ v → w.number ≡ v.number
  same_number_lem e f = ap number (sym e ∙ f)

  same_place : {w v : Written} → answer ≡ w → answer ≡ v → w.place ≡ v.place
  same_place e f = ap (λ (x : Written). x.place) (sym e ∙ f)

  -- ---- 20
  from_20 : Outcome → answer ≡ refused_writing 20 0 → IsPlan plan → ⊥
  from_20 (inl x) e = x.0
  from_20 (inr (inl (k, n, r, told, f))) e = absurd (omega (arith, (told_range s rs k n told).0, same_number_lem f e))
  from_20 (inr (inr (inl x))) e = absurd (omega (arith, same_number_lem x.2 e))
  from_20 (inr (inr (inr (inl x)))) e = absurd (omega (arith, same_number_lem x.3 e))
  from_20 (inr (inr (inr (inr x)))) e = absurd (omega (arith, same_number_lem x.3 e))

  to_20 : Outcome → (IsPlan plan → ⊥) → answer ≡ refused_writing 20 0
  to_20 (inl x) h = x.1
  to_20 (inr (inl (k, n, r, told, f))) h = absurd (h r.whole)
  to_20 (inr (inr (inl x))) h = absurd (h x.0.whole)
  to_20 (inr (inr (inr (inl x)))) h = absurd (h x.0.whole)
  to_20 (inr (inr (inr (inr x)))) h = absurd (h x.0.whole)

  -- ---- 21 to 24
  from_row : (n k : ℕ) → 21 ≤ n → n ≤ 24 → Outcome → answer ≡ refused_writing n k → Reaches plan s k × Told s rs k n
  from_row n k a b (inl x) e = absurd (omega (arith, a, same_number_lem x.1 e))
  from_row n k a b (inr (inl (j, m, r, told, f))) e =
      (subst (Reaches plan s) (same_place f e) r, subst (λ i. Told s rs i n) (same_place f e) (subst (Told s rs j) (same_number_lem f e) told))
  from_row n k a b (inr (inr (inl x))) e = absurd (omega (arith, b, same_number_lem x.2 e))
  from_row n k a b (inr (inr (inr (inl x)))) e = absurd (omega (arith, b, same_number_lem x.3 e))
  from_row n k a b (inr (inr (inr (inr x)))) e = absurd (omega (arith, a, same_number_lem x.3 e))

  to_row : (n k : ℕ) → Outcome → Reaches plan s k → Told s rs k n → answer ≡ refused_writing n k
  to_row n k (inl x) r told = absurd (x.0 r.whole)
  to_row n k (inr (inl (j, m, q, other, f))) r told =
      let same = told_first s rs j k m n q.earlier other r.earlier told in
      f ∙ ap (refused_writing m) same.0 ∙ ap (λ i. refused_writing i k) same.1
  to_row n k (inr (inr (inl x))) r told = absurd (told_wrong s rs k n told (x.0.right k r.there))
  to_row n k (inr (inr (inr (inl x)))) r told = absurd (told_wrong s rs k n told (x.0.right k r.there))
  to_row n k (inr (inr (inr (inr x)))) r told = absurd (told_wrong s rs k n told (x.0.right k r.there))

  -- ---- 25 and 26
  from_25 : Outcome → answer ≡ refused_writing 25 0 → AllRight plan s × (16777216 < size)
  from_25 (inl x) e = absurd (omega (arith, same_number_lem x.1 e))
  from_25 (inr (inl (k, n, r, told, f))) e = absurd (omega (arith, (told_range s rs k n told).1, same_number_lem f e))
  from_25 (inr (inr (inl x))) e = (x.0, x.1)
  from_25 (inr (inr (inr (inl x)))) e = absurd (omega (arith, same_number_lem x.3 e))
  from_25 (inr (inr (inr (inr x)))) e = absurd (omega (arith, same_number_lem x.3 e))

  to_25 : Outcome → AllRight plan s → 16777216 < size → answer ≡ refused_writing 25 0
  to_25 (inl x) a h = absurd (x.0 a.whole)
  to_25 (inr (inl (k, n, r, told, f))) a h = absurd (told_wrong s rs k n told (a.right k r.there))
  to_25 (inr (inr (inl x))) a h = x.2
  to_25 (inr (inr (inr (inl x)))) a h = absurd (omega (arith, h, x.1))
  to_25 (inr (inr (inr (inr x)))) a h = absurd (omega (arith, h, x.1))

  from_26 : Outcome → answer ≡ refused_writing 26 0 → AllRight plan s × (size ≤ 16777216) × (room < size)
  from_26 (inl x) e = absurd (omega (arith, same_number_lem x.1 e))
  from_26 (inr (inl (k, n, r, told, f))) e = absurd (omega (arith, (told_range s rs k n told).1, same_number_lem f e))
  from_26 (inr (inr (inl x))) e = absurd (omega (arith, same_number_lem x.2 e))
  from_26 (inr (inr (inr (inl x)))) e = (x.0, x.1, x.2)
  from_26 (inr (inr (inr (inr x)))) e = absurd (omega (arith, same_number_lem x.3 e))

  to_26 : Outcome → AllRight plan s → size ≤ 16777216 → room < size → answer ≡ refused_writing 26 0
  to_26 (inl x) a h g = absurd (x.0 a.whole)
  to_26 (inr (inl (k, n, r, told, f))) a h g = absurd (told_wrong s rs k n told (a.right k r.there))
  to_26 (inr (inr (inl x))) a h g = absurd (omega (arith, h, x.1))
  to_26 (inr (inr (inr (inl x)))) a h g = x.3
  to_26 (inr (inr (inr (inr x)))) a h g = absurd (omega (arith, g, x.2))

  abbrev One : Type 0
  One =
      (answer ≡ refused_writing 20 0)
      ⊎ (((k n : ℕ) × (21 ≤ n) × (n ≤ 24) × (answer ≡ refused_writing n k)) ⊎ ((answer ≡ refused_writing 25 0) ⊎ ((answer ≡ refused_writing 26 0) ⊎ (answer ≡ writing_done size))))

  one_of_lem : Outcome → One
  one_of_lem (inl x) = inl x.1
  one_of_lem (inr (inl (k, n, r, told, f))) = inr (inl (k, n, (told_range s rs k n told).0, (told_range s rs k n told).1, f))
  one_of_lem (inr (inr (inl x))) = inr (inr (inl x.2))
  one_of_lem (inr (inr (inr (inl x)))) = inr (inr (inr (inl x.3)))
  one_of_lem (inr (inr (inr (inr x)))) = inr (inr (inr (inr x.3)))

  exact : WriterAnswers plan s flags room rs size
  exact = record {
    no_plan = (from_20 outcome, to_20 outcome);
    parent = λ k. (
      λ e. let x = from_row 21 k (omega arith) (omega arith) outcome e in (x.0, told_21 s rs k x.1),
      λ x. to_row 21 k outcome x.0 (inl (refl, x.1)),
    );
    outside = λ k. (
      λ e. let x = from_row 22 k (omega arith) (omega arith) outcome e in let y = told_22 s rs k x.1 in (x.0, y.0, y.1),
      λ x. to_row 22 k outcome x.0 (inr (inl (refl, x.1, x.2))),
    );
    body = λ k. (
      λ e. let x = from_row 23 k (omega arith) (omega arith) outcome e in let y = told_23 s rs k x.1 in (x.0, y.0, y.1, y.2),
      λ x. to_row 23 k outcome x.0 (inr (inr (inl (refl, x.1, x.2, x.3)))),
    );
    children = λ k. (
      λ e. let x = from_row 24 k (omega arith) (omega arith) outcome e in let y = told_24 s rs k x.1 in (x.0, y.0, y.1, y.2, y.3),
      λ x. to_row 24 k outcome x.0 (inr (inr (inr (refl, x.1, x.2, x.3, x.4)))),
    );
    too_long = (from_25 outcome, λ x. to_25 outcome x.0 x.1);
    no_room = (from_26 outcome, λ x. to_26 outcome x.0 x.1 x.2);
    written = (λ e. (writes_exactly plan s flags room source).0 (ap number e), is_done plan s flags room source);
    one = one_of_lem outcome;
  }

pub answers_exactly : AnswersExactly
answers_exactly plan s flags room source = exact plan s flags room source
