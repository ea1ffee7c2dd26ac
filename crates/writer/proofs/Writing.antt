-- The writer's answer and its output, by the tests that it makes.
use Prim.Native.Nat.{ℕ, ◌%◌, ◌≤◌, min}
use native.Mathlib.Omega.{arith}
use native.Mathlib.Nat.{min-eq_left}
use mathlib.Core.Path.{◌≡◌, ap, sym, ◌∙◌}
use mathlib.Core.Bool.{true, false, and-eq-true_iff}
use mathlib.Core.List.{List}
use lib.Dec.{eqb, leb}
use lib.ListN.{length}
use borrow.Author.Tests.{leb-true, ne_eqb, le-ltb}
use Rattle.table.specs.declared.Row.{Row}
use Rattle.table.specs.Table.{rows_at, row_count, is_plan}
use Rattle.base.specs.Refusals.{Refusal}
use Rattle.base.proofs.Refusals.{is_refused}
use Rattle.plan.specs.Plan.{plan_refusal}
use Rattle.emit.specs.Emission.{Written}
use Rattle.emit.specs.Emission.{refused_writing, writing_done, file_bytes, emission, output_left, output_of}
use Rattle.writer.specs.Writer.{plan_rows, written_of, output_after}

pub count_few : (plan : List ℕ) → is_plan plan ≡ true → row_count plan ≤ 1024
count_few plan e = leb-true (row_count plan) 1024 ((and-eq-true_iff (eqb (length plan % 8) 0) (leb (row_count plan) 1024)).0 e).1

-- a refusal leaves the output
pub left_alone : (n : ℕ) (bytes out : List ℕ) → (n ≡ 0 → ⊥) → out ≡ output_left n bytes out
unfolding output_left
left_alone n bytes out h = rw (ne_eqb n 0 h)

-- a right plan is emitted
pub goes_on : (plan s : List ℕ) (flags room : ℕ) → is_plan plan ≡ true → (plan_refusal s (plan_rows plan)).number ≡ 0
    → written_of plan s flags room ≡ emission flags s (plan_rows plan) room
unfolding written_of
goes_on plan s flags room t h = rw (t, h)

pub emission_done : (flags : ℕ) (s : List ℕ) (rs : List Row) (room n : ℕ) → length (file_bytes flags s rs) ≡ n → n ≤ 16777216 → n ≤ room → emission flags s rs room ≡ writing_done n
unfolding emission
emission_done flags s rs room n e h k = rw (e, le-ltb 16777216 n h, le-ltb room n k)

module _ (plan s : List ℕ) (flags : ℕ) (out : List ℕ) where
  abbrev Answers : Written → (last : List ℕ) → Type 0
  Answers w last = (w ≡ written_of plan s flags (length out)) × (last ≡ output_after plan s flags out)

  refuses : (n place : ℕ) → (n ≡ 0 → ⊥) → written_of plan s flags (length out) ≡ refused_writing n place → {w : Written} → w ≡ refused_writing n place → Answers w out
  unfolding output_after
  refuses n place h e f = (f ∙ sym e, left_alone n (file_bytes flags s (plan_rows plan)) out h ∙ ap (λ (v : Written). output_left v.number (file_bytes flags s (plan_rows plan)) out) (sym e))

  pub no_plan_lem : is_plan plan ≡ false → {w : Written} → w ≡ refused_writing 20 0 → Answers w out
  unfolding written_of
  no_plan_lem t = refuses 20 0 (λ e. omega (arith, e)) (rw t)

  -- the rows of a plan are at most 1,024
  module _ (t : is_plan plan ≡ true) where
    all_rows : {n : ℕ} → n ≡ row_count plan → rows_at plan 0 (min n 1024) ≡ plan_rows plan
    all_rows e = ap (λ m. rows_at plan 0 (min m 1024)) e ∙ ap (rows_at plan 0) (min-eq_left (count_few plan t))

    put_by : written_of plan s flags (length out) ≡ emission flags s (plan_rows plan) (length out) → output_of flags s (plan_rows plan) out ≡ output_after plan s flags out
    unfolding output_after
    put_by same = ap (λ (v : Written). output_left v.number (file_bytes flags s (plan_rows plan)) out) (sym same)

    module _ {n : ℕ} (e : n ≡ row_count plan) {j : Refusal} (f : j ≡ plan_refusal s (rows_at plan 0 (min n 1024))) where
      is_judged_lem : j ≡ plan_refusal s (plan_rows plan)
      is_judged_lem = f ∙ ap (plan_refusal s) (all_rows e)

      pub bad_row : (j.number ≡ 0 → ⊥) → {w : Written} → w ≡ refused_writing j.number j.place → Answers w out
      unfolding written_of
      bad_row h = refuses j.number j.place h (rw (t, ← is_judged_lem) (is_refused j.number (refused_writing j.number j.place) _ h))

      pub emitted : j.number ≡ 0 → {m : ℕ} → m ≡ row_count plan → {w : Written} {last : List ℕ} → w ≡ emission flags s (rows_at plan 0 (min m 1024)) (length out)
          → last ≡ output_of flags s (rows_at plan 0 (min m 1024)) out → Answers w last
      emitted h c g k =
          let same = goes_on plan s flags (length out) t (ap (λ (i : Refusal). i.number) (sym is_judged_lem) ∙ h) in (
            g ∙ ap (λ rs. emission flags s rs (length out)) (all_rows c) ∙ sym same,
            k ∙ ap (λ rs. output_of flags s rs out) (all_rows c) ∙ put_by same,
          )
