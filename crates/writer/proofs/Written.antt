-- What is known of a plan that is written.
use Prim.Native.Nat.{ℕ, zero, suc, ◌+◌, ◌≤◌}
use native.Mathlib.Omega.{arith}
use mathlib.Core.Path.{◌≡◌, refl, ◌∙◌}
use mathlib.Core.Bool.{true}
use mathlib.Core.List.{List}
use lib.Dec.{ltb}
use lib.ListN.{length}
use borrow.Author.Tests.{ltb-false}
use Rattle.base.specs.Refusals.{refused_or}
use Rattle.base.proofs.Tests.{by_test}
use Rattle.table.specs.Table.{has_row, row_at, rows_at, row_count, is_plan}
use Rattle.base.specs.Lists.{Each}
use Rattle.plan.specs.Plan.{plan_refusal}
use Rattle.emit.specs.Emission.{Written}
use Rattle.emit.specs.Emission.{refused_writing, writing_done, by_length, file_bytes, emission}
use Rattle.table.proofs.Rests.{length_rows_at}
use Rattle.reader.proofs.Whole.{each_rows}
use Rattle.writer.specs.Writer.{plan_rows, written_of}
use Rattle.writer.specs.RoundTrip.{AreNumbers}
use Rattle.writer.proofs.Plans.{Wide}
use Rattle.writer.proofs.Writing.{count_few}

abbrev pub number : Written → ℕ
number w = w.number

by_zero : (n place : ℕ) (next : Written) → (refused_or n (refused_writing n place) next).number ≡ 0
    → (n ≡ 0) × (next.number ≡ 0) × (refused_or n (refused_writing n place) next ≡ next)
by_zero zero place next e = (refl, e, refl)
by_zero (suc n) place next e = absurd (omega (arith, e))

pub by_length_lem : (n room : ℕ) → (by_length n room).number ≡ 0 → (n ≤ 16777216) × (n ≤ room) × (by_length n room ≡ writing_done n)
by_length_lem n room e =
    by_test (ltb 16777216 n)
    (λ t. absurd (omega (arith, rw t at e)))
    (λ t. by_test (ltb room n) (λ u. absurd (omega (arith, rw (t, u) at e))) (λ u. (ltb-false 16777216 n t, ltb-false room n u, rw (t, u))))

pub record Passed (plan s : List ℕ) (flags room : ℕ) : Type 0 where
  pub whole : is_plan plan ≡ true
  pub right : (plan_refusal s (plan_rows plan)).number ≡ 0
  pub short : length (file_bytes flags s (plan_rows plan)) ≤ 16777216
  pub fits : length (file_bytes flags s (plan_rows plan)) ≤ room
  pub is : written_of plan s flags room ≡ writing_done (length (file_bytes flags s (plan_rows plan)))

pub written_right : (plan s : List ℕ) (flags room : ℕ) → (written_of plan s flags room).number ≡ 0 → Passed plan s flags room
unfolding written_of emission
written_right plan s flags room e =
    by_test (is_plan plan)
    (λ t.
    let j = plan_refusal s (plan_rows plan) in
    let n = length (file_bytes flags s (plan_rows plan)) in
    let parts = by_zero j.number j.place (by_length n room) (rw t at e) in
    let size = by_length_lem n room parts.1 in
    record { whole = t; right = parts.0; short = size.0; fits = size.1; is = rw t (parts.2 ∙ size.2) })
    (λ t. absurd (omega (arith, rw t at e)))

-- ---- the rows of a plan
pub rows_few : (plan : List ℕ) → is_plan plan ≡ true → length (plan_rows plan) ≤ 1024
rows_few plan e = omega (arith, count_few plan e, length_rows_at plan 0 (row_count plan))

pub wide_rows : (plan : List ℕ) (k n : ℕ) → AreNumbers plan → Each Wide (rows_at plan k n)
unfolding row_at
wide_rows plan k n h = each_rows Wide plan k n (λ i b. wide_row (k + i))
  where
    wide_row : (i : ℕ) → Wide (row_at plan i)
    wide_row i =
        by_test (has_row plan i)
        (λ t. rw t (record { kind = h _; low = h _; high = h _; properties = h _; children = h _ }))
        (λ t. rw t (record { kind = omega arith; low = omega arith; high = omega arith; properties = omega arith; children = omega arith }))
