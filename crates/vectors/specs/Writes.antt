-- The functions 34 and 35: the writer, and its two parts.
use Rattle.std.specs.Prelude.{ℕ, ◌/◌, ◌%◌, min, cond, List, [], ◌∷◌, eqb, ltb, length}
use Rattle.base.specs.Limits.{most_rows}
use Rattle.table.specs.declared.Row.{Row}
use Rattle.table.specs.Table.{rows_at}
use Rattle.plan.specs.Plan.{plan_refusal}
use Rattle.emit.specs.Emission.{Written, emission, output_of}
use Rattle.writer.specs.Writer.{written_of, output_after}
use Rattle.vectors.specs.declared.frame.Frame.{Frame}
use Rattle.vectors.specs.Buffers.{numbers_in}

abbrev pub written_numbers : Written → List ℕ
written_numbers w = w.number ∷ w.place ∷ w.length ∷ []

-- ---- 35: the first rows of a table, at most 1,024, judged as a plan and then emitted; what is refused is not emitted, and
-- zeros stand for that answer

abbrev pub first_of : (plan : List ℕ) (n : ℕ) → List Row
first_of plan n = rows_at plan 0 (min n most_rows)

unfoldable pub parts_numbers : (plan : List ℕ) (n flags : ℕ) (s : List ℕ) (room : ℕ) → List ℕ
parts_numbers plan n flags s room =
    let rows = first_of plan n in
    let wrong = plan_refusal s rows in
    wrong.number ∷ wrong.place ∷
    cond (eqb wrong.number 0) (written_numbers (emission flags s rows room)) (0 ∷ 0 ∷ 0 ∷ [])

unfoldable pub parts_output : (plan : List ℕ) (n flags : ℕ) (s out : List ℕ) → List ℕ
parts_output plan n flags s out =
    let rows = first_of plan n in
    cond (eqb (plan_refusal s rows).number 0) (output_of flags s rows out) out

-- ---- 34, whose flags are x; and every other number as 35, whose rows are the first x, and whose flags are the seed

unfoldable pub plan_numbers : Frame → (s plan : List ℕ) (room : ℕ) → List ℕ
plan_numbers f s plan room =
    cond (eqb f.function 34) (written_numbers (written_of plan s (f.x % 4294967296) room))
    (parts_numbers plan f.x f.seed s room)

unfoldable pub plan_output : Frame → (s plan out : List ℕ) → List ℕ
plan_output f s plan out =
    cond (eqb f.function 34) (output_after plan s (f.x % 4294967296) out)
    (parts_output plan f.x f.seed s out)

-- the plan's numbers are a block; one over 8,300 numbers is not lent
unfoldable pub write_numbers : Frame → (s block : List ℕ) (room : ℕ) → List ℕ
write_numbers f s block room =
    cond (ltb 8300 (length block / 4)) [] (plan_numbers f s (numbers_in block (length block / 4)) room)

unfoldable pub write_output : Frame → (s block out : List ℕ) → List ℕ
write_output f s block out =
    cond (ltb 8300 (length block / 4)) out (plan_output f s (numbers_in block (length block / 4)) out)
