-- Document 01's writer, "from plan rows, source bytes and flags: 20 plan length not a multiple of 8 or over 1,024 rows; then by
-- row: 21 ... 24 ...; then 25 ..., 26 ...". "The place is the row for these [21 to 24]. A refusal answers length 0 and leaves the
-- output; success leaves what lies past the length."
use Rattle.std.specs.Prelude.{ℕ, cond, List, length}
use Rattle.base.specs.Refusals.{refused_or}
use Rattle.table.specs.declared.Row.{Row}
use Rattle.table.specs.Table.{rows_at, row_count, is_plan}
use Rattle.plan.specs.Plan.{plan_refusal}
use Rattle.emit.specs.Emission.{Written}
use Rattle.emit.specs.Emission.{refused_writing, file_bytes, emission, output_left}

-- the rows of a plan's numbers
abbrev pub plan_rows : List ℕ → List Row
plan_rows plan = rows_at plan 0 (row_count plan)

-- 20 to 26
unfoldable pub written_of : (plan s : List ℕ) (flags room : ℕ) → Written
written_of plan s flags room =
    let rows = plan_rows plan in
    let wrong = plan_refusal s rows in
    cond (is_plan plan) (refused_or wrong.number (refused_writing wrong.number wrong.place) (emission flags s rows room)) (refused_writing 20 0)

unfoldable pub output_after : (plan s : List ℕ) (flags : ℕ) (out : List ℕ) → List ℕ
output_after plan s flags out = output_left (written_of plan s flags (length out)).number (file_bytes flags s (plan_rows plan)) out
