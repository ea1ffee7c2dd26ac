-- What a writing answers and leaves, by the plan's rows: document 01's "A refusal answers length 0 and leaves the output; success
-- leaves what lies past the length"; and 20 to 26, each exactly, with its place: "All of 21 to 24 are judged for one row before the
-- next. The place is the row for these."
use Rattle.std.specs.Prelude.{ℕ, ◌+◌, ◌*◌, ◌≤◌, ◌<◌, ◌≡◌, ◌⊎◌, ◌↔◌, List, ◌++◌, length, drop}
use Rattle.base.specs.Limits.{most_bytes, most_rows}
use Rattle.le.specs.Le.{AreBytes}
use Rattle.table.specs.declared.Row.{Row}
use Rattle.format.specs.Forest.{file_of}
use Rattle.format.specs.Rows.{body_of, all_own_bytes}
use Rattle.format.specs.Layout.{GoodBody, InBytes}
use Rattle.emit.specs.Emission.{refused_writing, writing_done}
use Rattle.writer.specs.Writer.{plan_rows, written_of, output_after}
use Rattle.writer.specs.Forest.{forest_of}
use Rattle.writer.specs.Writable.{nth_row, IsKnown, RightParent, rows_naming, RightRow, Writable}

-- ---- the output

-- "success leaves what lies past the length": of a plan that is written, the answer is number 0, place 0 and the length of the file,
-- and the output is the file of the plan's forest, then what lay past that length; whatever the plan's numbers and the flags are
abbrev pub Writes : Type 0
Writes = (plan s : List ℕ) (flags : ℕ) (out : List ℕ) → AreBytes s → Writable plan s (length out)
    → let size = 16 + all_own_bytes (plan_rows plan) in
    (written_of plan s flags (length out) ≡ writing_done size)
    × (output_after plan s flags out ≡ file_of flags (forest_of s (plan_rows plan)) ++ drop size out)

-- "A refusal answers length 0 and leaves the output": of any other plan, the number is not 0
abbrev pub Refuses : Type 0
Refuses = (plan s : List ℕ) (flags : ℕ) (out : List ℕ) → AreBytes s → (Writable plan s (length out) → ⊥)
    → ((written_of plan s flags (length out)).number ≡ 0 → ⊥) × ((written_of plan s flags (length out)).length ≡ 0) × (output_after plan s flags out ≡ out)

-- ---- the numbers

-- not 20: "plan length not a multiple of 8 or over 1,024 rows"
pub record IsPlan (plan : List ℕ) : Type 0 where
  pub count : ℕ
  pub whole : length plan ≡ 8 * count
  pub few : count ≤ most_rows

-- not 23 and not 24, each as a field of `RightRow` has it; not 21 is `RightParent`, not 22 `InBytes`
abbrev pub RightBody : (s : List ℕ) → Row → Type 0
RightBody s r = IsKnown r → GoodBody r.properties (body_of s r)

abbrev pub RightChildren : List Row → (k : ℕ) → Type 0
RightChildren rows k = IsKnown (nth_row rows k) → (nth_row rows k).children ≡ length (rows_naming rows k)

-- row k is judged: 20 is not given, and the rows before it are right
pub record Reaches (plan s : List ℕ) (k : ℕ) : Type 0 where
  pub whole : IsPlan plan
  pub there : k < length (plan_rows plan)
  pub earlier : (j : ℕ) → j < k → RightRow s (plan_rows plan) j

-- none of 20 to 24 is given
pub record AllRight (plan s : List ℕ) : Type 0 where
  pub whole : IsPlan plan
  pub right : (k : ℕ) → k < length (plan_rows plan) → RightRow s (plan_rows plan) k

-- the whole answer, number, place and length, by a plan's rows and by `size`, the file header and the rows' own bytes: each number is
-- given exactly when none before it is and its own words hold
pub record WriterAnswers (plan s : List ℕ) (flags room : ℕ) (rows : List Row) (size : ℕ) : Type 0 where
  -- 20
  pub no_plan : (written_of plan s flags room ≡ refused_writing 20 0) ↔ (IsPlan plan → ⊥)
  -- 21 to 24: "The place is the row for these."
  pub parent : (k : ℕ) → (written_of plan s flags room ≡ refused_writing 21 k) ↔ (Reaches plan s k × (RightParent rows k → ⊥))
  pub outside : (k : ℕ)
      → (written_of plan s flags room ≡ refused_writing 22 k)
      ↔ (Reaches plan s k × RightParent rows k × (InBytes s (nth_row rows k) → ⊥))
  pub body : (k : ℕ)
      → (written_of plan s flags room ≡ refused_writing 23 k)
      ↔ (Reaches plan s k × RightParent rows k × InBytes s (nth_row rows k) × (RightBody s (nth_row rows k) → ⊥))
  pub children : (k : ℕ)
      → (written_of plan s flags room ≡ refused_writing 24 k)
      ↔ (Reaches plan s k × RightParent rows k × InBytes s (nth_row rows k) × RightBody s (nth_row rows k) × (RightChildren rows k → ⊥))
  -- "then 25 length over 16,777,216, 26 output too short"
  pub too_long : (written_of plan s flags room ≡ refused_writing 25 0) ↔ (AllRight plan s × (most_bytes < size))
  pub no_room : (written_of plan s flags room ≡ refused_writing 26 0) ↔ (AllRight plan s × (size ≤ most_bytes) × (room < size))
  -- and none of them
  pub written : (written_of plan s flags room ≡ writing_done size) ↔ Writable plan s room
  -- there is no other answer
  pub one :
      (written_of plan s flags room ≡ refused_writing 20 0)
      ⊎ (((k n : ℕ) × (21 ≤ n) × (n ≤ 24) × (written_of plan s flags room ≡ refused_writing n k))
      ⊎ ((written_of plan s flags room ≡ refused_writing 25 0)
      ⊎ ((written_of plan s flags room ≡ refused_writing 26 0)
      ⊎ (written_of plan s flags room ≡ writing_done size))))

-- of any plan, any source bytes, any flags and any room; places are 0 but for 21 to 24
abbrev pub AnswersExactly : Type 0
AnswersExactly = (plan s : List ℕ) (flags room : ℕ) → AreBytes s → WriterAnswers plan s flags room (plan_rows plan) (16 + all_own_bytes (plan_rows plan))
