-- Which plans are written, as propositions by the plan's rows alone, with no number, place or order. Document 01: "20 plan length
-- not a multiple of 8 or over 1,024 rows; then by row: 21 parent wrong (none exactly for Root; else an earlier known row that is
-- the previous row or an ancestor of it), 22 body end before its start or past the source, 23 a known row's body is not exactly
-- its count (at most 64) of properties by the rules of 9 to 11, 24 a known row's child count is not the rows naming it; then 25
-- length over 16,777,216, 26 output too short." None of the tests and counts of the definitions that judge and emit (those of
-- `plan` and `emit`) is used here.
use Rattle.std.specs.Prelude.{ℕ, zero, suc, ◌+◌, ◌*◌, ◌^◌, ◌≤◌, ◌<◌, ◌≡◌, ◌⊎◌, ◌↔◌, true, length, get_or}
use Rattle.std.proofs.Math.Decide.{ℕ_discrete}
use mathlib.Core.List.{List, filter}
use Rattle.base.specs.Limits.{most_bytes, most_rows}
use Rattle.le.specs.Le.{AreBytes}
use Rattle.kinds.specs.Kinds.{root, is_known}
use Rattle.table.specs.declared.Row.{Row}
use Rattle.table.specs.Table.{no_parent, blank, flat}
use Rattle.format.specs.Forest.{file_of}
use Rattle.format.specs.Rows.{rows_of, body_of, all_own_bytes}
use Rattle.format.specs.Layout.{GoodBody, InBytes, WellFormedFile, Few}
use Rattle.writer.specs.Writer.{plan_rows, written_of}
use Rattle.writer.specs.Forest.{forest_of, laid_out}
use Rattle.writer.specs.RoundTrip.{AreNumbers}

-- row k of some rows, counted from 0; nothing below asks for one past the last
abbrev pub nth_row : List Row → (k : ℕ) → Row
nth_row rows k = get_or rows k blank

abbrev pub IsKnown : Row → Type 0
IsKnown r = is_known r.kind ≡ true

-- ---- 21

-- row i is an ancestor of row j when it is row j's parent, or an ancestor of row j's parent
pub data Ancestor (rows : List Row) (i : ℕ) : (j : ℕ) → Type 0 where
  nearest : {j : ℕ} → j < length rows → (nth_row rows j).parent ≡ i → Ancestor rows i j
  higher : {j : ℕ} → j < length rows → Ancestor rows i (nth_row rows j).parent → Ancestor rows i j

-- of row k, row p is "the previous row or an ancestor of it"; row 0 has no previous row
abbrev pub Near : List Row → (k p : ℕ) → Type 0
Near rows zero p = ⊥
Near rows (suc previous) p = (p ≡ previous) ⊎ Ancestor rows p previous

-- of row k, row p is "an earlier known row that is the previous row or an ancestor of it"
pub record MayHold (rows : List Row) (k p : ℕ) : Type 0 where
  pub earlier : p < k
  pub known : IsKnown (nth_row rows p)
  pub near : Near rows k p

-- "none exactly for Root; else" such a row
pub record RightParent (rows : List Row) (k : ℕ) : Type 0 where
  pub none : ((nth_row rows k).kind ≡ root) ↔ ((nth_row rows k).parent ≡ no_parent)
  pub other : ((nth_row rows k).kind ≡ root → ⊥) → MayHold rows k (nth_row rows k).parent

-- ---- 21 to 24 of row k

-- "the rows naming it": those whose parent is row k
abbrev pub rows_naming : List Row → (k : ℕ) → List Row
rows_naming rows k = filter (λ (r : Row). ℕ_discrete r.parent k) rows

pub record RightRow (s : List ℕ) (rows : List Row) (k : ℕ) : Type 0 where
  -- not 21: "parent wrong"
  pub parent : RightParent rows k
  -- not 22: "body end before its start or past the source"
  pub within : InBytes s (nth_row rows k)
  -- not 23: "a known row's body is not exactly its count (at most 64) of properties"
  pub body : IsKnown (nth_row rows k) → GoodBody (nth_row rows k).properties (body_of s (nth_row rows k))
  -- not 24: "a known row's child count is not the rows naming it"
  pub children : IsKnown (nth_row rows k) → (nth_row rows k).children ≡ length (rows_naming rows k)

-- ---- 20 to 26
pub record Writable (plan s : List ℕ) (room : ℕ) : Type 0 where
  -- not 20: "plan length not a multiple of 8 or over 1,024 rows"
  pub count : ℕ
  pub whole : length plan ≡ 8 * count
  pub few : count ≤ most_rows
  -- not 21 to 24
  pub right : (k : ℕ) → k < count → RightRow s (plan_rows plan) k
  -- not 25, "length over 16,777,216", and not 26, "output too short": the file header and the rows' own bytes
  pub short : 16 + all_own_bytes (plan_rows plan) ≤ most_bytes
  pub fits : 16 + all_own_bytes (plan_rows plan) ≤ room

-- a plan is written exactly when none of 20 to 26 is given, whatever its numbers and the flags are
abbrev pub WritesExactly : Type 0
WritesExactly = (plan s : List ℕ) (flags room : ℕ) → AreBytes s → (((written_of plan s flags room).number ≡ 0) ↔ Writable plan s room)

-- ---- what a plan's rows are: all of its numbers, eight by eight
abbrev pub RowsOfThePlan : Type 0
RowsOfThePlan = (plan : List ℕ) (count : ℕ) → length plan ≡ 8 * count → (length (plan_rows plan) ≡ count) × (flat (plan_rows plan) ≡ plan)

-- ---- what follows: the rows of such a plan are those of its forest, which is well-formed and as long as they say
pub record Described (plan s : List ℕ) (flags : ℕ) : Type 0 where
  pub rows : rows_of (forest_of s (plan_rows plan)) ≡ laid_out 16 (plan_rows plan)
  pub well_formed : WellFormedFile flags (forest_of s (plan_rows plan))
  pub few : Few (forest_of s (plan_rows plan))
  pub size : length (file_of flags (forest_of s (plan_rows plan))) ≡ 16 + all_own_bytes (plan_rows plan)

abbrev pub WritableEncodes : Type 0
WritableEncodes = (plan s : List ℕ) (flags room : ℕ) → AreNumbers plan → AreBytes s → flags < 256 ^ 4 → Writable plan s room
    → Described plan s flags
