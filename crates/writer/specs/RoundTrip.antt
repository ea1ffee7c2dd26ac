-- Demand 2, second half, as named statements: "Writing an accepted file's rows back from its bytes, with its flags and room in
-- the output, gives the file again; reading a written file that is accepted gives the plan's rows and body bytes, but for where
-- bodies lie." `reading_of` and `table_after` are the contract of `reader::read`, `written_of` and `output_after` that of
-- `writer::write`.
use Rattle.std.specs.Prelude.{ℕ, ◌≤◌, ◌<◌, ◌^◌, ◌≡◌, ◌⊎◌, List, ◌++◌, map, length, get_or, take, drop}
use Rattle.base.specs.Limits.{most_bytes}
use Rattle.le.specs.Le.{AreBytes}
use Rattle.table.specs.Table.{rows_at, row_count, first_rows}
use Rattle.format.specs.Forest.{file_of}
use Rattle.format.specs.Rows.{rows_of, body_of}
use Rattle.format.specs.Layout.{WellFormedFile, Few}
use Rattle.reader.specs.declared.Account.{Account}
use Rattle.reader.specs.Reading.{Accepted, Refused}
use Rattle.reader.specs.Reading.{reading_of, table_after}
use Rattle.emit.specs.Emission.{writing_done}
use Rattle.writer.specs.Writer.{plan_rows, written_of, output_after}
use Rattle.writer.specs.Forest.{forest_of, laid_out}

-- ---- write after read

-- "Writing an accepted file's rows back from its bytes, with its flags and room in the output, gives the file again": whatever
-- the table held, and whatever the output holds
abbrev pub WriteAfterRead : Type 0
WriteAfterRead = (s t out : List ℕ) (a : Account) → AreBytes s → reading_of s t ≡ Accepted a → length s ≤ length out
    → let plan = first_rows (table_after s t) a.nodes in
    (written_of plan s a.flags (length out) ≡ writing_done (length s)) × (output_after plan s a.flags out ≡ s ++ drop (length s) out)

-- ---- a written file

-- numbers of 32 bits, as a plan's are
abbrev pub AreNumbers : List ℕ → Type 0
AreNumbers ns = (i : ℕ) → get_or ns i 0 < 256 ^ 4

-- the file that a plan, a source and flags were written as: the first bytes of the output, as many as the answer says
pub record Wrote (plan s : List ℕ) (flags : ℕ) (file : List ℕ) : Type 0 where
  pub numbers : AreNumbers plan
  pub source : AreBytes s
  pub flag_bits : flags < 256 ^ 4
  pub out : List ℕ
  pub success : written_of plan s flags (length out) ≡ writing_done (length file)
  pub bytes : file ≡ take (length file) (output_after plan s flags out)

-- the file is the encoding of the plan's forest, whose rows are the plan's "but for where bodies lie"; and there each body has
-- the bytes that the plan's row has in the source
pub record Encodes (plan s : List ℕ) (flags : ℕ) (file : List ℕ) : Type 0 where
  pub encoding : file ≡ file_of flags (forest_of s (plan_rows plan))
  pub well_formed : WellFormedFile flags (forest_of s (plan_rows plan))
  pub few : Few (forest_of s (plan_rows plan))
  pub short : length file ≤ most_bytes
  pub rows : rows_of (forest_of s (plan_rows plan)) ≡ laid_out 16 (plan_rows plan)
  pub bodies : map (body_of file) (laid_out 16 (plan_rows plan)) ≡ map (body_of s) (plan_rows plan)

abbrev pub WrittenEncodes : Type 0
WrittenEncodes = (plan s : List ℕ) (flags : ℕ) (file : List ℕ) → Wrote plan s flags file → Encodes plan s flags file

-- ---- read after write

-- "reading a written file that is accepted gives the plan's rows and body bytes, but for where bodies lie", with any table
pub record ReadsBack (plan s : List ℕ) (flags : ℕ) (file t : List ℕ) (a : Account) : Type 0 where
  pub flags_back : a.flags ≡ flags
  pub nodes : a.nodes ≡ row_count plan
  pub rows : rows_at (table_after file t) 0 a.nodes ≡ laid_out 16 (plan_rows plan)
  pub bodies : map (body_of file) (rows_at (table_after file t) 0 a.nodes) ≡ map (body_of s) (plan_rows plan)

abbrev pub ReadAfterWrite : Type 0
ReadAfterWrite = (plan s : List ℕ) (flags : ℕ) (file t : List ℕ) (a : Account) → Wrote plan s flags file → reading_of file t ≡ Accepted a
    → ReadsBack plan s flags file t a

-- a written file is refused only for a short table (1), for kinds that may not stand where they do (6), or by the rules of
-- properties and links (13 to 17): never for its layout, its length or the number of its nodes, nor for depth (8)
abbrev pub FewRefusals : Type 0
FewRefusals = (plan s : List ℕ) (flags : ℕ) (file t : List ℕ) (n place : ℕ) → Wrote plan s flags file → reading_of file t ≡ Refused n place
    → (n ≡ 1) ⊎ ((n ≡ 6) ⊎ ((13 ≤ n) × (n ≤ 17)))
