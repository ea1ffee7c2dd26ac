-- Document 01's trimmer, one trimming of any bytes: "from file, row, table, output: the reader's refusals; 30 no such row; 31 kind
-- is known; 32 output shorter than the new file. Output is untouched and the table cleared as above (untouched on 1). On success
-- the table holds the rows of the new file, the output past its length stays, and that length is answered (0 on refusal)."
use Rattle.std.specs.Prelude.{ℕ, suc, ◌-◌, cond, not, ◌&&◌, List, [], ◌∷◌, eqb, leb, ltb, length, get_or}
use Rattle.kinds.specs.Kinds.{is_known}
use Rattle.table.specs.declared.Row.{Row}
use Rattle.table.specs.Table.{no_parent, blank, cleared}
use Rattle.walk.specs.Walk.{limited, flags_of}
use Rattle.reader.specs.Reading.{Reading}
use Rattle.reader.specs.Reading.{Accepted, Refused}
use Rattle.reader.specs.Reading.{reading_of}
use Rattle.reader.specs.Reading.{table_after as readTable}
use Rattle.emit.specs.Emission.{Written}
use Rattle.emit.specs.Emission.{file_bytes, refused_writing, writing_done, output_left}

-- ---- a row taken out

-- a parent's row once row k is gone; none stays none
abbrev pub lowered : (k parent : ℕ) → ℕ
lowered k parent = cond (ltb k parent && not (eqb parent no_parent)) (parent - 1) parent

-- row i, once row k, which is under row `above`, is gone
abbrev pub mended : (k above i : ℕ) → Row → Row
mended k above i r = record {
  kind = r.kind;
  low = r.low;
  high = r.high;
  parent = lowered k r.parent;
  start = r.start;
  end = r.end;
  properties = r.properties;
  children = cond (eqb i above) (r.children - 1) r.children;
}

-- rows from row i on without row k, which is under row `above`
unfoldable pub without_from : (k above i : ℕ) → List Row → List Row
without_from k above i [] = []
without_from k above i (r ∷ rs) =
    let later = without_from k above (suc i) rs in
    cond (eqb i k) later (mended k above i r ∷ later)

-- a file's rows without row k, where there is one; their bodies where they lie in the file
abbrev pub without : (k : ℕ) → List Row → List Row
without k rows = without_from k (get_or rows k blank).parent 0 rows

-- "the new file" of a trimming that succeeds: these rows emitted over the file, with its flags
unfoldable pub new_file : (s : List ℕ) (k : ℕ) → List ℕ
new_file s k = file_bytes (flags_of s) s (without k (limited s).rows)

-- ---- the answer

-- 30 to 32 of a file with these rows, by the length of the new file
abbrev pub removal_of : (rows : List Row) (k new room : ℕ) → Written
removal_of rows k new room =
    cond (leb (length rows) k) (refused_writing 30 0)
    (cond (is_known (get_or rows k blank).kind) (refused_writing 31 0)
    (cond (ltb room new) (refused_writing 32 0)
    (writing_done new)))

-- "the reader's refusals", or what comes where there is none
abbrev pub by_reading : Reading → Written → Written
by_reading (Accepted a) next = next
by_reading (Refused n place) next = refused_writing n place

-- a trimming's number, place and length, for any file, row number and table, and an output of any length
unfoldable pub trimmed_of : (s : List ℕ) (k : ℕ) (t : List ℕ) (room : ℕ) → Written
trimmed_of s k t room = by_reading (reading_of s t) (removal_of (limited s).rows k (length (new_file s k)) room)

-- ---- the lent buffers at exit

-- the output: on success the new file at its start; else as it was
unfoldable pub trimmed_output : (s : List ℕ) (k : ℕ) (t out : List ℕ) → List ℕ
trimmed_output s k t out = output_left (trimmed_of s k t (length out)).number (new_file s k) out

-- the table: on success as a reading of the new file leaves it; else cleared, and left where it has no room (1)
unfoldable pub trimmed_table : (s : List ℕ) (k : ℕ) (t : List ℕ) (room : ℕ) → List ℕ
trimmed_table s k t room = cond (eqb (trimmed_of s k t room).number 0) (readTable (new_file s k) t) (cleared t)
