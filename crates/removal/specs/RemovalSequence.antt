-- Demand 3, whole, as one statement: `EveryList`. One trimming is `trimmed_of`, `trimmed_output` and `trimmed_table` (Trimmer.antt), the
-- trimmer's contract; the tally is Tally.antt's; "accepted", rows, links, faces and charges are demand 2's.
use Rattle.std.specs.Prelude.{ℕ, ◌+◌, ◌≤◌, ◌<◌, ◌≡◌, ◌⊎◌, ◌↔◌, Bool, true, false, cond, List, [], ◌∷◌, ◌++◌, map, eqb, length, get_or, set, take, drop}
use Rattle.base.specs.Limits.{table_numbers}
use Rattle.le.specs.Le.{AreBytes}
use Rattle.kinds.specs.Kinds.{is_known}
use Rattle.table.specs.declared.Row.{Row}
use Rattle.table.specs.Table.{blank, rows_at, cleared, filled}
use Rattle.format.specs.Rows.{body_of, own_bytes}
use Rattle.base.specs.Lists.{Each}
use Rattle.links.specs.Links.{links_of}
use Rattle.reader.specs.declared.Account.{Account}
use Rattle.reader.specs.Reading.{Accepted}
use Rattle.reader.specs.Reading.{reading_of}
use Rattle.reader.specs.Reading.{table_after as readTable}
use Rattle.valid.specs.Nodes.{Node, nodes_of, mesh_faces, all_faces, NodeLink, LinksAre}
use Rattle.reader.specs.Acceptance.{IsValid, row_faces}
use Rattle.emit.specs.Emission.{Written}
use Rattle.removal.specs.Trimmer.{trimmed_of, trimmed_output, trimmed_table}
use Rattle.removal.specs.Tally.{Fed, no_marks, sum_over_marked, file_left, answers, marks_after}
use Rattle.removal.specs.Left.{ParentStays, unmarked_of, rows_left, bytes_left, InSize, InCount, NodeLinkStays, moved_node_link, LinkStays, moved_link}

-- ---- a list of trimmings

-- one trimming of a list, by the mission: "Each has any row number, any table and an output apart from the file, whatever these
-- hold."
pub record Trimming : Type 0 where
  pub row : ℕ
  pub table : List ℕ
  pub output : List ℕ

-- what is answered to it where the file is s
abbrev pub answer_to : (s : List ℕ) → Trimming → Written
answer_to s c = trimmed_of s c.row c.table (length c.output)

-- its output at exit
abbrev pub output_from : (s : List ℕ) → Trimming → List ℕ
output_from s c = trimmed_output s c.row c.table c.output

-- the file after it: the first `length` bytes of the output, or the same file after a refusal
abbrev pub file_from : (s : List ℕ) → Trimming → List ℕ
file_from s c = cond (eqb (answer_to s c).number 0) (take (answer_to s c).length (output_from s c)) s

-- "The first gets that file, each later one the file last written, or the same again after a refusal; nobody else writes to
-- it." That nobody else does, and that no output overlaps the file that it is written from, is what the run assumes, and what
-- lent slices give: a file is lent to be read, an output to be written, by one trimming at a time.
unfoldable pub answers_of : (s : List ℕ) → List Trimming → List Written
answers_of s [] = []
answers_of s (c ∷ list) = answer_to s c ∷ answers_of (file_from s c) list

unfoldable pub file_after : (s : List ℕ) → List Trimming → List ℕ
file_after s [] = s
file_after s (c ∷ list) = file_after (file_from s c) list

-- what holds of each trimming and the file that it gets
abbrev pub EachTrimming : (List ℕ → Trimming → Type 0) → (s : List ℕ) → List Trimming → Type 0
EachTrimming P s [] = Unit {0}
EachTrimming P s (c ∷ list) = P s c × EachTrimming P (file_from s c) list

-- the tally "is fed each trimming's row number, table length and output length"
abbrev pub fed_by : Trimming → Fed
fed_by c = record { row = c.row; table = length c.table; output = length c.output }

-- the rows that the tally has marked after a list
abbrev pub marks_by : (s : List ℕ) → List Row → List Trimming → List Bool
marks_by s rows list = marks_after s rows (no_marks rows) (map fed_by list)

-- ---- accepted, by demand 2's reading

-- a file is accepted with this account, and its rows are these, whatever the table held
pub record IsRead (s : List ℕ) (rows : List Row) (a : Account) : Type 0 where
  pub accepts : (t : List ℕ) → table_numbers ≤ length t → reading_of s t ≡ Accepted a
  pub nodes : a.nodes ≡ length rows
  pub table : (t : List ℕ) → table_numbers ≤ length t → readTable s t ≡ filled rows t

-- there is one such account, and one such list of rows
abbrev pub OneReading : Type 0
OneReading = (s : List ℕ) (rows rows' : List Row) (a a' : Account) → IsRead s rows a → IsRead s rows' a' → (rows ≡ rows') × (a ≡ a')

-- ---- one trimming of the list

-- "its row is there, its kind unknown, and table and output long enough"
pub record Removable (s : List ℕ) (rows : List Row) (c : Trimming) : Type 0 where
  pub there : c.row < length rows
  pub unknown : is_known (get_or rows c.row blank).kind ≡ false
  pub table : table_numbers ≤ length c.table
  -- the output has room for the file less the node's own bytes
  pub output : length s ≤ own_bytes (get_or rows c.row blank) + length c.output

-- "a node goes exactly when" it is so, by the reading of the file that the trimming gets
pub record Goes (s : List ℕ) (c : Trimming) : Type 0 where
  pub rows : List Row
  pub account : Account
  pub read : IsRead s rows account
  pub exactly : ((answer_to s c).number ≡ 0) ↔ Removable s rows c
  -- then the node of that row goes and no other; else none does
  pub gone : file_from s c ≡ file_left s rows (cond (eqb (answer_to s c).number 0) (set (no_marks rows) c.row true) (no_marks rows))

-- document 01: what it leaves in output and table
pub record Leaves (s : List ℕ) (c : Trimming) : Type 0 where
  -- on success the new file, and "the output past its length stays"; else "Output is untouched"
  pub output : output_from s c
      ≡ cond (eqb (answer_to s c).number 0) (file_from s c ++ drop (answer_to s c).length c.output) c.output
  -- "On success the table holds the rows of the new file", as a reading of it leaves them; else it is cleared, and untouched on 1
  pub table : trimmed_table s c.row c.table (length c.output)
      ≡ cond (eqb (answer_to s c).number 0) (readTable (file_from s c) c.table) (cleared c.table)

-- the nodes of a valid file: there is one forest (`OneForest`), and of it one list (`OneNodeList`)
abbrev pub nodes_in : {s : List ℕ} → IsValid s → List Node
nodes_in v = nodes_of v.forest v.valid.well_formed.2

-- ---- the file after a list, given the marks; the first file is s, with these rows and this account
pub record IsLeft (s : List ℕ) (rows : List Row) (a : Account) (marks : List Bool) (file : List ℕ) : Type 0 where
  -- a mark for each row, and only rows of unknown kinds are marked
  pub marked : length marks ≡ length rows
  pub only_unknown : (i : ℕ) → get_or marks i false ≡ true → is_known (get_or rows i blank).kind ≡ false
  -- "After the list the file is accepted": with this account, and these rows: "Its rows are the old ones without theirs,
  -- renumbered, but for where bodies lie and those child counts." A row's parent stays, and so has a number.
  pub account : Account
  pub accepted : IsRead file (rows_left rows marks) account
  pub flags : account.flags ≡ a.flags
  pub parents : Each (ParentStays marks) rows
  -- "and is the tally's"
  pub bytes : AreBytes file
  pub is_tally_file : file ≡ file_left s rows marks
  -- "the first one without the removed nodes, where only the sizes of the nodes around them and their parents' child counts
  -- differ"
  pub same_length : length file ≡ length (bytes_left s rows marks)
  pub differ : (at : ℕ) → (get_or file at 0 ≡ get_or (bytes_left s rows marks) at 0) ⊎ (InSize rows marks at ⊎ InCount rows marks at)
  pub bodies : map (body_of file) (rows_left rows marks) ≡ map (body_of s) (unmarked_of rows marks)
  -- both files by demand 2's nodes: kinds, hashes and properties are the old ones, without the removed nodes
  pub before : IsValid s
  pub after : IsValid file
  pub nodes : nodes_in after ≡ unmarked_of (nodes_in before) marks
  -- "Every link reaches the same node": its node and the node that it reaches stay, and the links are the old ones, renumbered
  pub links_stay : (links : List NodeLink) → LinksAre (nodes_in before) links → Each (NodeLinkStays marks) links
  pub links : (links : List NodeLink) → LinksAre (nodes_in before) links → LinksAre (nodes_in after) (map (moved_node_link marks) links)
  pub link_count : account.links ≡ a.links
  -- by the rows, as the reading resolves them
  pub links_by_row_stay : Each (LinkStays marks) (links_of s rows)
  pub links_by_row : links_of file (rows_left rows marks) ≡ map (moved_link rows marks) (links_of s rows)
  -- "every other node is charged the same"
  pub charges : (t : List ℕ) → table_numbers ≤ length t
      → map own_bytes (rows_at (readTable file t) 0 account.nodes) ≡ map own_bytes (unmarked_of rows marks)
  pub known : account.known.0 ≡ a.known.0
  pub unknown : a.unknown.0 ≡ sum_over_marked (λ j r. own_bytes r) 0 rows marks + account.unknown.0
  -- "and the face counts stay", of each node and of all
  pub node_faces : map mesh_faces (nodes_in after) ≡ map mesh_faces (unmarked_of (nodes_in before) marks)
  pub faces : all_faces (nodes_in after) ≡ all_faces (nodes_in before)
  pub face_count : account.faces.0 ≡ a.faces.0
  pub degenerate : account.degenerate ≡ a.degenerate
  -- by the rows, as the reading counts them
  pub faces_by_row : map (row_faces file) (rows_left rows marks) ≡ map (row_faces s) (unmarked_of rows marks)

-- ---- demand 3 of one list from such a file
pub record HoldsOf (s : List ℕ) (rows : List Row) (a : Account) (list : List Trimming) : Type 0 where
  -- "For every such list, each answer is the one document 01's tally gives"
  pub answered : answers_of s list ≡ answers s rows (no_marks rows) (map fed_by list)
  -- "a node goes exactly when its row is there, its kind unknown, and table and output long enough"
  pub goes : EachTrimming Goes s list
  -- what is left in each output and each table
  pub leaves : EachTrimming Leaves s list
  -- "After the list ..."
  pub ended : IsLeft s rows a (marks_by s rows list) (file_after s list)
  -- "Two lists from one file that remove the same nodes, in whichever order, end with the same bytes."
  pub any_order : (other : List Trimming) → marks_by s rows other ≡ marks_by s rows list → file_after s other ≡ file_after s list

-- "Take any accepted file and any list of trimmings, refused ones included."
abbrev pub EveryList : Type 0
EveryList = (s t : List ℕ) (a : Account) → AreBytes s → reading_of s t ≡ Accepted a
    → (list : List Trimming) → HoldsOf s (rows_at (readTable s t) 0 a.nodes) a list
