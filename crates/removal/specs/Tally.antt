-- Document 01's tally: "Demand 3's tally is fed each trimming's row number, table length and output length; it starts from an
-- accepted file F, no row marked." F is known by its bytes s and its rows alone. (`Written` is the record of an answer's number,
-- place and length.)
use Rattle.std.specs.Prelude.{ℕ, zero, suc, ◌+◌, ◌-◌, Bool, true, false, cond, not, ◌&&◌, ◌||◌, List, [], ◌∷◌, ◌++◌, map, eqb, ltb, length, get_or, take, drop, set}
use Rattle.std.proofs.Math.Option.{Option, none, some}
use Rattle.base.specs.Limits.{table_numbers}
use Rattle.le.specs.Le.{number_at, le}
use Rattle.kinds.specs.Kinds.{is_known}
use Rattle.table.specs.declared.Row.{Row}
use Rattle.table.specs.Table.{no_parent, blank}
use Rattle.format.specs.Rows.{body_of}
use Rattle.emit.specs.Emission.{Written}

-- "each trimming's row number, table length and output length"
pub record Fed : Type 0 where
  pub row : ℕ
  pub table : ℕ
  pub output : ℕ

-- ---- marks: one for each row of F, true where the row is marked

-- "no row marked"
abbrev pub no_marks : List Row → List Bool
no_marks rows = map (λ r. false) rows

-- "F's unmarked rows are numbered from 0, in order": the row of F whose number is n; the marks are those of row i and later
unfoldable pub row_numbered : (i : ℕ) → List Bool → (number : ℕ) → Option ℕ
row_numbered i [] n = none
row_numbered i (true ∷ marks) n = row_numbered (suc i) marks n
row_numbered i (false ∷ marks) zero = some i
row_numbered i (false ∷ marks) (suc n) = row_numbered (suc i) marks n

-- the sum of a number over the marked rows; the first of these rows is row j
unfoldable pub sum_over_marked : (ℕ → Row → ℕ) → (j : ℕ) → List Row → List Bool → ℕ
sum_over_marked x j [] marks = 0
sum_over_marked x j (r ∷ rows) [] = 0
sum_over_marked x j (r ∷ rows) (mark ∷ marks) = cond mark (x j r) 0 + sum_over_marked x (suc j) rows marks

-- ---- the file: "The file then is F without the marked nodes; in each node around some of them, parent to root, the size falls
-- by theirs and the child count by its marked children."

-- row i is around row j, which is there: it is the parent of row j, or around that parent. Looks at most n levels up; a row has
-- fewer rows around it than there are rows.
unfoldable pub is_around : List Row → (n i j : ℕ) → Bool
is_around rows zero i j = false
is_around rows (suc n) i j =
    let parent = (get_or rows j blank).parent in
    not (eqb parent no_parent) && (eqb parent i || is_around rows n i parent)

-- a node's 24 header bytes as they stand in F: its bytes 4 to 7 are the size, 20 to 23 the child count
abbrev pub header_in : (s : List ℕ) → Row → List ℕ
header_in s r = take 24 (drop (r.start - 24) s)

abbrev pub size_in : (s : List ℕ) → Row → ℕ
size_in s r = number_at 4 (header_in s r) 4

-- by how much the size of row i falls: the sizes of the marked rows that it is around; and its child count: its marked children
abbrev pub size_fall : (s : List ℕ) → List Row → List Bool → (i : ℕ) → ℕ
size_fall s rows marks i = sum_over_marked (λ j r. cond (is_around rows (length rows) i j) (size_in s r) 0) 0 rows marks

abbrev pub count_fall : List Row → List Bool → (i : ℕ) → ℕ
count_fall rows marks i = sum_over_marked (λ j r. cond (eqb r.parent i) 1 0) 0 rows marks

-- a header with its size less by `size` and its child count less by `children`; its other bytes are as they were
unfoldable pub reduced_header : (header : List ℕ) (size children : ℕ) → List ℕ
reduced_header h size children =
    take 4 h ++ (le 4 (number_at 4 h 4 - size) ++ (take 12 (drop 8 h) ++ le 4 (number_at 4 h 20 - children)))

-- the unmarked ones of some rows, the first of which is row i: header and body of each. `all` and `marked` are those of all rows
unfoldable pub nodes_left : (s : List ℕ) (all : List Row) (marked : List Bool) (i : ℕ) → List Row → List Bool → List ℕ
nodes_left s all marked i [] marks = []
nodes_left s all marked i (r ∷ rows) [] = []
nodes_left s all marked i (r ∷ rows) (true ∷ marks) = nodes_left s all marked (suc i) rows marks
nodes_left s all marked i (r ∷ rows) (false ∷ marks) =
    reduced_header (header_in s r) (size_fall s all marked i) (count_fall all marked i)
    ++ (body_of s r ++ nodes_left s all marked (suc i) rows marks)

-- the tally's file: F's first 16 bytes, and what is left of its nodes
unfoldable pub file_left : (s : List ℕ) → List Row → List Bool → List ℕ
file_left s rows marks = take 16 s ++ nodes_left s rows marks 0 rows marks

-- ---- the answers

-- the tally's answer to one trimming, and the marks after it
pub record Tallied : Type 0 where
  pub answer : Written
  pub marks : List Bool

-- a refusal, "with place and length 0", marks nothing
abbrev pub refused_tally : (number : ℕ) → List Bool → Tallied
refused_tally n marks = record { answer = record { number = n; place = 0; length = 0 }; marks = marks }

-- 32 where the output is too short; else the new length, and the row is marked: `marked` has it marked, `marks` has not
abbrev pub by_room : (new room : ℕ) (marked marks : List Bool) → Tallied
by_room new room marked marks =
    cond (ltb room new) (refused_tally 32 marks) (record { answer = record { number = 0; place = 0; length = new }; marks = marked })

-- 30 where there is no such row, 31 where its kind is known
abbrev pub by_row : Option ℕ → (s : List ℕ) → List Row → List Bool → (room : ℕ) → Tallied
by_row none s rows marks room = refused_tally 30 marks
by_row (some i) s rows marks room =
    let marked = set marks i true in
    cond (is_known (get_or rows i blank).kind) (refused_tally 31 marks)
    (by_room (length (file_left s rows marked)) room marked marks)

-- "It answers the first that holds of 1 table short, 30 no such number, 31 kind known, 32 output short, with place and length 0;
-- else it marks that row and answers the new length."
unfoldable pub tally_step : (s : List ℕ) → List Row → List Bool → Fed → Tallied
tally_step s rows marks fed =
    cond (ltb fed.table table_numbers) (refused_tally 1 marks) (by_row (row_numbered 0 marks fed.row) s rows marks fed.output)

-- the answers to a list, and the marks after it
unfoldable pub answers : (s : List ℕ) → List Row → List Bool → List Fed → List Written
answers s rows marks [] = []
answers s rows marks (fed ∷ list) = let t = tally_step s rows marks fed in t.answer ∷ answers s rows t.marks list

unfoldable pub marks_after : (s : List ℕ) → List Row → List Bool → List Fed → List Bool
marks_after s rows marks [] = marks
marks_after s rows marks (fed ∷ list) = marks_after s rows (tally_step s rows marks fed).marks list
