-- Small lists of trimmings, computed by the definitions: what is answered and left, and what the tally says.
use Rattle.std.specs.Prelude.{ℕ, ◌≡◌, refl, true, false, List, [], ◌∷◌, ◌++◌, map, length, take, drop, replicate}
use Rattle.le.specs.Le.{val, number_at, le}
use Rattle.names.specs.Names.{bytes_ok, same, read_digits, number, number_after}
use Rattle.kinds.specs.Kinds.{root, model, mesh, material, parents_in, parents_of, is_known, stands_at_top, stands_under, may_stand, parents_table}
use Rattle.table.specs.declared.Row.{Row}
use Rattle.table.specs.Table.{no_parent, fields, has_room, zeroed, cleared, flat, filled}
use Rattle.table.specs.Counts.{count_under}
use Rattle.props.specs.Step.{to_zero, name_at, step_at}
use Rattle.body.specs.Body.{pass, properties, first_named}
use Rattle.faces.specs.Faces.{width_of, faces_in, below, degenerate}
use Rattle.base.specs.Letters.{letters}
use Rattle.rules.specs.Table.{lines}
use Rattle.rules.specs.Rules.{lists, rule_in, of_kind, lines_of, is_text, is_one_of}
use Rattle.judge.specs.Properties.{length_of, value_of, types_of, beside_of}
use Rattle.judge.specs.Typed.{typed}
use Rattle.judge.specs.Missing.{misses, lacks}
use Rattle.judge.specs.Valued.{fault_of, valued, node_faces, node_links}
use Rattle.judge.specs.Judge.{verdict_at, judged_at, judged}
use Rattle.format.specs.Forest.{header, file_header}
use Rattle.links.specs.Links.{Link, reached, links_at, links_from, links_of, resolved, linked}
use Rattle.walk.specs.Walk.{header_at, node_refusal, and_then, children, node, children_at, walk_of, limited}
use Rattle.reader.specs.Reading.{judged_with, ruled, own_known, own_unknown, checked, verdict, reading_of}
use Rattle.reader.specs.Reading.{table_after as readTable}
use Rattle.emit.specs.Emission.{Written}
use Rattle.emit.specs.Emission.{sizes_under, nodes_bytes, roots, file_bytes, refused_writing, writing_done}
use Rattle.emit.specs.Emission.{output_left as emitLeft}
use Rattle.writer.specs.Forest.{laid_out}
use Rattle.removal.specs.Trimmer.{without_from, new_file, trimmed_of, trimmed_output, trimmed_table}
use Rattle.removal.specs.Tally.{no_marks, row_numbered, sum_over_marked, is_around, reduced_header, nodes_left, file_left, tally_step, answers, marks_after}
use Rattle.removal.specs.Left.{unmarked, renumbered_from, rows_left, in_marked, bytes_from, bytes_left, moved_link}
use Rattle.removal.specs.RemovalSequence.{Trimming, answers_of, file_after, fed_by}

-- ---- the run, and the tally, of a file with these rows: the answers, and the file after the list
pub record Ended : Type 0 where
  pub answers : List Written
  pub file : List ℕ

unfoldable by_run : List ℕ → List Trimming → Ended
unfolding val number_at bytes_ok same read_digits number number_after parents_table parents_in parents_of is_known stands_at_top stands_under may_stand has_room to_zero name_at step_at pass properties first_named width_of faces_in below degenerate letters lines lists rule_in of_kind lines_of is_text is_one_of le length_of value_of types_of beside_of typed misses lacks fault_of valued node_faces node_links verdict_at judged_at judged header file_header reached links_at links_from resolved linked header_at node_refusal and_then children node children_at walk_of limited count_under judged_with ruled own_known own_unknown checked verdict reading_of sizes_under nodes_bytes roots file_bytes emitLeft without_from new_file trimmed_of trimmed_output answers_of file_after
by_run s list = record { answers = answers_of s list; file = file_after s list }

unfoldable by_tally : List ℕ → List Row → List Trimming → Ended
unfolding val number_at parents_table parents_in parents_of is_known le row_numbered sum_over_marked is_around reduced_header nodes_left file_left tally_step answers marks_after
by_tally s rows list = record {
  answers = answers s rows (no_marks rows) (map fed_by list);
  file = file_left s rows (marks_after s rows (no_marks rows) (map fed_by list));
}

-- what one trimming leaves
pub record Lent : Type 0 where
  pub table : List ℕ
  pub output : List ℕ

unfoldable lent_after : (s : List ℕ) (k : ℕ) (t out : List ℕ) → Lent
unfolding flat filled zeroed cleared readTable trimmed_table val number_at bytes_ok same read_digits number number_after parents_table parents_in parents_of is_known stands_at_top stands_under may_stand has_room to_zero name_at step_at pass properties first_named width_of faces_in below degenerate letters lines lists rule_in of_kind lines_of is_text is_one_of le length_of value_of types_of beside_of typed misses lacks fault_of valued node_faces node_links verdict_at judged_at judged header file_header reached links_at links_from resolved linked header_at node_refusal and_then children node children_at walk_of limited count_under judged_with ruled own_known own_unknown checked verdict reading_of sizes_under nodes_bytes roots file_bytes emitLeft without_from new_file trimmed_of trimmed_output
lent_after s k t out = record { table = trimmed_table s k t (length out); output = trimmed_output s k t out }

-- the same, with a table of 8,193 numbers
abbrev left : (s : List ℕ) (k : ℕ) (out : List ℕ) → Lent
left s k out = lent_after s k (replicate 8193 7) out

-- a file of one root, and a node's header alone
unfoldable cast : List ℕ → List ℕ
unfolding le file_header
cast bs = file_header 1 0 ++ bs

unfoldable head : (kind size children : ℕ) → List ℕ
unfolding le header
head kind size children = header kind size 0 0 children

abbrev row : (kind parent start end children : ℕ) → Row
row kind parent start stop children =
    record { kind = kind; low = 0; high = 0; parent = parent; start = start; end = stop; properties = 0; children = children }

abbrev private : ℕ
private = 0x6E676177

-- a trimming with a table that has room and an output of `room` bytes; and with an output that has room
abbrev into : (room row : ℕ) → Trimming
into room k = record { row = k; table = replicate 8192 7; output = replicate room 9 }

abbrev trim : (row : ℕ) → Trimming
trim k = into 200 k

-- ---- E10 trimmed at row 1 is E3
e10 : List ℕ
e10 = cast (head root 51 1 ++ (head private 27 0 ++ (97 ∷ 98 ∷ 99 ∷ [])))

e3 : List ℕ
e3 = cast (head root 24 0)

e10_trimmed : by_run e10 (trim 1 ∷ []) ≡ record { answers = writing_done 40 ∷ []; file = e3 }
unfolding by_run cast head e10 e3
e10_trimmed = refl

e10_tallied : by_tally e10 (row root no_parent 40 40 1 ∷ row private 0 64 67 0 ∷ []) (trim 1 ∷ []) ≡ record { answers = writing_done 40 ∷ []; file = e3 }
unfolding by_tally cast head e10 e3
e10_tallied = refl

-- what is left on success, in an output of 42 bytes, and of the table in its first nine numbers and its last two
e10_lent : ((left e10 1 (replicate 42 8)).output ≡ e3 ++ (8 ∷ 8 ∷ []))
    × (take 9 (left e10 1 (replicate 42 8)).table ≡ root ∷ 0 ∷ 0 ∷ no_parent ∷ 40 ∷ 40 ∷ 0 ∷ 0 ∷ 0 ∷ [])
    × (drop 8191 (left e10 1 (replicate 42 8)).table ≡ 0 ∷ 7 ∷ [])
unfolding lent_after cast head e10 e3
e10_lent = (refl, refl, refl)

-- a refusal leaves the output, and clears the table's first 8,192 numbers: 32, 30, 31 and the reader's 6; 1 leaves both
abbrev Cleared : Lent → (out : List ℕ) → Type 0
Cleared lent out = (lent.output ≡ out) × (take 9 lent.table ≡ replicate 9 0) × (drop 8191 lent.table ≡ 0 ∷ 7 ∷ [])

refusals_lent : Cleared (left e10 1 (replicate 39 8)) (replicate 39 8) × Cleared (left e10 2 (replicate 42 8)) (replicate 42 8)
    × Cleared (left e10 0 (replicate 42 8)) (replicate 42 8) × Cleared (left (cast (head model 24 0)) 0 (replicate 42 8)) (replicate 42 8)
    × (lent_after e10 1 (5 ∷ 6 ∷ []) (replicate 42 8) ≡ record { table = 5 ∷ 6 ∷ []; output = replicate 42 8 })
unfolding lent_after cast head e10
refusals_lent = ((refl, refl, refl), (refl, refl, refl), (refl, refl, refl), (refl, refl, refl), refl)

-- ---- a Root with a Model and a private node C below it; below the Model, private nodes A and B
file : List ℕ
file = cast (head root 126 2 ++ (head model 76 2 ++ (head private 27 0 ++ (1 ∷ 1 ∷ 1 ∷ head private 25 0 ++ (2 ∷ head private 26 0 ++ (3 ∷ 3 ∷ []))))))

rows : List Row
rows = row root no_parent 40 40 2 ∷ row model 0 64 64 2 ∷ row private 1 88 91 0 ∷ row private 1 115 116 0 ∷ row private 0 140 142 0 ∷ []

-- run and tally give these answers and this file
abbrev Both : List Trimming → List Written → List ℕ → Type 0
Both list told after =
    (by_run file list ≡ record { answers = told; file = after }) × (by_tally file rows list ≡ record { answers = told; file = after })

-- A and B, under one parent, in either order: the Model has none left, and the Root is smaller by both
without_ab : List ℕ
without_ab = cast (head root 74 2 ++ (head model 24 0 ++ (head private 26 0 ++ (3 ∷ 3 ∷ []))))

a_and_b : Both (trim 2 ∷ trim 2 ∷ []) (writing_done 115 ∷ writing_done 90 ∷ []) without_ab × Both (trim 3 ∷ trim 2 ∷ []) (writing_done 117 ∷ writing_done 90 ∷ []) without_ab
unfolding by_run by_tally cast head file rows without_ab
a_and_b = ((refl, refl), (refl, refl))

-- A and C, under the Model and under the Root around it, in either order
without_ac : List ℕ
without_ac = cast (head root 73 1 ++ (head model 49 1 ++ (head private 25 0 ++ (2 ∷ []))))

a_and_c : Both (trim 2 ∷ trim 3 ∷ []) (writing_done 115 ∷ writing_done 89 ∷ []) without_ac × Both (trim 4 ∷ trim 2 ∷ []) (writing_done 116 ∷ writing_done 89 ∷ []) without_ac
unfolding by_run by_tally cast head file rows without_ac
a_and_c = ((refl, refl), (refl, refl))

-- the rows that are left of it: B is row 2 and lies where A lay; Root and Model have a child less
rows_left_lem : rows_left rows (false ∷ false ∷ true ∷ false ∷ true ∷ []) ≡
    row root no_parent 40 40 1 ∷ row model 0 64 64 1 ∷ row private 1 88 89 0 ∷ []
unfolding sum_over_marked unmarked renumbered_from laid_out rows_left rows
rows_left_lem = refl

-- the first file's bytes without the two: the numbers in them are as they were
bytes_left_lem : bytes_left file rows (false ∷ false ∷ true ∷ false ∷ true ∷ []) ≡ cast (head root 126 2 ++ (head model 76 2 ++ (head private 25 0 ++ (2 ∷ []))))
unfolding in_marked bytes_from cast head file rows
bytes_left_lem = refl

-- ---- a Root with a private node before a Model that has one: the Model becomes row 1, and so the other's parent
before : List ℕ
before = cast (head root 99 2 ++ (head private 26 0 ++ (1 ∷ 1 ∷ head model 49 1 ++ (head private 25 0 ++ (2 ∷ [])))))

renumbers : by_run before (trim 1 ∷ []) ≡ record { answers = writing_done 89 ∷ []; file = without_ac }
unfolding by_run cast head before without_ac
renumbers = refl

-- a later row moves up in the table, and its body to where it lies in the new file: A taken out
a_lent : take 33 (left file 2 (replicate 200 9)).table ≡
    fields (row root no_parent 40 40 2) ++ (fields (row model 0 64 64 1) ++ (fields (row private 1 88 89 0) ++ (fields (row private 0 113 115 0) ++ (0 ∷ []))))
unfolding lent_after cast head file
a_lent = refl

-- ---- a file with a link: a Root with a private node before a Model; below that a Mesh (vp, f, m) and its Material (n, t), hash 7
linked_by : (size children : ℕ) → (notes : List ℕ) → List ℕ
linked_by size children notes =
    cast (head root size children ++ (notes ++ (head model 128 2 ++ (header mesh 60 0 3 0 ++ (
    0x33 ∷ 0x76 ∷ 2 ∷ 0 ∷ 0 ∷ 0 ∷ 0 ∷ 0 ∷ 118 ∷ 112 ∷
    0x62 ∷ 0 ∷ 1 ∷ 0 ∷ 0 ∷ 0 ∷ 0 ∷ 0 ∷ 102 ∷
    0x6C ∷ 0 ∷ 1 ∷ 0 ∷ 1 ∷ 0 ∷ 0 ∷ 0 ∷ 109 ∷ 7 ∷ 0 ∷ 0 ∷ 0 ∷ 0 ∷ 0 ∷ 0 ∷ 0 ∷ (header material 44 7 2 0 ++ (
    0x73 ∷ 0 ∷ 1 ∷ 0 ∷ 1 ∷ 0 ∷ 0 ∷ 0 ∷ 110 ∷ 0 ∷
    0x73 ∷ 0 ∷ 1 ∷ 0 ∷ 1 ∷ 0 ∷ 0 ∷ 0 ∷ 116 ∷ 0 ∷ [])))))))

noted : List ℕ
noted = linked_by 178 2 (head private 26 0 ++ (1 ∷ 1 ∷ []))

noted_rows : List Row
noted_rows =
    row root no_parent 40 40 2 ∷ row private 0 64 66 0 ∷ row model 0 90 90 2 ∷
    record { kind = mesh; low = 0; high = 0; parent = 2; start = 114; end = 150; properties = 3; children = 0 } ∷
    record { kind = material; low = 7; high = 0; parent = 2; start = 174; end = 194; properties = 2; children = 0 } ∷ []

abbrev link : (row property target : ℕ) → Link
link row property target = record { row = row; property = property; targets = target ∷ [] }

-- the Mesh and its Material each have a lower row, and the link's property lies 26 bytes earlier
link_moves : (by_run noted (trim 1 ∷ []) ≡ record { answers = writing_done 168 ∷ []; file = linked_by 152 1 [] })
    × (links_of noted noted_rows ≡ link 3 133 4 ∷ [])
    × (moved_link noted_rows (false ∷ true ∷ false ∷ false ∷ false ∷ []) (link 3 133 4) ≡ link 2 107 3)
    × (links_of (linked_by 152 1 []) (rows_left noted_rows (false ∷ true ∷ false ∷ false ∷ false ∷ [])) ≡ link 2 107 3 ∷ [])
unfolding val number_at bytes_ok same read_digits number number_after parents_table parents_in parents_of is_known to_zero name_at step_at pass properties lists rule_in of_kind lines_of letters lines reached links_at links_from le header sum_over_marked unmarked renumbered_from laid_out rows_left by_run cast head linked_by noted noted_rows
link_moves = (refl, refl, refl, refl)

-- ---- with refusals between: 1 before 30; 30; 31; 32 by one byte; then A with just enough room; the same four again, as rows
-- have become fewer and the file shorter; then C with just enough room
abbrev short : (row : ℕ) → Trimming
short k = record { row = k; table = replicate 8191 7; output = [] }

abbrev mixed : List Trimming
mixed = short 9 ∷ trim 5 ∷ into 0 1 ∷ into 114 2 ∷ into 115 2 ∷ short 3 ∷ trim 4 ∷ into 0 0 ∷ into 88 3 ∷ into 89 3 ∷ []

abbrev told : List Written
told =
    refused_writing 1 0 ∷ refused_writing 30 0 ∷ refused_writing 31 0 ∷ refused_writing 32 0 ∷ writing_done 115 ∷
    refused_writing 1 0 ∷ refused_writing 30 0 ∷ refused_writing 31 0 ∷ refused_writing 32 0 ∷ writing_done 89 ∷ []

with_refusals : Both mixed told without_ac
unfolding by_run by_tally cast head file rows without_ac
with_refusals = (refl, refl)

-- a file that is refused, with the reader's number and place
refused_file_lem : by_run (cast (head model 24 0)) (trim 0 ∷ []) ≡ record { answers = refused_writing 6 16 ∷ []; file = cast (head model 24 0) }
unfolding by_run cast head
refused_file_lem = refl
