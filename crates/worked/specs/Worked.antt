-- Document 01, "Small files, worked": E1 to E12 in one table, each with the whole answer, the rows, the listing, and a trimming at
-- row 1, computed from the definitions. "Hashes and flags are 0."
use Rattle.std.specs.Prelude.{ℕ, ◌≡◌, refl, length, take, drop, replicate}
use Prim.Native.String.{String}
use mathlib.Core.List.{List, [], ◌∷◌, ◌++◌, map, flat_map}
use Rattle.le.specs.Le.{val, number_at, le}
use Rattle.names.specs.Names.{bytes_ok, same, read_digits, number, number_after}
use Rattle.text.specs.Text.{glyph, digits, digit_count}
use Rattle.kinds.specs.Kinds.{root, model, mesh, parents_in, parents_of, is_known, stands_at_top, stands_under, may_stand, parents_table}
use Rattle.table.specs.declared.Row.{Row}
use Rattle.table.specs.Table.{no_parent, has_room}
use Rattle.table.specs.Counts.{count_under}
use Rattle.props.specs.Step.{to_zero, name_at, step_at}
use Rattle.body.specs.Body.{pass, properties, first_named}
use Rattle.faces.specs.Faces.{width_of, faces_in, below, degenerate}
use Rattle.base.specs.Letters.{letters}
use Rattle.rules.specs.Table.{lines}
use Rattle.rules.specs.Rules.{lists, rule_in, of_kind, lines_of, is_text, is_one_of}
use Rattle.judge.specs.Properties.{length_of, value_of, types_of, beside_of}
use Rattle.judge.specs.Typed.{typed}
use Rattle.judge.specs.Missing.{misses, lacks}
use Rattle.judge.specs.Valued.{fault_of, valued, node_faces, node_links}
use Rattle.judge.specs.Judge.{verdict_at, judged_at, judged}
use Rattle.format.specs.Forest.{header, file_header}
use Rattle.links.specs.Links.{reached, links_at, links_from, resolved, linked}
use Rattle.walk.specs.Walk.{header_at, node_refusal, and_then, children, node, children_at, walk_of, limited}
use Rattle.reader.specs.Reading.{Reading}
use Rattle.reader.specs.Reading.{Accepted, Refused}
use Rattle.reader.specs.Reading.{Numbers, numbers_of, judged_with, ruled, own_known, own_unknown, checked, verdict, reading_of}
use Rattle.emit.specs.Emission.{Written}
use Rattle.emit.specs.Emission.{sizes_under, nodes_bytes, roots, file_bytes}
use Rattle.emit.specs.Emission.{output_left as emitLeft}
use Rattle.removal.specs.Trimmer.{without_from, new_file, trimmed_of, trimmed_output}
use Rattle.listing.specs.Listing.{parent_text, words_of, text_of, node_lines, file_lines, printed, listing_of}

-- a reading's numbers, its rows where the file is accepted, and what is printed; and of a trimming at row 1 the answer and the
-- output at exit
pub record Answer : Type 0 where
  pub numbers : Numbers
  pub rows : List Row
  pub text : List ℕ
  pub trimmed : Written
  pub output : List ℕ

-- what a trimming is lent: a table that has room, and an output that has room for E3
abbrev pub lent_table : List ℕ
lent_table = replicate 8192 7

abbrev pub lent_output : List ℕ
lent_output = replicate 40 9

abbrev pub rows_by : Reading → List Row → List Row
rows_by (Accepted a) rows = rows
rows_by (Refused n place) rows = []

unfoldable pub computed : List ℕ → Answer
unfolding val number_at bytes_ok same read_digits number number_after parents_table parents_in parents_of is_known stands_at_top stands_under may_stand to_zero name_at step_at pass properties first_named width_of faces_in below degenerate letters lines lists rule_in of_kind lines_of is_text is_one_of le length_of value_of types_of beside_of typed misses lacks fault_of valued node_faces node_links verdict_at judged_at judged reached links_at links_from resolved linked header_at node_refusal and_then children node children_at walk_of limited count_under judged_with ruled own_known own_unknown checked verdict glyph digits digit_count parent_text words_of text_of node_lines file_lines flat_map printed listing_of header file_header has_room reading_of sizes_under nodes_bytes roots file_bytes emitLeft without_from new_file trimmed_of trimmed_output
computed s = record {
  numbers = numbers_of (verdict s);
  rows = rows_by (verdict s) (limited s).rows;
  text = listing_of s;
  trimmed = trimmed_of s 1 lent_table (length lent_output);
  output = trimmed_output s 1 lent_table lent_output;
}

-- a file with this root count, and a node's header alone
unfoldable pub cast : ℕ → List ℕ → List ℕ
unfolding le file_header
cast roots bs = file_header roots 0 ++ bs

unfoldable pub head : (kind size properties children : ℕ) → List ℕ
unfolding le header
head kind size properties children = header kind size 0 properties children

abbrev pub bare : List ℕ
bare = cast 1 (head root 24 0 0)

-- a Mesh under a Model under a Root, with `vp`, three elements of v3, and then `f` of type b
abbrev pub meshed : List ℕ → List ℕ
meshed values =
    cast 1 (head root 130 0 1 ++ (head model 106 0 1 ++ (head mesh 82 2 0 ++
    ((0x33 ∷ 0x76 ∷ 2 ∷ 0 ∷ 3 ∷ 0 ∷ 0 ∷ 0 ∷ 0x76 ∷ 0x70 ∷ replicate 36 0) ++ (0x62 ∷ 0 ∷ 1 ∷ 0 ∷ 3 ∷ 0 ∷ 0 ∷ 0 ∷ 0x66 ∷ values)))))

abbrev pub row : (kind parent start end properties children : ℕ) → Row
row kind parent start stop properties children =
    record { kind = kind; low = 0; high = 0; parent = parent; start = start; end = stop; properties = properties; children = children }

-- lines, each with the byte 10 after it
abbrev pub lined : List String → List ℕ
lined [] = []
lined (l ∷ ls) = letters l ++ ((10 ∷ []) ++ lined ls)

abbrev pub refused : (number place : ℕ) → String → Answer
refused n place line = record {
  numbers = record { number = n; place = place; nodes = 0; flags = 0; own_known = 0; own_unknown = 0; faces = 0; degenerate = 0; links = 0 };
  rows = [];
  text = lined (line ∷ []);
  trimmed = record { number = n; place = place; length = 0 };
  output = lent_output;
}

abbrev pub accepted : (own_known own_unknown faces degenerate links : ℕ) → List Row → List String → (trimmed : Written) (output : List ℕ) → Answer
accepted known unknown faces degenerate links rows lines trimmed output = record {
  numbers = record {
    number = 0;
    place = 0;
    nodes = length rows;
    flags = 0;
    own_known = known;
    own_unknown = unknown;
    faces = faces;
    degenerate = degenerate;
    links = links;
  };
  rows = rows;
  text = lined lines;
  trimmed = trimmed;
  output = output;
}

-- a trimming that is refused, with a number of 30 to 32
abbrev pub stays : (number : ℕ) → Written
stays n = record { number = n; place = 0; length = 0 }

-- "Listing of E10, whole"
abbrev pub ten_lines : List String
ten_lines =
    "cast 1 flags 0 nodes 2 bytes 67" ∷
    "row 0 kind 746F6F72 parent - own 24" ∷
    "row 1 kind 6E676177 parent 0 own 27" ∷
    "header 16" ∷
    "faces 0 degenerate 0" ∷
    "total 67" ∷ []

-- of E11, with the line of its face
abbrev pub mesh_lines : String → List String
mesh_lines faces =
    "cast 1 flags 0 nodes 3 bytes 146" ∷
    "row 0 kind 746F6F72 parent - own 24" ∷
    "row 1 kind 6C646F6D parent 0 own 24" ∷
    "row 2 kind 6873656D parent 1 own 82" ∷
    "header 16" ∷
    faces ∷
    "total 146" ∷ []

abbrev pub mesh_rows : List Row
mesh_rows = row root no_parent 40 40 0 1 ∷ row model 0 64 64 0 1 ∷ row mesh 1 88 146 2 0 ∷ []

-- a file and its answer
abbrev pub Example : Type 0
Example = List ℕ × Answer

abbrev pub table : List Example
table =
    -- E1: no roots. E2: no bytes
    (cast 0 [], accepted 0 0 0 0 0 [] ("cast 1 flags 0 nodes 0 bytes 16" ∷ "header 16" ∷ "faces 0 degenerate 0" ∷ "total 16" ∷ []) (stays 30) lent_output) ∷
    ([], refused 3 0 "refused 3 at 0") ∷
    -- E3: one bare root. E4: cut to 39. E5: one more byte. E6: root size 25. E7: 23. E8: Mesh at the top. E9: version 2
    (
      bare,
      accepted 24 0 0 0 0 (row root no_parent 40 40 0 0 ∷ [])
          ("cast 1 flags 0 nodes 1 bytes 40" ∷ "row 0 kind 746F6F72 parent - own 24" ∷ "header 16" ∷ "faces 0 degenerate 0" ∷ "total 40" ∷ [])
          (stays 30) lent_output,
    ) ∷
    (take 39 bare, refused 5 16 "refused 5 at 16") ∷
    (bare ++ (0 ∷ []), refused 12 40 "refused 12 at 40") ∷
    (cast 1 (head root 25 0 0 ++ (0 ∷ [])), refused 12 40 "refused 12 at 40") ∷
    (cast 1 (head root 23 0 0), refused 5 16 "refused 5 at 16") ∷
    (cast 1 (head mesh 24 0 0), refused 6 16 "refused 6 at 16") ∷
    (take 4 bare ++ (2 ∷ drop 5 bare), refused 4 4 "refused 4 at 4") ∷
    -- E10: a root with one unknown child; "trimming row 1 gives E3"
    (
      cast 1 (head root 51 0 1 ++ (head 0x6E676177 27 0 0 ++ (0x61 ∷ 0x62 ∷ 0x63 ∷ []))),
      accepted 24 27 0 0 0 (row root no_parent 40 40 0 1 ∷ row 0x6E676177 0 64 67 0 0 ∷ []) ten_lines
          record { number = 0; place = 0; length = 40 } bare,
    ) ∷
    -- E11: one face; and one that is degenerate. E12: a value that is no vertex
    (
      meshed (0 ∷ 1 ∷ 2 ∷ []),
      accepted 130 0 1 0 0 mesh_rows (mesh_lines "faces 1 degenerate 0") (stays 31) lent_output,
    ) ∷ (
      meshed (0 ∷ 1 ∷ 1 ∷ []),
      accepted 130 0 1 1 0 mesh_rows (mesh_lines "faces 1 degenerate 1") (stays 31) lent_output,
    ) ∷
    (meshed (0 ∷ 1 ∷ 3 ∷ []), refused 15 134 "refused 15 at 134") ∷ []

pub worked : map (λ l. computed l.0) table ≡ map (λ l. l.1) table
unfolding computed cast head
worked = refl

-- "input over 32,768 bytes prints `too long`"
pub long : ((computed (replicate 32769 0)).text ≡ lined ("too long" ∷ [])) × ((computed (replicate 32768 0)).text ≡ lined ("refused 3 at 0" ∷ []))
unfolding computed
long = (refl, refl)
