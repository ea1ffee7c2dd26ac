-- Small files read as a whole, computed from the definitions: which refusal is the answer where several rules are broken, and what
-- the table holds at exit.
use Rattle.std.specs.Prelude.{ℕ, ◌+◌, ◌≡◌, refl, List, [], ◌∷◌, ◌++◌, map, length, get_or, replicate}
use Prim.Native.String.{String}
use Rattle.le.specs.Le.{val, number_at, le}
use Rattle.names.specs.Names.{bytes_ok, same, read_digits, number, number_after}
use Rattle.kinds.specs.Kinds.{root, model, animation, instance, metadata, parents_in, parents_of, is_known, stands_at_top, stands_under, may_stand, parents_table}
use Rattle.table.specs.Table.{no_parent, has_room, zeroed, cleared, flat, filled}
use Rattle.table.specs.Counts.{count_under}
use Rattle.props.specs.Step.{to_zero, name_at, step_at}
use Rattle.body.specs.Body.{pass, properties, first_named}
use Rattle.faces.specs.Faces.{width_of, faces_in, below, degenerate}
use Rattle.base.specs.Letters.{letters}
use Rattle.props.specs.Types.{long, float, string, v3, v4}
use Rattle.rules.specs.Table.{lines}
use Rattle.rules.specs.Rules.{lists, rule_in, of_kind, lines_of, is_text, is_one_of}
use Rattle.judge.specs.Properties.{length_of, value_of, types_of, beside_of}
use Rattle.judge.specs.Typed.{typed}
use Rattle.judge.specs.Missing.{misses, lacks}
use Rattle.judge.specs.Valued.{fault_of, valued, node_faces, node_links}
use Rattle.judge.specs.Judge.{verdict_at, judged_at, judged}
use Rattle.format.specs.Forest.{header, file_header}
use Rattle.links.specs.Links.{reached, links_at, links_from, resolved, linked}
use Rattle.walk.specs.Walk.{header_at, node_refusal, and_then, children, node, children_at, walk_of, limited}
use Rattle.reader.specs.Reading.{Refused}
use Rattle.reader.specs.Reading.{Numbers, numbers_of, judged_with, ruled, own_known, own_unknown, checked, verdict, reading_of, table_after}

-- a table of 8,193 numbers, none of them 0
abbrev lent : List ℕ
lent = replicate 8193 7

-- all numbers of a reading with it; and some numbers of the table after that
unfoldable read : List ℕ → Numbers
unfolding val number_at bytes_ok same read_digits number number_after parents_table parents_in parents_of is_known stands_at_top stands_under may_stand to_zero name_at step_at pass properties first_named width_of faces_in below degenerate letters lines lists rule_in of_kind lines_of is_text is_one_of le length_of value_of types_of beside_of typed misses lacks fault_of valued node_faces node_links verdict_at judged_at judged reached links_at links_from resolved linked header_at node_refusal and_then children node children_at walk_of limited count_under judged_with ruled own_known own_unknown checked verdict has_room reading_of
read s = numbers_of (reading_of s lent)

unfoldable after : List ℕ → (places : List ℕ) → List ℕ
unfolding read zeroed cleared flat filled table_after
after s places = map (λ i. get_or (table_after s lent) i 99) places

-- "all other numbers of it are 0"
abbrev refusal : (number place : ℕ) → Numbers
refusal n place = record { number = n; place = place; nodes = 0; flags = 0; own_known = 0; own_unknown = 0; faces = 0; degenerate = 0; links = 0 }

-- ---- files: a header and nodes; a node and its children; a property
unfoldable cast : List ℕ → List ℕ
unfolding le file_header
cast bs = file_header 1 0 ++ bs

unfoldable node_of : (kind count : ℕ) → (body : List ℕ) (children : ℕ) (below : List ℕ) → List ℕ
unfolding le header
node_of kind count body children below = header kind (24 + length body + length below) 0 count children ++ (body ++ below)

unfoldable property : (code : ℕ) (name : String) → List ℕ → List ℕ
unfolding le letters
property code name content = le 2 code ++ (le 2 (length (letters name)) ++ (le 4 1 ++ (letters name ++ content)))

-- a Root with two children, the first of which has its header at 40 and its first property at 64
abbrev pair : List ℕ → List ℕ → List ℕ
pair one two = cast (node_of root 0 [] 2 (one ++ two))

-- E3, "one bare root"
abbrev bare : List ℕ
bare = cast (node_of root 0 [] 0 [])

-- Metadata, 36 bytes: `up` is "x", "y" or "z", or else 15 at it
abbrev upward : ℕ → List ℕ
upward letter = node_of metadata 1 (property string "up" (letter ∷ 0 ∷ [])) 0 []

-- a Model: `n` twice is 13 at the second, 34 bytes after the header's start
abbrev named : List ℕ
named = property string "n" (0 ∷ [])

abbrev once : List ℕ
once = node_of model 1 named 0 []

abbrev twice : List ℕ
twice = node_of model 2 (named ++ named) 0 []

-- an Instance, 109 bytes, whose `rf` reaches no File: 16 at it
abbrev astray : List ℕ
astray =
    node_of instance 4 (property long "rf" (replicate 8 1) ++
    (property v3 "p" (replicate 12 0) ++ (property v4 "r" (replicate 16 0) ++ property v3 "s" (replicate 12 0)))) 0 []

-- an Animation without `fr`, which is 14 at the node, and with it
abbrev still : List ℕ
still = node_of animation 0 [] 0 []

abbrev timed : List ℕ
timed = node_of animation 1 (property float "fr" (replicate 4 0)) 0 []

-- ---- which refusal

-- three nodes, of 24, 36 and 34 own bytes
abbrev right : Numbers
right = record { number = 0; place = 0; nodes = 3; flags = 0; own_known = 94; own_unknown = 0; faces = 0; degenerate = 0; links = 0 }

-- row by row: row 1's 15 before row 2's 13, which is the answer where row 1 is right; the other way round row 1's 13
rows_in_turn : (read (pair (upward 0x77) twice) ≡ refusal 15 64) × (read (pair (upward 0x78) twice) ≡ refusal 13 110)
    × (read (pair twice (upward 0x77)) ≡ refusal 13 74) × (read (pair once (upward 0x77)) ≡ refusal 15 98) × (read (pair (upward 0x78) once) ≡ right)
unfolding read cast node_of property
rows_in_turn = (refl, refl, refl, refl, refl)

-- all rules of all rows before the first link: row 1's link reaches no node, and the answer is row 2's 14 or 15; where row 2 is
-- right it is 16
rules_before_links : (read (pair astray still) ≡ refusal 14 149) × (read (pair astray (upward 0x77)) ≡ refusal 15 173)
    × (read (pair astray timed) ≡ refusal 16 64)
unfolding read cast node_of property
rules_before_links = (refl, refl, refl)

-- ---- the table

-- "On 1 the table is untouched": one of 8,191 numbers, or of three, whatever the file is
short : (s : List ℕ) → (reading_of s (replicate 8191 7) ≡ Refused 1 0) × (table_after s (replicate 8191 7) ≡ replicate 8191 7)
    × (reading_of s (5 ∷ 6 ∷ 7 ∷ []) ≡ Refused 1 0) × (table_after s (5 ∷ 6 ∷ 7 ∷ []) ≡ 5 ∷ 6 ∷ 7 ∷ [])
unfolding has_room reading_of table_after
short s = (refl, refl, refl, refl)

-- "on others its first 8,192 numbers are 0", and number 8,192, counted from 0, is not of these: a refusal of the walk, of the
-- rules, and of a link
refused : map (λ s. after s (0 ∷ 7 ∷ 8 ∷ 8191 ∷ 8192 ∷ [])) ([] ∷ pair (upward 0x77) twice ∷ pair astray timed ∷ [])
    ≡ (0 ∷ 0 ∷ 0 ∷ 0 ∷ 7 ∷ []) ∷ (0 ∷ 0 ∷ 0 ∷ 0 ∷ 7 ∷ []) ∷ (0 ∷ 0 ∷ 0 ∷ 0 ∷ 7 ∷ []) ∷ []
unfolding after cast node_of property
refused = refl

-- "On acceptance the numbers after the rows, up to 8,192, are 0": E3's row is eight numbers, of which 0, 3, 4 and 5 are shown
accepted : after bare (0 ∷ 3 ∷ 4 ∷ 5 ∷ 8 ∷ 9 ∷ 8191 ∷ 8192 ∷ []) ≡ root ∷ no_parent ∷ 40 ∷ 40 ∷ 0 ∷ 0 ∷ 0 ∷ 7 ∷ []
unfolding after cast node_of
accepted = refl
