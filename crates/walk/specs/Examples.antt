-- Walks over small files, computed by the definition.
use Rattle.std.specs.Prelude.{ℕ, ◌≡◌, refl, List, [], ◌∷◌, ◌++◌, map, take, replicate, None, Option, Some}
use Rattle.le.specs.Le.{val, number_at, le}
use Rattle.names.specs.Names.{bytes_ok}
use Rattle.kinds.specs.Kinds.{root, model, mesh, parents_table, parents_in, parents_of, is_known, stands_at_top, stands_under, may_stand}
use Rattle.props.specs.Step.{to_zero, name_at, step_at}
use Rattle.body.specs.Body.{pass, properties}
use Rattle.table.specs.declared.Row.{Row}
use Rattle.table.specs.Table.{no_parent}
use Rattle.format.specs.Forest.{header, file_header}
use Rattle.walk.specs.Walk.{Answer}
use Rattle.walk.specs.Walk.{Walked, refused_walk, header_at, node_refusal, and_then, children, node, children_at, walk_of, limited, answer}

unfoldable walk : List ℕ → Walked
unfolding val number_at bytes_ok parents_table parents_in parents_of is_known stands_at_top stands_under may_stand to_zero name_at step_at pass properties header_at node_refusal and_then children node children_at walk_of limited
walk s = limited s

unfoldable answered : List ℕ → Answer
unfolding walk answer
answered s = answer s

-- a file of the given number of roots, and a node's header alone; hashes and flags are 0
unfoldable cast : ℕ → List ℕ → List ℕ
unfolding le file_header
cast roots bs = file_header roots 0 ++ bs

unfoldable head : ℕ → ℕ → ℕ → ℕ → List ℕ
unfolding le header
head kind size properties children = header kind size 0 properties children

-- E1 and E2; E9, and the first four bytes wrong
headers : (answered (cast 0 []) ≡ record { number = 0; place = 0; nodes = 0; flags = 0 }) × (walk [] ≡ refused_walk 3 0)
    × (walk (0x63 ∷ 0x61 ∷ 0x73 ∷ 0x74 ∷ 2 ∷ replicate 11 0) ≡ refused_walk 4 4)
    × (walk (0x63 ∷ 0x61 ∷ 0x73 ∷ 0x75 ∷ 1 ∷ replicate 11 0) ≡ refused_walk 3 0)
unfolding answered walk cast
headers = (refl, refl, refl, refl)

-- the row of a first root without properties
abbrev root_row : ℕ → Row
root_row children = record { kind = root; low = 0; high = 0; parent = no_parent; start = 40; end = 40; properties = 0; children = children }

-- E3
bare : (answered (cast 1 (head root 24 0 0)) ≡ record { number = 0; place = 0; nodes = 1; flags = 0 })
    × ((walk (cast 1 (head root 24 0 0))).rows ≡ root_row 0 ∷ [])
unfolding answered walk cast head
bare = (refl, refl)

-- E4 to E8; in E5 and E6 the root's row was put
refused : (walk (take 39 (cast 1 (head root 24 0 0))) ≡ refused_walk 5 16)
    × (walk (cast 1 (head root 24 0 0 ++ (0 ∷ []))) ≡ record { number = 12; at = 40; rows = root_row 0 ∷ [] })
    × (walk (cast 1 (head root 25 0 0 ++ (0 ∷ []))) ≡ record { number = 12; at = 40; rows = root_row 0 ∷ [] })
    × (walk (cast 1 (head root 23 0 0)) ≡ refused_walk 5 16) × (walk (cast 1 (head mesh 24 0 0)) ≡ refused_walk 6 16)
unfolding walk cast head
refused = (refl, refl, refl, refl, refl)

-- E10, but with counts set: an unknown node's say nothing
abbrev child : List ℕ
child = head 0x6E676177 27 7 4294967295 ++ (97 ∷ 98 ∷ 99 ∷ [])

abbrev child_row : Row
child_row = record { kind = 0x6E676177; low = 0; high = 0; parent = 0; start = 64; end = 67; properties = 7; children = 4294967295 }

wagon : walk (cast 1 (head root 51 0 1 ++ child)) ≡ record { number = 0; at = 67; rows = root_row 1 ∷ child_row ∷ [] }
unfolding walk cast head
wagon = refl

-- of E10: an unknown node at the top; a child that passes its parent's end, though not the file's; one that is not there
places : map walk (cast 1 child ∷ cast 2 (head root 50 0 1 ++ (child ++ head root 24 0 0)) ∷ cast 1 (head root 51 0 2 ++ child) ∷ []) ≡
    refused_walk 6 16 ∷
    record { number = 5; at = 40; rows = root_row 1 ∷ [] } ∷
    record { number = 5; at = 67; rows = root_row 2 ∷ child_row ∷ [] } ∷ []
unfolding walk cast head
places = refl

-- a count is believed, and 2^32 - 1 roots without a byte are found out at once
believed : walk (cast 4294967295 []) ≡ refused_walk 5 16
unfolding walk cast
believed = refl

-- a property of the root, `a` with one byte; of type 0x61; cut by the node's end, though not by the file's; and 65 of them
one : ℕ → List ℕ
one code = code ∷ 0 ∷ 1 ∷ 0 ∷ 1 ∷ 0 ∷ 0 ∷ 0 ∷ 97 ∷ 5 ∷ []

bodies : map answered
    (cast 1 (head root 34 1 0 ++ one 0x62) ∷ cast 1 (head root 34 1 0 ++ one 0x61) ∷
    cast 1 (head root 33 1 0 ++ one 0x62) ∷ cast 1 (head root 24 65 0) ∷ []) ≡
    record { number = 0; place = 0; nodes = 1; flags = 0 } ∷ record { number = 11; place = 40; nodes = 0; flags = 0 } ∷
    record { number = 10; place = 40; nodes = 0; flags = 0 } ∷ record { number = 9; place = 16; nodes = 0; flags = 0 } ∷ []
unfolding answered walk cast head one
bodies = refl

-- the order 5, 6, 7, 8, 9, each refused also for the next: of kind, size, property count, room, parent, row and depth
unfoldable verdict : ℕ → ℕ → ℕ → ℕ → Option ℕ → ℕ → ℕ → ℕ
unfolding parents_table parents_in parents_of is_known stands_at_top stands_under may_stand node_refusal
verdict kind size count room parent row depth =
    node_refusal (record { kind = kind; size = size; low = 0; high = 0; properties = count; children = 0 }) room parent row depth

ordered : (verdict mesh 23 0 99 None 0 1 ≡ 5) × (verdict mesh 24 0 24 None 1024 1 ≡ 6) × (verdict root 24 0 24 None 1024 9 ≡ 7)
    × (verdict root 24 65 24 None 1023 9 ≡ 8) × (verdict root 24 65 24 None 1023 8 ≡ 9)
unfolding verdict
ordered = (refl, refl, refl, refl, refl)

-- the last of each that is taken; 65 properties of an unknown node; and a size one past the end
limits : (verdict root 24 64 24 None 1023 8 ≡ 0) × (verdict 0 24 65 24 (Some root) 0 2 ≡ 0) × (verdict root 25 0 24 None 0 1 ≡ 5)
unfolding verdict
limits = (refl, refl, refl)

-- E11: the Mesh has `vp`, three elements of v3, and `f`, three of b
abbrev vertices : List ℕ
vertices = 0x33 ∷ 0x76 ∷ 2 ∷ 0 ∷ 3 ∷ 0 ∷ 0 ∷ 0 ∷ 118 ∷ 112 ∷ replicate 36 0

abbrev faces : List ℕ
faces = 0x62 ∷ 0 ∷ 1 ∷ 0 ∷ 3 ∷ 0 ∷ 0 ∷ 0 ∷ 102 ∷ 0 ∷ 1 ∷ 2 ∷ []

nested : walk (cast 1 (head root 130 0 1 ++ (head model 106 0 1 ++ (head mesh 82 2 0 ++ (vertices ++ faces))))) ≡ record {
  number = 0;
  at = 146;
  rows =
      root_row 1 ∷
      record { kind = model; low = 0; high = 0; parent = 0; start = 64; end = 64; properties = 0; children = 1 } ∷
      record { kind = mesh; low = 0; high = 0; parent = 1; start = 88; end = 146; properties = 2; children = 0 } ∷ [];
}
unfolding walk cast head
nested = refl

-- rows are counted on after a node's children: two roots, the first with a Model and an unknown node below it
siblings :
    map (λ r. r.parent)
    (walk (cast 2 (head root 72 0 1 ++ (head model 48 0 1 ++ (head 0 24 0 0 ++ (head root 48 0 1 ++ head model 24 0 0)))))).rows
    ≡ no_parent ∷ 0 ∷ 1 ∷ no_parent ∷ 3 ∷ []
unfolding walk cast head
siblings = refl
