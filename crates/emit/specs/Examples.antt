-- The bytes of small plans, computed by the definition.
use Rattle.std.specs.Prelude.{ℕ, suc, ◌≡◌, refl, List, [], ◌∷◌}
use Rattle.le.specs.Le.{le}
use Rattle.kinds.specs.Kinds.{root, model}
use Rattle.table.specs.declared.Row.{Row}
use Rattle.table.specs.Table.{no_parent}
use Rattle.format.specs.Forest.{header, file_header}
use Rattle.emit.specs.Emission.{sizes_under, node_size, nodes_bytes, roots, file_bytes, refused_writing, writing_done, by_length, emission, output_left, output_of}

abbrev row : (kind parent start stop : ℕ) → Row
row kind parent start stop = record { kind = kind; low = 1; high = 2; parent = parent; start = start; end = stop; properties = 7; children = 9 }

-- the size of each row
unfoldable sizes : List ℕ → ℕ → List Row → List ℕ
unfolding sizes_under
sizes s k [] = []
sizes s k (r ∷ rs) = node_size s k r rs ∷ sizes s (suc k) rs

-- a Root, two rows below it, one below the second; rows whose parent is a later row, or no row, count nowhere
chain : sizes (5 ∷ 6 ∷ 7 ∷ []) 0 (row root no_parent 0 0 ∷ row model 0 0 2 ∷ row model 0 1 3 ∷ row model 2 2 3 ∷ row model 5 0 3 ∷ row model 9 0 3 ∷ []) ≡ 101 ∷ 26 ∷ 51 ∷ 25 ∷ 27 ∷ 27 ∷ []
unfolding sizes
chain = refl

unfoldable file : ℕ → List ℕ → List Row → List ℕ
unfolding le header file_header sizes_under nodes_bytes roots file_bytes
file flags s rows = file_bytes flags s rows

-- E10's nodes, but with flags, hashes and counts set: the root's size is 51, its child's 27
abbrev wagon : List Row
wagon = row root no_parent 3 3 ∷ row 0x6E676177 0 0 3 ∷ []

wagon_bytes : file 0x01020304 (97 ∷ 98 ∷ 99 ∷ []) wagon ≡ 0x63 ∷ 0x61 ∷ 0x73 ∷ 0x74 ∷ 1 ∷ 0 ∷ 0 ∷ 0 ∷ 1 ∷ 0 ∷ 0 ∷ 0 ∷ 4 ∷ 3 ∷ 2 ∷ 1 ∷
    0x72 ∷ 0x6F ∷ 0x6F ∷ 0x74 ∷ 51 ∷ 0 ∷ 0 ∷ 0 ∷ 1 ∷ 0 ∷ 0 ∷ 0 ∷ 2 ∷ 0 ∷ 0 ∷ 0 ∷ 7 ∷ 0 ∷ 0 ∷ 0 ∷ 9 ∷ 0 ∷ 0 ∷ 0 ∷
    0x77 ∷ 0x61 ∷ 0x67 ∷ 0x6E ∷ 27 ∷ 0 ∷ 0 ∷ 0 ∷ 1 ∷ 0 ∷ 0 ∷ 0 ∷ 2 ∷ 0 ∷ 0 ∷ 0 ∷ 7 ∷ 0 ∷ 0 ∷ 0 ∷ 9 ∷ 0 ∷ 0 ∷ 0 ∷
    97 ∷ 98 ∷ 99 ∷ []
unfolding file
wagon_bytes = refl

-- no rows into 17 bytes: the sixteenth is the header's last, the seventeenth is left; and into 15, which are left
abbrev seventeen : List ℕ
seventeen = 50 ∷ 51 ∷ 52 ∷ 53 ∷ 54 ∷ 55 ∷ 56 ∷ 57 ∷ 58 ∷ 59 ∷ 60 ∷ 61 ∷ 62 ∷ 63 ∷ 64 ∷ 65 ∷ 66 ∷ []

abbrev fifteen : List ℕ
fifteen = 50 ∷ 51 ∷ 52 ∷ 53 ∷ 54 ∷ 55 ∷ 56 ∷ 57 ∷ 58 ∷ 59 ∷ 60 ∷ 61 ∷ 62 ∷ 63 ∷ 64 ∷ []

empty : (output_of 0 [] [] seventeen ≡ 0x63 ∷ 0x61 ∷ 0x73 ∷ 0x74 ∷ 1 ∷ 0 ∷ 0 ∷ 0 ∷ 0 ∷ 0 ∷ 0 ∷ 0 ∷ 0 ∷ 0 ∷ 0 ∷ 0 ∷ 66 ∷ []) × (output_of 0 [] [] fifteen ≡ fifteen)
    × (emission 0 [] [] 17 ≡ writing_done 16) × (emission 0 [] [] 15 ≡ refused_writing 26 0)
unfolding le header file_header sizes_under nodes_bytes roots file_bytes emission output_left
empty = (refl, refl, refl, refl)

-- 25 before 26; lengths that are just right
lengths : (by_length 16777217 0 ≡ refused_writing 25 0) × (by_length 16777216 16777215 ≡ refused_writing 26 0) × (by_length 16777216 16777216 ≡ writing_done 16777216)
lengths = (refl, refl, refl)
