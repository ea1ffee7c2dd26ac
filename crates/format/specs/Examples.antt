-- Small files of document 01, computed by the definition.
use Rattle.std.specs.Prelude.{ℕ, ◌≡◌, refl, List, [], ◌∷◌}
use Rattle.le.specs.Le.{le}
use Rattle.kinds.specs.Kinds.{root}
use Rattle.table.specs.Table.{no_parent}
use Rattle.format.specs.Forest.{Forest, end, known, unknown, header, file_header, file_of}
use Rattle.format.specs.Rows.{rows_of, all_own_bytes}

unfoldable file : ℕ → Forest → List ℕ
unfolding le header file_header file_of
file flags f = file_of flags f

-- E1
no_roots : file 0 end ≡ 0x63 ∷ 0x61 ∷ 0x73 ∷ 0x74 ∷ 1 ∷ 0 ∷ 0 ∷ 0 ∷ 0 ∷ 0 ∷ 0 ∷ 0 ∷ 0 ∷ 0 ∷ 0 ∷ 0 ∷ []
unfolding file
no_roots = refl

-- E3
bare : Forest
bare = known root 0 0 [] end end

bare_root : file 0 bare ≡ 0x63 ∷ 0x61 ∷ 0x73 ∷ 0x74 ∷ 1 ∷ 0 ∷ 0 ∷ 0 ∷ 1 ∷ 0 ∷ 0 ∷ 0 ∷ 0 ∷ 0 ∷ 0 ∷ 0 ∷
    0x72 ∷ 0x6F ∷ 0x6F ∷ 0x74 ∷ 24 ∷ 0 ∷ 0 ∷ 0 ∷ 0 ∷ 0 ∷ 0 ∷ 0 ∷ 0 ∷ 0 ∷ 0 ∷ 0 ∷ 0 ∷ 0 ∷ 0 ∷ 0 ∷ 0 ∷ 0 ∷ 0 ∷ 0 ∷ []
unfolding file bare
bare_root = refl

bare_row : rows_of bare ≡ record { kind = root; low = 0; high = 0; parent = no_parent; start = 40; end = 40; properties = 0; children = 0 } ∷ []
unfolding bare
bare_row = refl

-- E10, but with flags, a hash and counts set: the root's size is 51, its child's 27
wagon : Forest
wagon = known root 0x0000000200000001 0 [] (unknown 0x6E676177 0 7 9 (97 ∷ 98 ∷ 99 ∷ []) end) end

wagon_bytes : file 0x01020304 wagon ≡ 0x63 ∷ 0x61 ∷ 0x73 ∷ 0x74 ∷ 1 ∷ 0 ∷ 0 ∷ 0 ∷ 1 ∷ 0 ∷ 0 ∷ 0 ∷ 4 ∷ 3 ∷ 2 ∷ 1 ∷
    0x72 ∷ 0x6F ∷ 0x6F ∷ 0x74 ∷ 51 ∷ 0 ∷ 0 ∷ 0 ∷ 1 ∷ 0 ∷ 0 ∷ 0 ∷ 2 ∷ 0 ∷ 0 ∷ 0 ∷ 0 ∷ 0 ∷ 0 ∷ 0 ∷ 1 ∷ 0 ∷ 0 ∷ 0 ∷
    0x77 ∷ 0x61 ∷ 0x67 ∷ 0x6E ∷ 27 ∷ 0 ∷ 0 ∷ 0 ∷ 0 ∷ 0 ∷ 0 ∷ 0 ∷ 0 ∷ 0 ∷ 0 ∷ 0 ∷ 7 ∷ 0 ∷ 0 ∷ 0 ∷ 9 ∷ 0 ∷ 0 ∷ 0 ∷
    97 ∷ 98 ∷ 99 ∷ []
unfolding file wagon
wagon_bytes = refl

wagon_rows : rows_of wagon ≡
    record { kind = root; low = 1; high = 2; parent = no_parent; start = 40; end = 40; properties = 0; children = 1 } ∷
    record { kind = 0x6E676177; low = 0; high = 0; parent = 0; start = 64; end = 67; properties = 7; children = 9 } ∷ []
unfolding wagon
wagon_rows = refl

-- 24 of the root, 27 of its child
wagon_charge : all_own_bytes (rows_of wagon) ≡ 51
unfolding wagon
wagon_charge = refl
