-- Faces of document 01's E11 and E12, and others, computed by the definition.
use Rattle.std.specs.Prelude.{ℕ, ◌≡◌, refl, List, [], ◌∷◌}
use Rattle.le.specs.Le.{val, number_at}
use Rattle.faces.specs.Faces.{Below, NotBelow}
use Rattle.faces.specs.Faces.{Scanned}
use Rattle.faces.specs.Faces.{width_of, faces_in, below, degenerate, scan_of}

unfoldable scanned : ℕ → ℕ → ℕ → List ℕ → Scanned
unfolding val number_at width_of faces_in below degenerate scan_of
scanned vertices code count bytes = scan_of vertices (faces_in (width_of code) count bytes)

-- 0 1 2: one face; 0 1 1: one, degenerate; 0 1 3: the third value is not below 3
worked :
    (scanned 3 0x62 1 (0 ∷ 1 ∷ 2 ∷ []) ∷ scanned 3 0x62 1 (0 ∷ 1 ∷ 1 ∷ []) ∷ scanned 3 0x62 1 (0 ∷ 1 ∷ 3 ∷ []) ∷ scanned 0 0x69 0 [] ∷ []) ≡
    record { values = Below; faces = record { 0 = 1 }; degenerate = 0 } ∷
    record { values = Below; faces = record { 0 = 1 }; degenerate = 1 } ∷
    record { values = NotBelow 2; faces = record { 0 = 0 }; degenerate = 0 } ∷
    record { values = Below; faces = record { 0 = 0 }; degenerate = 0 } ∷ []
unfolding scanned
worked = refl

-- two equal values, wherever they stand: 0 1 0, 0 0 1, 0 0 0
equal : (scanned 3 0x62 1 (0 ∷ 1 ∷ 0 ∷ []) ∷ scanned 3 0x62 1 (0 ∷ 0 ∷ 1 ∷ []) ∷ scanned 3 0x62 1 (0 ∷ 0 ∷ 0 ∷ []) ∷ []) ≡
    record { values = Below; faces = record { 0 = 1 }; degenerate = 1 } ∷
    record { values = Below; faces = record { 0 = 1 }; degenerate = 1 } ∷
    record { values = Below; faces = record { 0 = 1 }; degenerate = 1 } ∷ []
unfolding scanned
equal = refl

-- of width 2: 256 1 0, 7 7 7
wide : scanned 257 0x68 2 (0 ∷ 1 ∷ 1 ∷ 0 ∷ 0 ∷ 0 ∷ 7 ∷ 0 ∷ 7 ∷ 0 ∷ 7 ∷ 0 ∷ []) ≡ record { values = Below; faces = record { 0 = 2 }; degenerate = 1 }
unfolding scanned
wide = refl
