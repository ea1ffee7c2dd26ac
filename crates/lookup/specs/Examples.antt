-- Lookups, computed by the definition.
use Rattle.std.specs.Prelude.{ℕ, ◌≡◌, refl, List, [], ◌∷◌, ◌++◌}
use Rattle.le.specs.Le.{val, number_at}
use Rattle.names.specs.Names.{bytes_ok, same}
use Rattle.props.specs.Step.{to_zero, step_at, data_at, name_at}
use Rattle.body.specs.Body.{pass, properties, exactly, first_named}
use Rattle.table.specs.Table.{has_row, row_at}
use Rattle.lookup.specs.Lookup.{Found}
use Rattle.lookup.specs.Lookup.{At, Refused}
use Rattle.lookup.specs.Lookup.{in_body, lookup_of, part_of}

unfoldable look : List ℕ → List ℕ → ℕ → List ℕ → Found
unfolding val number_at bytes_ok same to_zero name_at step_at data_at pass properties exactly first_named has_row row_at in_body lookup_of
look bs t row name = lookup_of bs t row name

abbrev one : ℕ → ℕ → List ℕ
one name value = 0x62 ∷ 0 ∷ 1 ∷ 0 ∷ 1 ∷ 0 ∷ 0 ∷ 0 ∷ name ∷ value ∷ []

-- four bytes before a body of `a`, `b`, and `a` again; and one byte after it
abbrev bytes : List ℕ
bytes = 9 ∷ 9 ∷ 9 ∷ 9 ∷ (one 97 5 ++ (one 98 6 ++ (one 97 7 ++ (9 ∷ []))))

-- a row with this body and this count; the row's other numbers do not matter
abbrev row : ℕ → ℕ → ℕ → List ℕ
row start end count = 1 ∷ 2 ∷ 3 ∷ 4 ∷ start ∷ end ∷ count ∷ 8 ∷ []

-- of two equal names the first; another; and that part
found : (look bytes (row 4 34 3) 0 (97 ∷ []) ≡ At 13 14) × (look bytes (row 4 34 3) 0 (98 ∷ []) ≡ At 23 24) × (part_of bytes (At 23 24) ≡ 6 ∷ [])
unfolding look
found = (refl, refl, refl)

-- the second row of a table
second : look bytes (row 0 0 0 ++ row 4 34 3) 1 (98 ∷ []) ≡ At 23 24
unfolding look
second = refl

-- a row cut by the table's end; a body reversed, one past the bytes; one property too few, and one too many; a name that
-- is not there, and one that no property can have
refused : (look bytes (1 ∷ 2 ∷ 3 ∷ 4 ∷ 4 ∷ 34 ∷ 3 ∷ []) 0 (97 ∷ []) ≡ Refused 40) × (look bytes (row 34 4 3) 0 (97 ∷ []) ≡ Refused 41) × (look bytes (row 4 36 3) 0 (97 ∷ []) ≡ Refused 41) × (look bytes (row 4 34 2) 0 (97 ∷ []) ≡ Refused 42) × (look bytes (row 4 34 4) 0 (97 ∷ []) ≡ Refused 42) × (look bytes (row 4 34 3) 0 (99 ∷ []) ≡ Refused 43) × (look bytes (row 4 34 3) 0 [] ≡ Refused 43)
unfolding look
refused = (refl, refl, refl, refl, refl, refl, refl)

-- an empty body at the bytes' end, and one past it
edges : (look bytes (row 35 35 0) 0 (97 ∷ []) ≡ Refused 43) × (look bytes (row 36 36 0) 0 (97 ∷ []) ≡ Refused 41)
unfolding look
edges = (refl, refl)

-- of two refusals the smaller number: no row before all else, the body's place before its properties
ordered : (look [] [] 0 [] ≡ Refused 40) × (look bytes (row 34 4 65) 0 (97 ∷ []) ≡ Refused 41) × (look bytes (row 4 35 3) 0 (99 ∷ []) ≡ Refused 42)
unfolding look
ordered = (refl, refl, refl)

empty : part_of bytes (Refused 43) ≡ []
empty = refl
