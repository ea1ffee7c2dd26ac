-- Rows of small tables, computed.
use Rattle.std.specs.Prelude.{ℕ, ◌≡◌, refl, true, false, List, [], ◌∷◌, get_or, replicate, None, Some}
use Rattle.table.specs.declared.Row.{Row}
use Rattle.table.specs.Table.{no_parent, has_row, row_at, with_row, put_rows, has_room, zeroed, cleared, cleared_from, flat, filled}
use Rattle.table.specs.Counts.{count_under, counts_from, counts_under}

-- a row, and three numbers of a second
abbrev eleven : List ℕ
eleven = 10 ∷ 11 ∷ 12 ∷ 13 ∷ 14 ∷ 15 ∷ 16 ∷ 17 ∷ 18 ∷ 19 ∷ 20 ∷ []

-- two rows
abbrev sixteen : List ℕ
sixteen = 30 ∷ 31 ∷ 32 ∷ 33 ∷ 34 ∷ 35 ∷ 36 ∷ 37 ∷ 40 ∷ 41 ∷ 42 ∷ 43 ∷ 44 ∷ 45 ∷ 46 ∷ 47 ∷ []

abbrev seven : List ℕ
seven = 1 ∷ 2 ∷ 3 ∷ 4 ∷ 5 ∷ 6 ∷ 7 ∷ []

abbrev low : Row
low = record { kind = 1; low = 2; high = 3; parent = 4; start = 5; end = 6; properties = 7; children = 8 }

abbrev high : Row
high = record { kind = 91; low = 92; high = 93; parent = 94; start = 95; end = 96; properties = 97; children = 98 }

-- rows 0 and 1 of seven, eleven and sixteen numbers, and row 2 of sixteen
rows_there : (has_row seven 0 ∷ has_row eleven 0 ∷ has_row eleven 1 ∷ has_row sixteen 1 ∷ has_row sixteen 2 ∷ []) ≡ false ∷ true ∷ false ∷ true ∷ false ∷ []
unfolding has_row
rows_there = refl

-- no number of a row that is not wholly there is read
part_of_a_row : row_at eleven 1 ≡ record { kind = 0; low = 0; high = 0; parent = 0; start = 0; end = 0; properties = 0; children = 0 }
unfolding has_row row_at
part_of_a_row = refl

put_first : with_row eleven 0 low ≡ 1 ∷ 2 ∷ 3 ∷ 4 ∷ 5 ∷ 6 ∷ 7 ∷ 8 ∷ 18 ∷ 19 ∷ 20 ∷ []
unfolding has_row with_row
put_first = refl

put_outside : with_row eleven 1 low ≡ eleven
unfolding has_row with_row
put_outside = refl

read_back : row_at (with_row sixteen 1 low) 1 ≡ low
unfolding has_row row_at with_row
read_back = refl

-- the third row finds no place
put_three : put_rows sixteen 0 (high ∷ low ∷ high ∷ []) ≡ 91 ∷ 92 ∷ 93 ∷ 94 ∷ 95 ∷ 96 ∷ 97 ∷ 98 ∷ 1 ∷ 2 ∷ 3 ∷ 4 ∷ 5 ∷ 6 ∷ 7 ∷ 8 ∷ []
unfolding has_row with_row put_rows
put_three = refl

some_zeros : zeroed 3 seven ≡ 0 ∷ 0 ∷ 0 ∷ 4 ∷ 5 ∷ 6 ∷ 7 ∷ []
unfolding zeroed
some_zeros = refl

no_room_lem : cleared eleven ≡ eleven
unfolding has_room cleared
no_room_lem = refl

room : (has_room (replicate 8191 7) ≡ false) × (has_room (replicate 8192 7) ≡ true)
unfolding has_room
room = (refl, refl)

-- the numbers 8,191 and 8,192 of a cleared table, counted from 0
last_cleared : (get_or (cleared (replicate 8193 7)) 8191 9 ≡ 0) × (get_or (cleared (replicate 8193 7)) 8192 9 ≡ 7)
unfolding has_room zeroed cleared
last_cleared = (refl, refl)

-- the last number that is kept before row 1, the first that is not, the last, and the first after them
some_cleared : (get_or (cleared_from 1 (replicate 8193 7)) 7 9 ≡ 7) × (get_or (cleared_from 1 (replicate 8193 7)) 8 9 ≡ 0) × (get_or (cleared_from 1 (replicate 8193 7)) 8191 9 ≡ 0) × (get_or (cleared_from 1 (replicate 8193 7)) 8192 9 ≡ 7)
unfolding has_room cleared_from
some_cleared = (refl, refl, refl, refl)

-- from row 1,024 on, and without room
none_cleared : (get_or (cleared_from 1024 (replicate 8193 7)) 8191 9 ≡ 7) × (cleared_from 1 eleven ≡ eleven)
unfolding has_room cleared_from
none_cleared = (refl, refl)

-- the last number of a row, the first after it, and the first that is kept
some_filled : (get_or (filled (low ∷ []) (replicate 8193 7)) 7 9 ≡ 8) × (get_or (filled (low ∷ []) (replicate 8193 7)) 8 9 ≡ 0) × (get_or (filled (low ∷ []) (replicate 8193 7)) 8192 9 ≡ 7)
unfolding flat filled
some_filled = (refl, refl, refl)

-- a row under no parent, two rows of kind 7 and one of kind 8 under row 0, and one of kind 7 under row 1
abbrev under : (kind parent : ℕ) → Row
under kind parent = record { kind = kind; low = 0; high = 0; parent = parent; start = 0; end = 0; properties = 0; children = 0 }

abbrev family : List Row
family = under 7 no_parent ∷ under 7 0 ∷ under 8 0 ∷ under 7 0 ∷ under 7 1 ∷ []

some_counted : (count_under None family 0 ≡ 3) × (count_under (Some 7) family 0 ≡ 2) × (count_under (Some 8) family 1 ≡ 0) × (count_under None family no_parent ≡ 1)
unfolding count_under
some_counted = (refl, refl, refl, refl)

-- a place for each of three rows
some_counts : counts_under None family 3 ≡ 3 ∷ 1 ∷ 0 ∷ []
unfolding count_under counts_from
some_counts = refl
