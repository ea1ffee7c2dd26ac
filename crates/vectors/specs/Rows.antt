-- The lines of the functions 19 and 20: the table, and the lookup that goes by one.
use Rattle.std.specs.Prelude.{ℕ, ◌*◌, ◌/◌, cond, List, [], ◌∷◌, ◌++◌, eqb, ltb, length, drop}
use Rattle.le.specs.Le.{number_at}
use Rattle.table.specs.declared.Row.{Row}
use Rattle.table.specs.Table.{fields, has_row, row_at, with_row, has_room, cleared}
use Rattle.lookup.specs.Lookup.{Found, At, Refused, lookup_of, number_of, part_of}
use Rattle.vectors.specs.declared.frame.Frame.{Frame}
use Rattle.vectors.specs.Answers.{bit}
use Rattle.vectors.specs.Buffers.{numbers_in, checksum}

-- a row from its eight numbers
abbrev pub row_in : List ℕ → Row
row_in s = record {
  kind = number_at 4 s 0;
  low = number_at 4 s 4;
  high = number_at 4 s 8;
  parent = number_at 4 s 12;
  start = number_at 4 s 16;
  end = number_at 4 s 20;
  properties = number_at 4 s 24;
  children = number_at 4 s 28;
}

-- ---- 19: whether row k is there, its numbers, whether the table has room; the table with the row put, and that cleared

unfoldable pub seen_numbers : (t : List ℕ) (k : ℕ) → List ℕ
seen_numbers t k = bit (has_row t k) ∷ (fields (row_at t k) ++ (bit (has_room t) ∷ []))

unfoldable pub row_table : (t : List ℕ) (k : ℕ) → Row → List ℕ
row_table t k r = seen_numbers t k ++ (checksum (with_row t k r) ∷ checksum (cleared (with_row t k r)) ∷ [])

-- the table is in the block, with nothing after it but a part of a number; one over 8,300 numbers is not lent
unfoldable pub table_line : (k : ℕ) (block row : List ℕ) → List ℕ
table_line k block row =
    cond (ltb 8300 (length block / 4)) [] (row_table (numbers_in block (length block / 4)) k (row_in row))

-- ---- 20: the lookup's number, a place of 0, where the data lies, and the data

unfoldable pub places_of : Found → List ℕ
places_of (At start end) = start ∷ end ∷ []
places_of (Refused n) = 0 ∷ 0 ∷ []

abbrev pub found_numbers : Found → List ℕ
found_numbers found = number_of found ∷ 0 ∷ places_of found

unfoldable pub lookup_numbers : (s t : List ℕ) (k : ℕ) (name : List ℕ) → List ℕ
lookup_numbers s t k name = let found = lookup_of s t k name in found_numbers found ++ (checksum (part_of s found) ∷ [])

-- the table of n numbers is in the block, and then the name; one over 8,300 numbers, or past the block's end, is not lent
unfoldable pub query_line : (s block : List ℕ) (n k : ℕ) → List ℕ
query_line s block n k =
    cond (ltb 8300 n) []
    (cond (ltb (length block) (n * 4)) []
    (lookup_numbers s (numbers_in block n) k (drop (n * 4) block)))

-- 19, and every other number as 20
unfoldable pub row_line : Frame → (first second : List ℕ) → List ℕ
row_line f first second =
    cond (eqb f.function 19) (table_line f.x first second) (query_line first second f.y f.x)
