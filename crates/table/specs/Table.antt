-- Document 01's table: "One row of eight u32 per node, in the file order of their headers: kind, hash low, hash high,
-- parent row (0xFFFFFFFF for none), body start, body end, property count, child count." The layout is known here alone.
use Rattle.std.specs.Prelude.{ℕ, zero, suc, ◌+◌, ◌-◌, ◌*◌, ◌/◌, ◌%◌, Bool, cond, ◌&&◌, List, [], ◌∷◌, ◌++◌, eqb, leb, length, get_or, take, drop, replicate}
use Rattle.std.proofs.lemmas.List.Edits.{sets}
use Rattle.base.specs.Limits.{most_rows, table_numbers}
use Rattle.table.specs.declared.Row.{Row}

-- the row whose numbers start at a place
abbrev pub row_from : List ℕ → ℕ → Row
row_from t at = record {
  kind = get_or t at 0;
  low = get_or t (at + 1) 0;
  high = get_or t (at + 2) 0;
  parent = get_or t (at + 3) 0;
  start = get_or t (at + 4) 0;
  end = get_or t (at + 5) 0;
  properties = get_or t (at + 6) 0;
  children = get_or t (at + 7) 0;
}

-- the numbers of a row
abbrev pub fields : Row → List ℕ
fields r =
    r.kind ∷ r.low ∷ r.high ∷ r.parent ∷
    r.start ∷ r.end ∷ r.properties ∷ r.children ∷ []

-- "0xFFFFFFFF for none"
abbrev pub no_parent : ℕ
no_parent = 0xFFFFFFFF

-- not 40: "row not wholly in the table"
unfoldable pub has_row : List ℕ → ℕ → Bool
has_row t k = leb (k * 8 + 8) (length t)

abbrev pub blank : Row
blank = row_from [] 0

-- a row of the table; one of zeros where it does not lie wholly in it
unfoldable pub row_at : List ℕ → ℕ → Row
row_at t k = cond (has_row t k) (row_from t (k * 8)) blank

-- n rows of the table, from row k on
unfoldable pub rows_at : List ℕ → (k n : ℕ) → List Row
rows_at t k zero = []
rows_at t k (suc n) = row_at t k ∷ rows_at t (suc k) n

-- the table with one row put; the same table where the row does not lie wholly in it
unfoldable pub with_row : List ℕ → ℕ → Row → List ℕ
with_row t k r = cond (has_row t k) (sets t (k * 8) (fields r)) t

-- rows put one after the other, from row k on
unfoldable pub put_rows : List ℕ → ℕ → List Row → List ℕ
put_rows t k [] = t
put_rows t k (r ∷ rs) = put_rows (with_row t k r) (suc k) rs

-- the table is not "shorter than 8,192 numbers (1,024 rows)"
unfoldable pub has_room : List ℕ → Bool
has_room t = leb table_numbers (length t)

-- n zeros, and the rest as it was
unfoldable pub zeroed : ℕ → List ℕ → List ℕ
zeroed n t = replicate n 0 ++ drop n t

-- "its first 8,192 numbers are 0", and the rest as it was; a table without room is left
unfoldable pub cleared : List ℕ → List ℕ
cleared t = cond (has_room t) (zeroed table_numbers t) t

-- the first k rows as they were, and then zeros up to 8,192 numbers, and the rest as it was; a table without room is left,
-- and so is one that k rows would outnumber
unfoldable pub cleared_from : (k : ℕ) → List ℕ → List ℕ
cleared_from k t =
    cond (leb k most_rows && has_room t) (take (k * 8) t ++ replicate (table_numbers - k * 8) 0 ++ drop table_numbers t) t

-- the numbers of rows, one row after the other
unfoldable pub flat : List Row → List ℕ
flat [] = []
flat (r ∷ rs) = fields r ++ flat rs

-- of a table with room and at most 1,024 rows: the rows, and "the numbers after the rows, up to 8,192, are 0", and the
-- rest as it was
unfoldable pub filled : List Row → List ℕ → List ℕ
filled rs t = flat rs ++ replicate (table_numbers - length rs * 8) 0 ++ drop table_numbers t

-- ---- a plan: document 01's "plan rows", lent as their numbers

-- how many rows lie wholly in some numbers
abbrev pub row_count : List ℕ → ℕ
row_count t = length t / 8

-- not 20: "plan length not a multiple of 8 or over 1,024 rows"
abbrev pub is_plan : List ℕ → Bool
is_plan t = eqb (length t % 8) 0 && leb (row_count t) most_rows

-- the numbers of a table's first n rows: a plan if n is at most 1,024 and all of them lie in the table
abbrev pub first_rows : List ℕ → (n : ℕ) → List ℕ
first_rows t n = take (n * 8) t
