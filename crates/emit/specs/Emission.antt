-- The bytes that any rows give over a source. Sizes and the root count are computed; kinds, hashes and the two counts are the
-- rows'. No row is judged. Document 01's refusals 25 and 26 go by the length of these bytes.
use Rattle.std.specs.Prelude.{ℕ, suc, ◌+◌, min, cond, List, [], ◌∷◌, ◌++◌, eqb, ltb, length, drop, Result, Ok, Err}
use Rattle.base.specs.declared.Refusal.{Refusal}
use Rattle.base.specs.Refusals.{reason_number}
use Rattle.base.specs.Limits.{most_bytes, most_rows}
use Rattle.kinds.specs.Kinds.{root}
use Rattle.table.specs.declared.Row.{Row}
use Rattle.table.specs.Table.{rows_at}
use Rattle.format.specs.Forest.{header, file_header}
use Rattle.format.specs.Rows.{hash_of, body_of}

-- ---- rows

-- the rows to emit: the first of a table, as many as are asked for, and at most 1,024
abbrev pub emitted_rows : (t : List ℕ) (rows : ℕ) → List Row
emitted_rows t rows = rows_at t 0 (min rows most_rows)

-- ---- sizes

-- the sizes of the rows under a parent, added up, of rows from row k on: each its 24 bytes, its body and the rows under it
unfoldable pub sizes_under : (s : List ℕ) (parent k : ℕ) → List Row → ℕ
sizes_under s parent k [] = 0
sizes_under s parent k (r ∷ rs) =
    (cond (eqb r.parent parent) (24 + length (body_of s r) + sizes_under s k (suc k) rs) 0) + sizes_under s parent (suc k) rs

-- "Size counts the node's own 24 bytes, its properties and all children" (of an unknown row, its whole body): the size of row k,
-- given the rows after it. Its children are those of them that are under it.
abbrev pub node_size : (s : List ℕ) (k : ℕ) → Row → (later : List Row) → ℕ
node_size s k r later = 24 + length (body_of s r) + sizes_under s k (suc k) later

-- ---- bytes

-- each row's header and body, from row k on, in the rows' order
unfoldable pub nodes_bytes : (s : List ℕ) (k : ℕ) → List Row → List ℕ
nodes_bytes s k [] = []
nodes_bytes s k (r ∷ rs) =
    header r.kind (node_size s k r rs) (hash_of r) r.properties r.children ++ (body_of s r ++ nodes_bytes s (suc k) rs)

-- how many rows are Roots
unfoldable pub roots : List Row → ℕ
roots [] = 0
roots (r ∷ rs) = cond (eqb r.kind root) (suc (roots rs)) (roots rs)

-- a whole file
unfoldable pub file_bytes : (flags : ℕ) (s : List ℕ) → List Row → List ℕ
file_bytes flags s rows = file_header (roots rows) flags ++ nodes_bytes s 0 rows

-- ---- the answer, and the output

-- number 0 and the length of what is written; or a refusal's number and place, and length 0
pub record Written : Type 0 where
  pub number : ℕ
  pub place : ℕ
  pub length : ℕ

-- "A refusal answers length 0"
abbrev pub refused_writing : (number place : ℕ) → Written
refused_writing n place = record { number = n; place = place; length = 0 }

abbrev pub writing_done : (length : ℕ) → Written
writing_done n = record { number = 0; place = 0; length = n }

-- as the code has it
abbrev pub written_told : Result ℕ Refusal → Written
written_told (Ok n) = writing_done n
written_told (Err r) = refused_writing (reason_number r.reason) r.place

-- "25 length over 16,777,216, 26 output too short"
abbrev pub by_length : (n room : ℕ) → Written
by_length n room = cond (ltb most_bytes n) (refused_writing 25 0) (cond (ltb room n) (refused_writing 26 0) (writing_done n))

unfoldable pub emission : (flags : ℕ) (s : List ℕ) → List Row → (room : ℕ) → Written
emission flags s rows room = by_length (length (file_bytes flags s rows)) room

-- "A refusal ... leaves the output; success leaves what lies past the length": an output with these bytes put where the number
-- is 0
unfoldable pub output_left : (number : ℕ) (bytes out : List ℕ) → List ℕ
output_left n bytes out = cond (eqb n 0) (bytes ++ drop (length bytes) out) out

abbrev pub output_of : (flags : ℕ) (s : List ℕ) → List Row → (out : List ℕ) → List ℕ
output_of flags s rows out = output_left (emission flags s rows (length out)).number (file_bytes flags s rows) out
