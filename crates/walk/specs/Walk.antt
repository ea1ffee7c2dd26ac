-- Document 01's refusals 2 to 12 over any bytes: "1 to 4; then nodes as they come, each with 5, 6, 7, 8 and, if known, 9,
-- its properties (header fits, type, name size, name fits, name bytes, string length, data fits), its children, 12." The
-- verdict on a node's header goes by its numbers and the room left, as that on a property's does (props).
use Rattle.std.specs.Prelude.{ℕ, zero, suc, ◌+◌, ◌-◌, Bool, cond, not, ◌&&◌, ◌||◌, List, [], ◌∷◌, ◌++◌, eqb, leb, ltb, length, take, drop, None, Option, Some, Result, Ok, Err}
use Rattle.base.specs.Limits.{most_bytes, most_properties, most_rows}
use Rattle.base.specs.declared.Refusal.{Refusal}
use Rattle.base.specs.Refusals.{refused_or, reason_number}
use Rattle.le.specs.Le.{number_at}
use Rattle.kinds.specs.Kinds.{is_known, may_stand}
use Rattle.table.specs.declared.Row.{Row}
use Rattle.table.specs.Table.{no_parent, put_rows}
use Rattle.body.specs.Body.{properties}
use Rattle.walk.specs.declared.Header.{Header}
use Rattle.walk.specs.declared.Walked.{Walked as CodeWalked}

-- ---- one node's header

-- "Node header, 24 bytes: kind u32, size u32, hash u64, property count u32, child count u32.", at the start of some bytes;
-- the hash in its halves
unfoldable pub header_at : List ℕ → Header
header_at bs = record {
  kind = number_at 4 bs 0;
  size = number_at 4 bs 4;
  low = number_at 4 bs 8;
  high = number_at 4 bs 12;
  properties = number_at 4 bs 16;
  children = number_at 4 bs 20;
}

-- 5: "under 24 bytes left in the enclosing node or file, size under 24, or size past its end"
abbrev pub ill_sized : (size room : ℕ) → Bool
ill_sized size room = (ltb room 24 || ltb size 24) || ltb room size

-- 9: "known node with over 64 properties"
abbrev pub too_many : (kind count : ℕ) → Bool
too_many kind count = is_known kind && ltb most_properties count

-- 5 to 9, in their order, from the header's numbers, the bytes left from its start to the end of what encloses it, the
-- parent's kind, the node's row and its depth. 0 is no refusal.
unfoldable pub node_refusal : Header → (room : ℕ) → Option ℕ → (row depth : ℕ) → ℕ
node_refusal h room parent row depth =
    cond (ill_sized h.size room) 5
    (cond (not (may_stand parent h.kind)) 6  -- "kind not allowed there"
    (cond (leb most_rows row) 7  -- "a 1,025th node"
    (cond (ltb 8 depth) 8  -- "depth over 8 (a root has depth 1)"
    (cond (too_many h.kind h.properties) 9 0))))

-- the row of a node with this header, from its parent's row, and its body's start and end
abbrev pub row_of_header : Header → (above start end : ℕ) → Row
row_of_header h above start end = record {
  kind = h.kind;
  low = h.low;
  high = h.high;
  parent = above;
  start = start;
  end = end;
  properties = h.properties;
  children = h.children;
}

-- ---- nodes and child lists

-- how a walk ended: the refusal's number, 0 for none; its place, or the place just past what was walked; and the rows of
-- the nodes whose body's end was found, in the order of their headers
pub record Walked : Type 0 where
  pub number : ℕ
  pub at : ℕ
  pub rows : List Row

abbrev pub refused_walk : (number at : ℕ) → Walked
refused_walk n at = record { number = n; at = at; rows = [] }

abbrev pub walked_to : (at : ℕ) → Walked
walked_to at = record { number = 0; at = at; rows = [] }

-- a walk that comes after some rows
abbrev pub after_rows : List Row → Walked → Walked
after_rows rs w = record { number = w.number; at = w.at; rows = rs ++ w.rows }

-- the walk w where it is refused; else what comes from its end on, after its rows
unfoldable pub and_then : Walked → (next : (at rows : ℕ) → Walked) → Walked
and_then w next = refused_or w.number w (after_rows w.rows (next w.at (length w.rows)))

-- what follows a node's header, up to the node's end
abbrev pub inside : Header → List ℕ → List ℕ
inside h bs = take (h.size - 24) (drop 24 bs)

-- "A node reads its children, and each child is again a node". The bytes end with the node or the file that encloses them. The bound is
-- for the recursion alone: any that is greater than the number of bytes gives the same walk (the statement `Unbounded`).
unfoldable mutual
  -- the node at the start of the bytes, from its parent's kind and row, its depth, its place and its row
  pub node : (bound : ℕ) → Option ℕ → (above depth at row : ℕ) → List ℕ → Walked
  node zero parent above depth at row bs = refused_walk 5 at
  node (suc n) parent above depth at row bs =
      let h = header_at bs in
      let number = node_refusal h (length bs) parent row depth in
      let p = properties (inside h bs) h.properties in
      let start = at + 24 in
      let end = start + p.at in
      refused_or number (refused_walk number at)  -- 5 to 9
      -- "Any other kind is unknown: .. only its size is judged, and what follows its header is not read."
      (cond (not (is_known h.kind)) (after_rows (row_of_header h above start (at + h.size) ∷ []) (walked_to (at + h.size)))
      (refused_or p.number (refused_walk p.number end)  -- "its properties", 10 and 11
      (after_rows (row_of_header h above start end ∷ [])  -- "its children"
      (children n (Some h.kind) row (depth + 1) h.children end (row + 1) (drop p.at (inside h bs))))))

  -- exactly `count` nodes, one after the other, which fill the bytes
  pub children : (bound : ℕ) → Option ℕ → (above depth count at row : ℕ) → List ℕ → Walked
  children zero parent above depth count at row bs = refused_walk 5 at
  -- 12: "bytes after the last child of a known node, or the last root"
  children (suc n) parent above depth zero at row bs = cond (ltb 0 (length bs)) (refused_walk 12 at) (walked_to at)
  children (suc n) parent above depth (suc k) at row bs =
      and_then (node n parent above depth at row bs)
      (λ next rows. children n parent above depth k next (row + rows) (drop (next - at) bs))

-- with a bound that is enough
unfoldable pub node_at : Option ℕ → (above depth at row : ℕ) → List ℕ → Walked
node_at parent above depth at row bs = node (suc (length bs)) parent above depth at row bs

unfoldable pub children_at : Option ℕ → (above depth count at row : ℕ) → List ℕ → Walked
children_at parent above depth count at row bs = children (suc (length bs)) parent above depth count at row bs

-- ---- the file

-- not 3: "under 16 bytes or wrong first four", which are `63 61 73 74`
abbrev pub is_cast : List ℕ → Bool
is_cast s = leb 16 (length s) && eqb (number_at 4 s 0) 0x74736163

-- 3 to 12. "File header, 16 bytes: `63 61 73 74`, version u32 = 1, root count u32, flags u32 (any, kept)."; "a root has
-- depth 1"
unfoldable pub walk_of : List ℕ → Walked
walk_of s =
    cond (not (is_cast s)) (refused_walk 3 0)
    (cond (not (eqb (number_at 4 s 4) 1)) (refused_walk 4 4)  -- "version not 1"
    (children_at None no_parent 1 (number_at 4 s 8) 16 0 (drop 16 s)))

abbrev pub flags_of : List ℕ → ℕ
flags_of s = number_at 4 s 12

-- 2 to 12. 2: "file over 16,777,216 bytes". A row's places are below 2^32, so the code, which takes any bytes, cannot do
-- without it.
unfoldable pub limited : List ℕ → Walked
limited s = cond (ltb most_bytes (length s)) (refused_walk 2 0) (walk_of s)

-- what is answered: number 0, how many nodes there are, and the flags; or a refusal's number and place
pub record Answer : Type 0 where
  pub number : ℕ
  pub place : ℕ
  pub nodes : ℕ
  pub flags : ℕ

-- "all other numbers of it are 0"
abbrev pub refused_answer : (number place : ℕ) → Answer
refused_answer n place = record { number = n; place = place; nodes = 0; flags = 0 }

abbrev pub accepted_answer : (nodes flags : ℕ) → Answer
accepted_answer nodes flags = record { number = 0; place = 0; nodes = nodes; flags = flags }

-- as the code has it
abbrev pub answer_told : Result CodeWalked Refusal → Answer
answer_told (Ok w) = accepted_answer w.nodes w.flags
answer_told (Err r) = refused_answer (reason_number r.reason) r.place

unfoldable pub answer : List ℕ → Answer
answer s =
    let w = limited s in
    refused_or w.number (refused_answer w.number w.at) (accepted_answer (length w.rows) (flags_of s))

-- the table at exit, accepted or refused: the rows of the nodes whose body's end was found
abbrev pub table_walked : List ℕ → List ℕ → List ℕ
table_walked s t = put_rows t 0 (limited s).rows
