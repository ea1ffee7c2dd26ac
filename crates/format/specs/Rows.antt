-- The rows of a forest, and its charges.
use Rattle.std.specs.Prelude.{ℕ, suc, ◌+◌, ◌-◌, ◌*◌, ◌/◌, ◌%◌, ◌^◌, Bool, ◌||◌, List, [], ◌∷◌, ◌++◌, ltb, length, take, drop}
use Rattle.table.specs.declared.Row.{Row}
use Rattle.table.specs.Table.{no_parent}
use Rattle.format.specs.Forest.{Forest, end, known, unknown, count, nodes, encode}

-- "kind, hash low, hash high, parent row (0xFFFFFFFF for none), body start, body end, property count, child count"
abbrev pub node_row : (kind hash parent start stop properties children : ℕ) → Row
node_row kind hash parent start stop properties children = record {
  kind = kind;
  low = hash % 256 ^ 4;
  high = hash / 256 ^ 4;
  parent = parent;
  start = start;
  end = stop;
  properties = properties;
  children = children;
}

-- a row's hash, all 64 bits of it
abbrev pub hash_of : Row → ℕ
hash_of r = r.low + 256 ^ 4 * r.high

-- "One row of eight u32 per node, in the file order of their headers": under a parent's row, the first node's row and the
-- place of its header given
abbrev pub rows : Forest → (parent row at : ℕ) → List Row
rows end parent row at = []
rows (known k h p body kids next) parent row at =
    node_row k h parent (at + 24) (at + 24 + length body) p (count kids)
    ∷ (rows kids row (suc row) (at + 24 + length body)
    ++ rows next parent (suc row + nodes kids) (at + 24 + length body + length (encode kids)))
rows (unknown k h p c rest next) parent row at =
    node_row k h parent (at + 24) (at + 24 + length rest) p c
    ∷ rows next parent (suc row) (at + 24 + length rest)

-- of a file: the first header comes just after the file's
abbrev pub rows_of : Forest → List Row
rows_of f = rows f no_parent 0 16

-- document 01's "body": the part of the file's bytes from the row's body start to its body end
abbrev pub body_of : (s : List ℕ) → Row → List ℕ
body_of s r = take (r.end - r.start) (drop r.start s)

-- whether a row's body lies outside some bytes, of which only their number matters. 22: "body end before its start or past
-- the source"; "41 and 42 as 22 and 23, over the bytes given"
abbrev pub outside : (size : ℕ) → Row → Bool
outside size r = ltb r.end r.start || ltb size r.end

-- document 01's "own bytes" of a node: "24 plus, for a known node, the sizes of its properties, and for an unknown one its
-- body". A known node's body is its properties, so that either is the body's length.
abbrev pub own_bytes : Row → ℕ
own_bytes r = 24 + (r.end - r.start)

-- of all nodes together
abbrev pub all_own_bytes : List Row → ℕ
all_own_bytes [] = 0
all_own_bytes (r ∷ rs) = own_bytes r + all_own_bytes rs
