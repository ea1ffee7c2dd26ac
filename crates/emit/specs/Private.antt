-- What private functions promise each other; nothing here need be believed.
use Rattle.std.specs.Prelude.{ℕ, ◌+◌, ◌-◌, ◌≤◌, ◌<◌, ◌≡◌, List, ◌++◌, length, get_or, Option, Some, None}
use Rattle.base.specs.Limits.{most_bytes}
use Rattle.table.specs.declared.Row.{Row}
use Rattle.table.specs.Table.{row_at, rows_at}
use Rattle.format.specs.Forest.{header}
use Rattle.format.specs.Rows.{hash_of, body_of}
use Rattle.emit.specs.declared.Measured.{Measured}
use Rattle.emit.specs.Emission.{node_size, nodes_bytes, roots}

-- a row's header with a size, and its body
abbrev pub node_bytes : (s : List ℕ) (size : ℕ) → Row → List ℕ
node_bytes s size r = header r.kind size (hash_of r) r.properties r.children ++ body_of s r

-- at place i, the size of row i, of n rows
abbrev pub Sized : (sizes s t : List ℕ) (n : ℕ) → Type 0
Sized zs s t n = (i : ℕ) → i < n → get_or zs i 0 ≡ node_size s i (row_at t i) (rows_at t (i + 1) (n - (i + 1)))

-- what was measured of n rows: their file is over 16,777,216 bytes; or it is not, and this is its length, and its roots, and
-- its sizes
abbrev pub MeasuresRows : Option Measured → (s t : List ℕ) (n : ℕ) (sizes : List ℕ) → Type 0
MeasuresRows None s t n zs = most_bytes < 16 + length (nodes_bytes s 0 (rows_at t 0 n))
MeasuresRows (Some m) s t n zs =
    (m.length ≡ 16 + length (nodes_bytes s 0 (rows_at t 0 n))) × (m.length ≤ most_bytes) × (m.roots ≡ roots (rows_at t 0 n)) × Sized zs s t n
