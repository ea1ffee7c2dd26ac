-- What private functions promise each other; nothing here need be believed.
use Rattle.std.specs.Prelude.{ℕ, zero, suc, ◌<◌, ◌≡◌, List, [], ◌∷◌, get_or}
use Rattle.base.specs.Limits.{most_rows}
use Rattle.table.specs.declared.Row.{Row}
use Rattle.table.specs.Table.{no_parent, row_at}
use Rattle.plan.specs.Plan.{path_of, naming}

-- the path of the row before row i of a table
unfoldable pub path_at : (t : List ℕ) (i : ℕ) → List ℕ
path_at t zero = []
path_at t (suc i) = path_of i (row_at t i) (path_at t i)

-- climbing by parents from a row's number gives this path: it starts there, each row's parent is the next, and the last row
-- has none. The numbers descend, the first from below a bound.
abbrev pub Climbs : (t : List ℕ) (below from : ℕ) (path : List ℕ) → Type 0
Climbs t below from [] = from ≡ no_parent
Climbs t below from (q ∷ qs) = (from ≡ q) × (q < below) × Climbs t q (row_at t q).parent qs

-- at place p, how many rows name row p
abbrev pub NamingCounted : (counts : List ℕ) (rows : List Row) → Type 0
NamingCounted counts rows = (p : ℕ) → p < most_rows → get_or counts p 0 ≡ naming rows p
