-- The nodes that a plan's rows describe, by their parents, and where those nodes lie in a file.
use Rattle.std.specs.Prelude.{ℕ, suc, ◌+◌, cond, List, [], ◌∷◌, eqb}
use Rattle.kinds.specs.Kinds.{is_known}
use Rattle.table.specs.declared.Row.{Row}
use Rattle.table.specs.Table.{no_parent}
use Rattle.format.specs.Forest.{Forest, end, known, unknown}
use Rattle.format.specs.Rows.{hash_of, body_of, own_bytes}

-- a row's node, its body out of the source, with the nodes below it and its later siblings
abbrev pub node_of : (s : List ℕ) → Row → (kids next : Forest) → Forest
node_of s r kids next = cond (is_known r.kind)
    (known r.kind (hash_of r) r.properties (body_of s r) kids next)
    (unknown r.kind (hash_of r) r.properties r.children (body_of s r) next)

-- of rows from row k on, the nodes whose parent is the given row, in their order, each with those under it. (A row under an
-- unknown row, or under one that does not come before it, is in no forest; of a plan that is written none is lost: the
-- statement `WrittenEncodes`.)
unfoldable pub nodes_under : (s : List ℕ) (k : ℕ) → List Row → (parent : ℕ) → Forest
nodes_under s k [] parent = end
nodes_under s k (r ∷ rs) parent =
    let next = nodes_under s (suc k) rs parent in
    cond (eqb r.parent parent) (node_of s r (nodes_under s (suc k) rs k) next) next

-- a plan's forest: the nodes whose parent is none
abbrev pub forest_of : (s : List ℕ) → List Row → Forest
forest_of s rows = nodes_under s 0 rows no_parent

-- a row, its body as long as it was, after a header at a place
abbrev pub moved_to : (at : ℕ) → Row → Row
moved_to at r = record {
  kind = r.kind;
  low = r.low;
  high = r.high;
  parent = r.parent;
  start = at + 24;
  end = at + own_bytes r;
  properties = r.properties;
  children = r.children;
}

-- rows "but for where bodies lie": node after node from a place on, each taking its own bytes
unfoldable pub laid_out : (at : ℕ) → List Row → List Row
laid_out at [] = []
laid_out at (r ∷ rs) = moved_to at r ∷ laid_out (at + own_bytes r) rs
