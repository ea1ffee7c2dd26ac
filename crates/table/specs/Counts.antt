-- How many rows are under a parent: the children of a node, or those of a kind among them.
use Rattle.std.specs.Prelude.{ℕ, zero, suc, Bool, true, cond, ◌&&◌, List, [], ◌∷◌, eqb, None, Option, Some}
use Rattle.table.specs.declared.Row.{Row}

-- whether a row is one of those that are counted: all, or those of a kind
abbrev pub is_counted : Option ℕ → Row → Bool
is_counted None r = true
is_counted (Some kind) r = eqb r.kind kind

-- how many of them have this parent
unfoldable pub count_under : Option ℕ → List Row → (parent : ℕ) → ℕ
count_under which [] parent = 0
count_under which (r ∷ rs) parent =
    cond (is_counted which r && eqb r.parent parent) (suc (count_under which rs parent)) (count_under which rs parent)

-- the counts for n rows from row p on
unfoldable pub counts_from : Option ℕ → List Row → (p n : ℕ) → List ℕ
counts_from which rows p zero = []
counts_from which rows p (suc n) = count_under which rows p ∷ counts_from which rows (suc p) n

-- n counts: place p has the count for row p
abbrev pub counts_under : Option ℕ → List Row → (n : ℕ) → List ℕ
counts_under which rows n = counts_from which rows 0 n
