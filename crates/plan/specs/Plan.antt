-- Document 01's writer, 21 to 24: "then by row: 21 parent wrong (none exactly for Root; else an earlier known row that is the
-- previous row or an ancestor of it), 22 body end before its start or past the source, 23 a known row's body is not exactly its
-- count (at most 64) of properties by the rules of 9 to 11, 24 a known row's child count is not the rows naming it". "All of 21
-- to 24 are judged for one row before the next. The place is the row for these."
use Rattle.std.specs.Prelude.{ℕ, suc, Bool, false, cond, not, ◌||◌, List, [], ◌∷◌, eqb, length, None}
use Rattle.base.specs.Refusals.{Refusal}
use Rattle.base.specs.Refusals.{refusal, no_refusal, refused_or}
use Rattle.kinds.specs.Kinds.{root, is_known}
use Rattle.table.specs.declared.Row.{Row}
use Rattle.table.specs.Table.{no_parent}
use Rattle.table.specs.Counts.{count_under}
use Rattle.body.specs.Body.{exactly}
use Rattle.format.specs.Rows.{body_of, outside}

-- ---- 21

-- A row's path: its own number, if it is known, and those of its ancestors, nearest first.

-- the part of a path from a row on; empty where the row is not on it
unfoldable pub up_from : (row : ℕ) (path : List ℕ) → List ℕ
up_from row [] = []
up_from row (q ∷ qs) = cond (eqb q row) (q ∷ qs) (up_from row qs)

-- the path of row k, given the previous row's; none, a Root's parent, is on no path
unfoldable pub path_of : (k : ℕ) → Row → (previous : List ℕ) → List ℕ
path_of k r previous = let above = up_from r.parent previous in cond (is_known r.kind) (k ∷ above) above

-- whether a row is on a path
unfoldable pub is_on : (row : ℕ) (path : List ℕ) → Bool
is_on row [] = false
is_on row (q ∷ qs) = eqb q row || is_on row qs

-- "none exactly for Root; else an earlier known row that is the previous row or an ancestor of it"
unfoldable pub right_parent : Row → (previous : List ℕ) → Bool
right_parent r previous = cond (eqb r.kind root) (eqb r.parent no_parent) (is_on r.parent previous)

-- ---- 24: how many are "the rows naming it", among all rows of the plan, be they wrong themselves
abbrev pub naming : List Row → (row : ℕ) → ℕ
naming rows row = count_under None rows row

-- ---- one row, and all

-- a row's refusal, 0 for none, by the source, the previous row's path and the number of rows naming this one
unfoldable pub row_refusal : (s : List ℕ) (previous : List ℕ) (named : ℕ) → Row → ℕ
row_refusal s previous named r =
    cond (not (right_parent r previous)) 21
    (cond (outside (length s) r) 22
    (cond (not (is_known r.kind)) 0
    (cond (not (exactly (body_of s r) r.properties)) 23
    (cond (not (eqb r.children named)) 24 0))))

-- the first refusal of the rows from row k on, with its row as its place; `all` are the plan's rows
unfoldable pub plan_refusal_from : (s : List ℕ) (all : List Row) (k : ℕ) (previous : List ℕ) → List Row → Refusal
plan_refusal_from s all k previous [] = no_refusal
plan_refusal_from s all k previous (r ∷ rs) =
    let number = row_refusal s previous (naming all k) r in
    refused_or number (refusal number k) (plan_refusal_from s all (suc k) (path_of k r previous) rs)

-- the first refusal of a plan's rows
unfoldable pub plan_refusal : (s : List ℕ) → List Row → Refusal
plan_refusal s rows = plan_refusal_from s rows 0 [] rows
