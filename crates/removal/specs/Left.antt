-- What is left of a file's rows, bytes and links when some of its rows are marked.
use Rattle.std.specs.Prelude.{ℕ, suc, ◌+◌, ◌-◌, ◌≤◌, ◌<◌, ◌≡◌, ◌⊎◌, Bool, true, false, cond, ◌&&◌, ◌||◌, List, [], ◌∷◌, map, eqb, leb, ltb, length, get_or, take}
use Rattle.table.specs.declared.Row.{Row}
use Rattle.table.specs.Table.{no_parent, blank}
use Rattle.base.specs.Lists.{Each}
use Rattle.links.specs.Links.{Link}
use Rattle.valid.specs.Nodes.{NodeProperty, NodeLink}
use Rattle.writer.specs.Forest.{laid_out}
use Rattle.removal.specs.Tally.{is_around, count_fall}

-- ---- rows

-- how many rows are unmarked; and the number that row i has among the unmarked ones
unfoldable pub unmarked : List Bool → ℕ
unmarked [] = 0
unmarked (true ∷ marks) = unmarked marks
unmarked (false ∷ marks) = suc (unmarked marks)

abbrev pub new_number : List Bool → (i : ℕ) → ℕ
new_number marks i = unmarked (take i marks)

-- row i stays: it is there, and unmarked. Only of such a row is `new_number` the number (Numbers.antt).
abbrev pub Stays : List Bool → (i : ℕ) → Type 0
Stays marks i = get_or marks i true ≡ false

-- a row's parent, where it has one, stays
abbrev pub ParentStays : List Bool → Row → Type 0
ParentStays marks r = (r.parent ≡ no_parent) ⊎ Stays marks r.parent

-- the unmarked ones of some rows, or of what there is one of for each row
unfoldable pub unmarked_of : {A : Type 0} → List A → List Bool → List A
unmarked_of [] marks = []
unmarked_of (x ∷ xs) [] = []
unmarked_of (x ∷ xs) (true ∷ marks) = unmarked_of xs marks
unmarked_of (x ∷ xs) (false ∷ marks) = x ∷ unmarked_of xs marks

-- row i with its parent renumbered, and its child count less its marked children; `all` and `marked` are those of all rows
abbrev pub renumbered : (all : List Row) (marked : List Bool) (i : ℕ) → Row → Row
renumbered all marked i r = record {
  kind = r.kind;
  low = r.low;
  high = r.high;
  parent = cond (eqb r.parent no_parent) no_parent (new_number marked r.parent);
  start = r.start;
  end = r.end;
  properties = r.properties;
  children = r.children - count_fall all marked i;
}

-- the unmarked ones of some rows, each renumbered; the first of these rows is row i
unfoldable pub renumbered_from : (all : List Row) (marked : List Bool) (i : ℕ) → List Row → List Bool → List Row
renumbered_from all marked i [] marks = []
renumbered_from all marked i (r ∷ rows) [] = []
renumbered_from all marked i (r ∷ rows) (true ∷ marks) = renumbered_from all marked (suc i) rows marks
renumbered_from all marked i (r ∷ rows) (false ∷ marks) = renumbered all marked i r ∷ renumbered_from all marked (suc i) rows marks

-- "the old ones without theirs, renumbered, but for where bodies lie and those child counts": bodies lie one node after the
-- other from place 16 on, each as long as it was. `laid_out` goes by the rows alone: it sets their starts and ends, by their own
-- bytes.
unfoldable pub rows_left : List Row → List Bool → List Row
rows_left rows marks = laid_out 16 (renumbered_from rows marks 0 rows marks)

-- ---- bytes

-- a place of the file lies in the node of a marked row: in its header, which starts 24 bytes before its body, or in its body
unfoldable pub in_marked : List Row → List Bool → (at : ℕ) → Bool
in_marked [] marks at = false
in_marked (r ∷ rows) [] at = false
in_marked (r ∷ rows) (mark ∷ marks) at = (mark && (leb r.start (at + 24) && ltb at r.end)) || in_marked rows marks at

-- "the first one without the removed nodes": its bytes from place `at` on, as they stand, but for those of marked nodes
unfoldable pub bytes_from : List Row → List Bool → (at : ℕ) (bytes : List ℕ) → List ℕ
bytes_from rows marks at [] = []
bytes_from rows marks at (b ∷ bytes) =
    let later = bytes_from rows marks (suc at) bytes in
    cond (in_marked rows marks at) later (b ∷ later)

abbrev pub bytes_left : (s : List ℕ) → List Row → List Bool → List ℕ
bytes_left s rows marks = bytes_from rows marks 0 s

-- a place of the new file in a field of four bytes of an unmarked row's header, where that row is related to some marked row;
-- `first` is the field's offset in the header, which starts 24 bytes before the row's body
pub record InHeader (Related : (row marked : ℕ) → Type 0) (first : ℕ) (rows : List Row) (marks : List Bool) (at : ℕ) : Type 0 where
  pub row : ℕ
  pub marked : ℕ
  pub stays : Stays marks row
  pub is_marked : get_or marks marked false ≡ true
  pub related : Related row marked
  pub from : (get_or (rows_left rows marks) (new_number marks row) blank).start + first ≤ at + 24
  pub before : at + 24 < (get_or (rows_left rows marks) (new_number marks row) blank).start + first + 4

-- in the size of a node around a marked one; in the child count of a marked one's parent
abbrev pub InSize : (rows : List Row) (marks : List Bool) (at : ℕ) → Type 0
InSize rows marks at = InHeader (λ i j. is_around rows (length rows) i j ≡ true) 4 rows marks at

abbrev pub InCount : (rows : List Row) (marks : List Bool) (at : ℕ) → Type 0
InCount rows marks at = InHeader (λ i j. (get_or rows j blank).parent ≡ i) 20 rows marks at

-- ---- links

-- a link's node and the node that it reaches stay: node i is that of row i
abbrev pub NodeLinkStays : List Bool → NodeLink → Type 0
NodeLinkStays marks x = Stays marks x.source.node × Stays marks x.target

-- a link with its nodes renumbered; its property is the same
abbrev pub moved_source : List Bool → NodeProperty → NodeProperty
moved_source marks x = record { node = new_number marks x.node; kind = x.kind; property = x.property }

abbrev pub moved_node_link : List Bool → NodeLink → NodeLink
moved_node_link marks x = record { source = moved_source marks x.source; target = new_number marks x.target }

-- a link's row and the rows that it reaches stay
abbrev pub LinkStays : List Bool → Link → Type 0
LinkStays marks l = Stays marks l.row × Each (Stays marks) l.targets

-- a link with its rows renumbered, and its property as far into its body as it was
abbrev pub moved_link : List Row → List Bool → Link → Link
moved_link rows marks l = record {
  row = new_number marks l.row;
  property = (get_or (rows_left rows marks) (new_number marks l.row) blank).start + (l.property - (get_or rows l.row blank).start);
  targets = map (new_number marks) l.targets;
}
