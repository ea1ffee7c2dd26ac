-- Demand 2, first half, as named statements. `Valid` (crate valid) is acceptance by propositions, with no number, place or
-- order; `reading_of` and `table_after` are the ordered reading and the table that it leaves: the contract of `reader::read`.
use Rattle.std.specs.Prelude.{ℕ, ◌+◌, ◌≤◌, ◌≡◌, ◌↔◌, cond, length}
use mathlib.Core.List.{List, [], ◌∷◌, map, flat_map}
use Rattle.base.specs.Limits.{table_numbers}
use Rattle.le.specs.Le.{AreBytes}
use Rattle.kinds.specs.Kinds.{is_known}
use Rattle.table.specs.declared.Row.{Row}
use Rattle.table.specs.Table.{filled}
use Rattle.body.specs.Body.{properties}
use Rattle.faces.specs.declared.Face.{Face}
use Rattle.faces.specs.Faces.{degenerate}
use Rattle.rules.specs.Rules.{lines_of}
use Rattle.judge.specs.Valued.{node_faces}
use Rattle.format.specs.Forest.{Forest, file_of}
use Rattle.format.specs.Rows.{hash_of, rows_of, body_of}
use Rattle.base.specs.Lists.{Each, Picks}
use Rattle.format.specs.Layout.{WellFormed}
use Rattle.links.specs.Links.{Link, links_of}
use Rattle.valid.specs.Valid.{Valid}
use Rattle.valid.specs.Nodes.{Node, nodes_of, known_bytes, unknown_bytes, all_faces, TwoEqual, NodeLink, LinksAre}
use Rattle.reader.specs.declared.Account.{Account}
use Rattle.reader.specs.Reading.{Accepted}
use Rattle.reader.specs.Reading.{own_known, own_unknown, reading_of, table_after}

-- the bytes are the file of some flags and some valid nodes
pub record IsValid (s : List ℕ) : Type 0 where
  pub flags : ℕ
  pub forest : Forest
  pub valid : Valid flags forest
  pub bytes : s ≡ file_of flags forest

-- the reading accepts them, with some account
pub record IsAccepted (s t : List ℕ) : Type 0 where
  pub account : Account
  pub accepts : reading_of s t ≡ Accepted account

-- "A file is accepted exactly when it meets the published Cast layout and document 01's rules", with any table that is not
-- "shorter than 8,192 numbers"
abbrev pub Exactly : Type 0
Exactly = (s t : List ℕ) → AreBytes s → table_numbers ≤ length t → (IsAccepted s t ↔ IsValid s)

-- ---- what is answered of an accepted file

-- the faces of a row, from its body's bytes, and of all rows
abbrev pub row_faces : (s : List ℕ) → Row → List Face
row_faces s r = cond (is_known r.kind) (node_faces (lines_of r.kind) (body_of s r) (properties (body_of s r) r.properties).starts) []

unfoldable pub faces_of : (s : List ℕ) → List Row → List Face
faces_of s rows = flat_map (row_faces s) rows

-- the kind and the hash of a row, and of a node
abbrev pub of_row : Row → ℕ × ℕ
of_row r = (r.kind, hash_of r)

abbrev pub of_node : Node → ℕ × ℕ
of_node n = (n.kind, n.hash)

-- a link's row and the rows that it reaches; its node and the node that it reaches
abbrev pub rows_of_link : Link → ℕ × List ℕ
rows_of_link l = (l.row, l.targets)

abbrev pub nodes_of_link : NodeLink → ℕ × List ℕ
nodes_of_link x = (x.source.node, x.target ∷ [])

-- Over the nodes and their properties (crate valid, Nodes.antt), which no count of the reading enters. Document 01's charges are
-- the own bytes of known and of unknown nodes, and the faces.
pub record AnswerOf (s : List ℕ) (f : Forest) (well : WellFormed f) (a : Account) : Type 0 where
  pub nodes : a.nodes ≡ length (nodes_of f well)
  pub known : a.known.0 ≡ known_bytes f well
  pub unknown : a.unknown.0 ≡ unknown_bytes f
  -- "The file header and the nodes' own bytes add up to the file's length"
  pub sum : 16 + (a.known.0 + a.unknown.0) ≡ length s
  pub faces : a.faces.0 ≡ length (all_faces (nodes_of f well))
  pub two_equal : List Face
  pub are_degenerate : Picks TwoEqual (all_faces (nodes_of f well)) two_equal
  pub degenerates : a.degenerate ≡ length two_equal
  pub link_list : List NodeLink
  pub are_links : LinksAre (nodes_of f well) link_list
  pub links : a.links ≡ length link_list
  -- node i is that of row i, and the rows have the same faces, in the same order, and the same links
  pub in_step : map of_row (rows_of f) ≡ map of_node (nodes_of f well)
  pub faces_by_row : faces_of s (rows_of f) ≡ all_faces (nodes_of f well)
  pub links_by_row : map rows_of_link (links_of s (rows_of f)) ≡ map nodes_of_link link_list

-- The same by the rows and the bytes, as the reading counts: "demand 2, which ties each to the rows"
pub record RowsGive (s : List ℕ) (rows : List Row) (a : Account) : Type 0 where
  pub nodes : a.nodes ≡ length rows
  pub known : a.known.0 ≡ own_known rows
  pub unknown : a.unknown.0 ≡ own_unknown rows
  pub sum : 16 + (a.known.0 + a.unknown.0) ≡ length s
  pub faces : a.faces.0 ≡ length (faces_of s rows)
  pub degenerates : a.degenerate ≡ degenerate (faces_of s rows)
  pub links : a.links ≡ length (links_of s rows)
  -- each link reaches exactly one row
  pub resolved : Each (λ l. length l.targets ≡ 1) (links_of s rows)

-- "its rows, links, faces and charges are those the rules give", for every way to see the file: any flags and valid
-- nodes that encode to it, and any table
abbrev pub AnswersTheRules : Type 0
AnswersTheRules = (s t : List ℕ) (flags : ℕ) (f : Forest) (a : Account) (v : Valid flags f) → s ≡ file_of flags f → reading_of s t ≡ Accepted a
    → (a.flags ≡ flags) × RowsGive s (rows_of f) a × (table_after s t ≡ filled (rows_of f) t) × AnswerOf s f v.well_formed.2 a

-- and there is but one way to see it
abbrev pub OneForest : Type 0
OneForest = (a b : ℕ) (f g : Forest) → Valid a f → Valid b g → file_of a f ≡ file_of b g → (a ≡ b) × (f ≡ g)
