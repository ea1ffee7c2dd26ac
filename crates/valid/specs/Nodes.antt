-- What the nodes of a file count, over the forest and its properties: no row, no place, and none of the reading's own counts.
use Rattle.std.specs.Prelude.{ℕ, zero, suc, ◌+◌, ◌*◌, ◌/◌, ◌<◌, ◌≡◌, ◌⊎◌, cond, eqb, length, get_or}
use mathlib.Core.List.{List, [], ◌∷◌, ◌++◌, map, flat_map}
use Rattle.le.specs.Le.{val}
use Rattle.kinds.specs.Kinds.{mesh}
use Rattle.faces.specs.declared.Face.{Face}
use Rattle.base.specs.Letters.{letters}
use Rattle.rules.specs.Table.{Line, lines, link_to}
use Rattle.format.specs.Forest.{Forest, end, known, unknown}
use Rattle.base.specs.Lists.{Each, Some, Picks}
use Rattle.format.specs.Layout.{Property, property_bytes, WellFormed}
use Rattle.valid.specs.Lines.{Lists, ByLine}
use Rattle.valid.specs.Obeys.{value, of_named, elements_of}

-- ---- nodes

-- a node's kind, hash and properties; an unknown node's properties are not read
pub record Node : Type 0 where
  pub kind : ℕ
  pub hash : ℕ
  pub properties : List Property

-- all nodes, "in the file order of their headers". (A well-formed known node is of one list of properties: `OneBody`.)
abbrev pub nodes_of : (f : Forest) → WellFormed f → List Node
nodes_of end w = []
nodes_of (known k h p body kids next) w =
    record { kind = k; hash = h; properties = w.3.properties } ∷ (nodes_of kids w.4 ++ nodes_of next w.5)
nodes_of (unknown k h p c rest next) w = record { kind = k; hash = h; properties = [] } ∷ nodes_of next w.3

-- ---- own bytes: "24 plus, for a known node, the sizes of its properties, and for an unknown one its body"
abbrev pub known_bytes : (f : Forest) → WellFormed f → ℕ
known_bytes end w = 0
known_bytes (known k h p body kids next) w =
    24 + length (flat_map property_bytes w.3.properties) + (known_bytes kids w.4 + known_bytes next w.5)
known_bytes (unknown k h p c rest next) w = known_bytes next w.3

abbrev pub unknown_bytes : Forest → ℕ
unknown_bytes end = 0
unknown_bytes (known k h p body kids next) = unknown_bytes kids + unknown_bytes next
unknown_bytes (unknown k h p c rest next) = 24 + length rest + unknown_bytes next

-- ---- faces

-- n numbers from k on
abbrev pub numbers_from : (k n : ℕ) → List ℕ
numbers_from k zero = []
numbers_from k (suc n) = k ∷ numbers_from (suc k) n

-- value k of a node's f
abbrev pub face_value : Node → (k : ℕ) → ℕ
face_value n k = of_named (letters "f") (λ p. value p k) 0 n.properties

-- "three values a face"
abbrev pub face_of : Node → (k : ℕ) → Face
face_of n k = record { a = face_value n (3 * k); b = face_value n (3 * k + 1); c = face_value n (3 * k + 2) }

-- a Mesh's faces: a third of its f's length
unfoldable pub mesh_faces : Node → List Face
mesh_faces n = cond (eqb n.kind mesh) (map (face_of n) (numbers_from 0 (elements_of (letters "f") n.properties / 3))) []

unfoldable pub all_faces : List Node → List Face
all_faces ns = flat_map mesh_faces ns

-- "a face with two equal indices is allowed and counted as degenerate"
abbrev pub TwoEqual : Face → Type 0
TwoEqual f = (f.a ≡ f.b) ⊎ ((f.b ≡ f.c) ⊎ (f.a ≡ f.c))

-- ---- links

-- a property, with its node's place among the nodes and its node's kind
pub record NodeProperty : Type 0 where
  pub node : ℕ
  pub kind : ℕ
  pub property : Property

-- all properties of some nodes, the first of which is node i
abbrev pub properties_from : (i : ℕ) → List Node → List NodeProperty
properties_from i [] = []
properties_from i (n ∷ ns) = map (λ p. record { node = i; kind = n.kind; property = p }) n.properties ++ properties_from (suc i) ns

-- a line that makes its property a link, to a kind
pub record LinkLine (l : Line) : Type 0 where
  pub to : ℕ
  pub held : l.held ≡ link_to to

-- "Links, where the node's kind lists the name as l"
abbrev pub IsLink : NodeProperty → Type 0
IsLink x = Some (λ l. (l.kind ≡ x.kind) × Lists l x.property.name × LinkLine l) lines

abbrev pub no_node : Node
no_node = record { kind = 0; hash = 0; properties = [] }

-- node m is of that kind and has that hash
abbrev pub IsNode : List Node → (kind hash m : ℕ) → Type 0
IsNode ns kind hash m = (m < length ns) × ((get_or ns m no_node).kind ≡ kind) × ((get_or ns m no_node).hash ≡ hash)

-- "exactly one node of that kind in the file has that hash": node m
abbrev pub IsOnly : List Node → (kind hash m : ℕ) → Type 0
IsOnly ns kind hash m = IsNode ns kind hash m × ((j : ℕ) → IsNode ns kind hash j → j ≡ m)

-- a link: its property, and the node that it reaches
pub record NodeLink : Type 0 where
  pub source : NodeProperty
  pub target : ℕ

abbrev pub ReachesOne : List Node → NodeLink → Type 0
ReachesOne ns x = ByLine x.source.kind x.source.property.name
    (λ l. (to : ℕ) → l.held ≡ link_to to → IsOnly ns to (val x.source.property.content) x.target)

-- the links of some nodes: "one per link property present", and each reaches its node
pub record LinksAre (ns : List Node) (links : List NodeLink) : Type 0 where
  pub sources : Picks IsLink (properties_from 0 ns) (map (λ x. x.source) links)
  pub targets : Each (ReachesOne ns) links
