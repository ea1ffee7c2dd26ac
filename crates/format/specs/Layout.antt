-- Document 01's layout, as propositions: no refusal's number, no place, no order.
use Rattle.std.specs.Prelude.{ℕ, ◌+◌, ◌*◌, ◌^◌, ◌≤◌, ◌<◌, ◌≡◌, true, false, length, Option, Some}
use mathlib.Core.List.{List, [], ◌∷◌, ◌++◌, flat_map}
use Rattle.base.specs.Limits.{most_properties, most_rows}
use Rattle.base.specs.Lists.{Each}
use Rattle.le.specs.Le.{le, AreBytes}
use Rattle.kinds.specs.Kinds.{is_known, may_stand}
use Rattle.table.specs.declared.Row.{Row}
use Rattle.props.specs.Types.{Size}
use Rattle.props.specs.Types.{Bytes, Text, NoSuch}
use Rattle.props.specs.Types.{element_size}
use Rattle.format.specs.Forest.{Forest, end, known, unknown, count, nodes, encode}

-- ---- one property

-- its type, its array length, its name and its data
pub record Property : Type 0 where
  pub code : ℕ
  pub elements : ℕ
  pub name : List ℕ
  pub content : List ℕ

-- "Property header, 8 bytes: type u16, name size u16, array length u32; then the name, then the data."
unfoldable pub property_bytes : Property → List ℕ
property_bytes p = le 2 p.code ++ (le 2 (length p.name) ++ (le 4 p.elements ++ (p.name ++ p.content)))

-- "none of them zero and none `A` to `Z`"
abbrev pub NameByte : ℕ → Type 0
NameByte b = (b ≡ 0 → ⊥) × (0x41 ≤ b → 0x5A < b)

-- "A name has 1 to 32 bytes"
abbrev pub Name : List ℕ → Type 0
Name name = (1 ≤ length name) × (length name ≤ 32) × Each NameByte name

-- "the data runs up to and including the first zero byte"
pub record EndsInZero (content : List ℕ) : Type 0 where
  pub text : List ℕ
  pub nonzero : Each (λ b. b ≡ 0 → ⊥) text
  pub ends : content ≡ text ++ (0 ∷ [])

-- the data of n elements: each of its type's size; of a string, "array length must be 1"
abbrev pub Content : Size → ℕ → List ℕ → Type 0
Content (Bytes w) n content = length content ≡ n * w
Content Text n content = (n ≡ 1) × EndsInZero content
Content NoSuch n content = ⊥

abbrev pub GoodProperty : Property → Type 0
GoodProperty p = (p.code < 256 ^ 2) × (p.elements < 256 ^ 4) × Name p.name × Content (element_size p.code) p.elements p.content

-- ---- a known node's body: exactly its count of properties, not "over 64"

pub record GoodBody (n : ℕ) (body : List ℕ) : Type 0 where
  pub properties : List Property
  pub good : Each GoodProperty properties
  pub counted : length properties ≡ n
  pub most : n ≤ most_properties
  pub bytes : body ≡ flat_map property_bytes properties

-- a row's body lies in some bytes: not 22, "body end before its start or past the source", and not 41, "as 22"
abbrev pub InBytes : (s : List ℕ) → Row → Type 0
InBytes s r = (r.start ≤ r.end) × (r.end ≤ length s)

-- ---- nodes

-- the header's numbers are of the header's widths
abbrev pub Fits : (kind size hash properties children : ℕ) → Type 0
Fits kind size hash properties children =
    (kind < 256 ^ 4) × (size < 256 ^ 4) × (hash < 256 ^ 8) × (properties < 256 ^ 4) × (children < 256 ^ 4)

-- well-formed: known nodes have known kinds and good bodies, unknown ones have unknown kinds and any bytes
abbrev pub WellFormed : Forest → Type 0
WellFormed end = Unit {0}
WellFormed (known k h p body kids next) =
    (is_known k ≡ true) × Fits k (24 + length body + length (encode kids)) h p (count kids) × AreBytes body × GoodBody p body
    × WellFormed kids × WellFormed next
WellFormed (unknown k h p c rest next) =
    (is_known k ≡ false) × Fits k (24 + length rest) h p c × AreBytes rest × WellFormed next

-- a whole file: its header's numbers too are of their widths
abbrev pub WellFormedFile : ℕ → Forest → Type 0
WellFormedFile flags f = (flags < 256 ^ 4) × (count f < 256 ^ 4) × WellFormed f

-- ---- what else is asked of nodes
-- Of depth (8) nothing: nodes that stand where they may lie at depth 5 at most. The file's length (2) is no matter of nodes.

-- not "kind not allowed there": each may stand under its parent
abbrev pub Placed : Option ℕ → Forest → Type 0
Placed parent end = Unit {0}
Placed parent (known k h p body kids next) = (may_stand parent k ≡ true) × Placed (Some k) kids × Placed parent next
Placed parent (unknown k h p c rest next) = (may_stand parent k ≡ true) × Placed parent next

-- not "a 1,025th node"
abbrev pub Few : Forest → Type 0
Few f = nodes f ≤ most_rows
