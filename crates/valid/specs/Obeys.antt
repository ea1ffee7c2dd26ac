-- Document 01's rules of a node's properties, as propositions: no refusal's number, no place, no order.
use Rattle.std.specs.Prelude.{ℕ, zero, suc, ◌+◌, ◌*◌, ◌^◌, ◌≤◌, ◌<◌, ◌≡◌, ◌⊎◌, cond, List, [], ◌∷◌, ◌++◌, ℤ, pos, negsuc}
use Prim.Native.String.{String}
use Rattle.le.specs.Le.{number_at}
use Rattle.names.specs.Names.{same}
use Rattle.kinds.specs.Kinds.{mesh}
use Rattle.faces.specs.Faces.{width_of}
use Rattle.rules.specs.Table.{Held, nothing, flag, one_of, vertices, weights, faces, indices, keys, bone_number, link_to, Line, single, required, lines}
use Rattle.base.specs.Letters.{letters}
use Rattle.props.specs.Types.{float, v4}
use Rattle.base.specs.Lists.{Each, Some}
use Rattle.format.specs.Layout.{Property}
use Rattle.valid.specs.Lines.{ByLine, IsN, Takes}

-- ---- what is asked of a node's properties together

-- a property has the name
abbrev pub Has : (name : List ℕ) → List Property → Type 0
Has name ps = Some (λ p. p.name ≡ name) ps

-- not "name twice on a node"
abbrev pub Distinct : List Property → Type 0
Distinct [] = Unit {0}
Distinct (p ∷ ps) = (Has p.name ps → ⊥) × Distinct ps

-- not "listed name with another type or length"
abbrev pub FitsLine : Line → Property → Type 0
FitsLine l p = Takes l.types p.code × (l.array ≡ single → p.elements ≡ 1)

-- not "required ... property missing"
abbrev pub HasRequired : (kind : ℕ) → List Property → Type 0
HasRequired kind ps = Each (λ l. l.kind ≡ kind → l.required ≡ required → Has l.name ps) lines

-- not "partner property missing": "wb and wv come only together and with mi"
abbrev pub Partnered : List Property → Type 0
Partnered ps = Has (letters "wb") ps ⊎ Has (letters "wv") ps → Has (letters "wb") ps × Has (letters "wv") ps × Has (letters "mi") ps

-- ---- what a property is held to

-- the value of its element k, "read unsigned"
abbrev pub value : Property → ℕ → ℕ
value p k = number_at (width_of p.code) p.content (k * width_of p.code)

-- what is read of the property of a name, where no name stands twice; something else where there is none
unfoldable pub of_named : {A : Type 0} → (name : List ℕ) (read : Property → A) (other : A) → List Property → A
of_named name read other [] = other
of_named name read other (p ∷ ps) = cond (same p.name name) (read p) (of_named name read other ps)

-- its length and its first value
abbrev pub elements_of : (name : List ℕ) → List Property → ℕ
elements_of name ps = of_named name (λ p. p.elements) 0 ps

abbrev pub first_value_of : (name : List ℕ) → List Property → ℕ
first_value_of name ps = of_named name (λ p. value p 0) 0 ps

-- "Let V be a mesh's vp length"
abbrev pub vertex_count : List Property → ℕ
vertex_count ps = elements_of (letters "vp") ps

-- "a length divisible by 3 (three values a face) and each value below V"
pub record AreFaces (v : ℕ) (p : Property) : Type 0 where
  pub count : ℕ
  pub threes : p.elements ≡ count * 3
  pub below : (k : ℕ) → k < p.elements → value p k < v

-- the property of a name is this string, which ends in a zero
abbrev pub HasText : (name string : String) → List Property → Type 0
HasText name string ps = Some (λ p. (p.name ≡ letters name) × (p.content ≡ letters string ++ (0 ∷ []))) ps

-- "kv is v4 for rq, N for vb, f for any other kp, listed or not"
pub record KeyTyped (ps : List Property) (code : ℕ) : Type 0 where
  pub rotation : HasText "kp" "rq" ps → code ≡ v4
  pub visible : HasText "kp" "vb" ps → IsN code
  pub other : (HasText "kp" "rq" ps → ⊥) → (HasText "kp" "vb" ps → ⊥) → code ≡ float

-- a number of 32 bits "is read as signed": as it is below 2^31, and less 2^32 from there on. negsuc n is -(n + 1).
abbrev pub ReadSigned : (v : ℕ) → ℤ → Type 0
ReadSigned v (pos n) = (n < 2 ^ 31) × (v ≡ n)
ReadSigned v (negsuc n) = (n < 2 ^ 31) × (v + suc n ≡ 2 ^ 32)

-- "-1 is no parent, otherwise it is from 0 to one less than the Bone children of that Skeleton"
abbrev pub BoneParent : ℤ → (bones : ℕ) → Type 0
BoneParent (pos n) bones = n < bones
BoneParent (negsuc zero) bones = Unit {0}
BoneParent (negsuc (suc n)) bones = ⊥

-- what its line holds the property p to, among the properties of its node
abbrev pub Keeps : Held → (ps : List Property) (bones : ℕ) → Property → Type 0
Keeps nothing ps bones p = Unit {0}
-- "`B` a `b` that is 0 or 1"
Keeps flag ps bones p = value p 0 ≤ 1
-- "strings in brackets are the only ones taken"
Keeps (one_of strings) ps bones p = Some (λ string. p.content ≡ string ++ (0 ∷ [])) strings
-- "vn, vt, c%d and u%d have length V"
Keeps vertices ps bones p = p.elements ≡ vertex_count ps
-- "each of length mi times V"
Keeps weights ps bones p = p.elements ≡ first_value_of (letters "mi") ps * vertex_count ps
Keeps faces ps bones p = AreFaces (vertex_count ps) p
-- "BlendShape vi and vp have equal lengths"
Keeps indices ps bones p = p.elements ≡ elements_of (letters "vi") ps
-- "as have Curve kb and kv; kv is v4 for rq, N for vb, f for any other kp"
Keeps keys ps bones p = (p.elements ≡ elements_of (letters "kb") ps) × KeyTyped ps p.code
-- "Bone p is read as signed": a number of 32 bits is read as one z
Keeps bone_number ps bones p = (z : ℤ) → ReadSigned (value p 0) z → BoneParent z bones
-- a link is held to what it reaches among all nodes: `Links`
Keeps (link_to kind) ps bones p = Unit {0}

-- all of it
pub record Obeys (kind : ℕ) (ps : List Property) (bones : ℕ) : Type 0 where
  pub distinct : Distinct ps
  pub fits : Each (λ p. ByLine kind p.name (λ l. FitsLine l p)) ps
  pub complete : HasRequired kind ps
  pub partnered : kind ≡ mesh → Partnered ps
  pub keeps : Each (λ p. ByLine kind p.name (λ l. Keeps l.held ps bones p)) ps
