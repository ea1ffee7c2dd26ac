-- 15: "any other property rule above broken", at the property; and the faces and links of a node. The lines of the node's kind are ls,
-- its body is s. A place is an offset from the node's header: 24 is the first byte of its body.
use Rattle.std.specs.Prelude.{ℕ, zero, suc, ◌+◌, ◌-◌, ◌/◌, ◌%◌, Bool, true, false, cond, ◌&&◌, List, [], ◌∷◌, ◌++◌, ℤ, pos, negsuc, ◌==◌, nat_le, nat_lt, Result, Ok, Err}
use Rattle.base.specs.Refusals.{Refusal}
use Rattle.base.specs.Refusals.{refusal, no_refusal, refused_or}
use Rattle.le.specs.Le.{number_at}
use Rattle.props.specs.Step.{code_at, length_at}
use Rattle.faces.specs.declared.Face.{Face}
use Rattle.faces.specs.Faces.{Values}
use Rattle.faces.specs.Faces.{Below, NotBelow}
use Rattle.faces.specs.Faces.{width_of, faces_in, below}
use Rattle.rules.specs.Table.{Held, nothing, flag, one_of, vertices, weights, faces, indices, keys, bone_number, link_to, Line}
use Rattle.rules.specs.Rules.{takes, is_one_of, if_link}
use Rattle.judge.specs.declared.valued.Fault.{Fault as CodeFault}
use Rattle.judge.specs.declared.valued.Fault.TheVariants.{Whole as CodeWhole, Element as CodeElement}
use Rattle.judge.specs.Properties.{rule_at, rest_at, value_at, Beside}

-- what a property breaks: nothing; a rule of its length, its string or its type; or its first bad element
pub data Fault : Type 0 where
  Right : Fault
  Whole : Fault
  Element : (element : ℕ) → Fault

-- as the code has it
abbrev pub fault_named : CodeFault → Fault
fault_named CodeWhole = Whole
fault_named (CodeElement k) = Element k

abbrev pub fault_told : {A : Type 0} → Result A CodeFault → Fault
fault_told (Ok x) = Right
fault_told (Err f) = fault_named f

-- a fault of the property whole: its length, its string, its type
abbrev pub whole : Bool → Fault
whole true = Right
whole false = Whole

-- a fault of its only element
abbrev pub sole : Bool → Fault
sole true = Right
sole false = Element 0

-- two's complement at 32 bits; negsuc n is -(n + 1)
abbrev pub by_half : Bool → ℕ → ℤ
by_half true p = pos p
by_half false p = negsuc (0xFFFFFFFF - p)

abbrev pub signed : ℕ → ℤ
signed p = by_half (nat_lt p 0x80000000) p

-- "Bone p is read as signed: -1 is no parent, otherwise it is from 0 to one less than the Bone children of that Skeleton"
abbrev pub parent_ok : ℤ → ℕ → Bool
parent_ok (pos n) bones = nat_lt n bones
parent_ok (negsuc zero) bones = true
parent_ok (negsuc (suc n)) bones = false

-- "f has a length divisible by 3 (three values a face) and each value below V". A length fault comes before an element fault,
-- and of elements the first bad one is reported; both lie at the property, so no answer shows which it is.
abbrev pub by_values : Values → Fault
by_values Below = Right
by_values (NotBelow k) = Element k

-- the faces of the property at a place
abbrev pub faces_at : (s : List ℕ) (at : ℕ) → List Face
faces_at s at = faces_in (width_of (code_at s at)) (length_at s at / 3) (rest_at s at)

abbrev pub face_fault : (s : List ℕ) (at vertices : ℕ) → Fault
face_fault s at v = cond (length_at s at % 3 == 0) (by_values (below v 0 (faces_at s at))) Whole

-- ---- what the property at a place breaks of what its line holds it to, beside others
unfoldable pub fault_of : Held → (s : List ℕ) (at : ℕ) → Beside → Fault
fault_of nothing s at b = Right
-- "`B` a `b` that is 0 or 1"
fault_of flag s at b = sole (nat_le (value_at s at) 1)
-- "strings in brackets are the only ones taken, any other is 15 at its property"
fault_of (one_of strings) s at b = whole (is_one_of strings (rest_at s at))
-- "vn, vt, c%d and u%d have length V"
fault_of vertices s at b = whole (length_at s at == b.vertices)
-- "wb and wv ... each of length mi times V"
fault_of weights s at b = whole (length_at s at == b.weights)
-- "f has a length divisible by 3 (three values a face) and each value below V"
fault_of faces s at b = face_fault s at b.vertices
-- "BlendShape vi and vp have equal lengths", "unequal vi and vp at vp"
fault_of indices s at b = whole (length_at s at == b.indices)
-- "as have Curve kb and kv; kv is v4 for rq, N for vb, f for any other kp, listed or not", "unequal kb and kv at kv"
fault_of keys s at b = whole (length_at s at == b.keys && takes b.types (code_at s at))
-- "Bone p is read as signed: -1 is no parent, otherwise it is from 0 to one less than the Bone children of that Skeleton"
fault_of bone_number s at b = sole (parent_ok (signed (number_at 4 (rest_at s at) 0)) b.bones)
-- a link is judged later, by 16 and 17
fault_of (link_to kind) s at b = Right

-- be it of the whole or of an element
abbrev pub fault_number : Fault → ℕ
fault_number Right = 0
fault_number Whole = 15
fault_number (Element k) = 15

-- "the first property in file order speaks"
unfoldable pub valued : List Line → (s : List ℕ) → Beside → (starts : List ℕ) → Refusal
valued ls s b [] = no_refusal
valued ls s b (at ∷ more) = refused_or (fault_number (fault_of (rule_at ls s at).held s at b)) (refusal 15 (24 + at)) (valued ls s b more)

-- ---- a node's faces and links

-- the faces that count: those of a property that is held to be faces
abbrev pub held_faces : Held → (s : List ℕ) (at : ℕ) → List Face
held_faces faces s at = faces_at s at
held_faces nothing s at = []
held_faces flag s at = []
held_faces (one_of strings) s at = []
held_faces vertices s at = []
held_faces weights s at = []
held_faces indices s at = []
held_faces keys s at = []
held_faces bone_number s at = []
held_faces (link_to kind) s at = []

unfoldable pub node_faces : List Line → (s starts : List ℕ) → List Face
node_faces ls s [] = []
node_faces ls s (at ∷ more) = held_faces (rule_at ls s at).held s at ++ node_faces ls s more

-- "links (one per link property present)"
abbrev pub link_count : Held → ℕ
link_count h = if_link h (λ kind. 1) 0

unfoldable pub node_links : List Line → (s starts : List ℕ) → ℕ
node_links ls s [] = 0
node_links ls s (at ∷ more) = link_count (rule_at ls s at).held + node_links ls s more
