-- What is read of a node's properties: s is its body, `starts` the places where they start in it.
use Rattle.std.specs.Prelude.{ℕ, ◌*◌, Bool, cond, List, length, drop, ◌==◌, nat_lt, slice_index}
use Rattle.le.specs.Le.{number_at}
use Rattle.kinds.specs.Kinds.{mesh, blend_shape, curve}
use Rattle.props.specs.Step.{code_at, length_at, name_at, start_at}
use Rattle.body.specs.Body.{first_named}
use Rattle.faces.specs.Faces.{width_of}
use Rattle.base.specs.Letters.{letters}
use Rattle.props.specs.Types.{float, v4}
use Rattle.rules.specs.Table.{Types, only, N, any_type, Line}
use Rattle.rules.specs.Rules.{rule_in, find_in, is_text}

-- the line of the property at a place, among some lines
abbrev pub rule_at : List Line → (s : List ℕ) (at : ℕ) → Line
rule_at ls s at = rule_in ls (name_at s at)

-- where that line stands among them; their number where none is
abbrev pub line_number : List Line → (s : List ℕ) (at : ℕ) → ℕ
line_number ls s at = find_in ls (name_at s at)

-- its data, and what follows it
abbrev pub rest_at : (s : List ℕ) (at : ℕ) → List ℕ
rest_at s at = drop (start_at s at) s

-- "`N` any of `b h i`, read unsigned": its first value
abbrev pub value_at : (s : List ℕ) (at : ℕ) → ℕ
value_at s at = number_at (width_of (code_at s at)) (rest_at s at) 0

-- ---- a property by its name

abbrev pub has : (s starts name : List ℕ) → Bool
has s starts name = nat_lt (first_named s name starts) (length starts)

abbrev pub place_of : (s starts name : List ℕ) → ℕ
place_of s starts name = slice_index starts (first_named s name starts)

-- its length and its first value; 0 where there is none
unfoldable pub length_of : (s starts name : List ℕ) → ℕ
length_of s starts name = cond (has s starts name) (length_at s (place_of s starts name)) 0

unfoldable pub value_of : (s starts name : List ℕ) → ℕ
value_of s starts name = cond (has s starts name) (value_at s (place_of s starts name)) 0

-- "kv is v4 for rq, N for vb, f for any other kp, listed or not": the types that kp wants, from its string
abbrev pub wanted_types : (string : List ℕ) → Types
wanted_types string = cond (is_text string (letters "rq")) (only v4) (cond (is_text string (letters "vb")) N (only float))

unfoldable pub types_of : (s starts : List ℕ) → Types
types_of s starts = cond (has s starts (letters "kp")) (wanted_types (rest_at s (place_of s starts (letters "kp")))) (only float)

-- ---- what a property is held against, from those beside it and from the Bones beside its node

-- a mesh's V, and mi times that; the lengths of vi and of kb, and the types that kp wants; and the number of Bones
pub record Beside : Type 0 where
  pub vertices : ℕ
  pub weights : ℕ
  pub indices : ℕ
  pub keys : ℕ
  pub types : Types
  pub bones : ℕ

-- "Let V be a mesh's vp length."
unfoldable pub beside_of : (kind : ℕ) (s starts : List ℕ) (bones : ℕ) → Beside
beside_of kind s starts bones =
    cond (kind == mesh)
    (let v = length_of s starts (letters "vp") in
    record { vertices = v; weights = value_of s starts (letters "mi") * v; indices = 0; keys = 0; types = any_type; bones = bones })
    (cond (kind == blend_shape)
    (record { vertices = 0; weights = 0; indices = length_of s starts (letters "vi"); keys = 0; types = any_type; bones = bones })
    (cond (kind == curve)
    (record { vertices = 0; weights = 0; indices = 0; keys = length_of s starts (letters "kb"); types = types_of s starts; bones = bones })
    (record { vertices = 0; weights = 0; indices = 0; keys = 0; types = any_type; bones = bones })))
