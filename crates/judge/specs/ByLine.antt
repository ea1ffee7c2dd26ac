-- The judgement as it is made: by where the line of each property stands among some lines (its number), and by how many of these are
-- required. Where they are the lines of the node's kind, it is the judgement by names: `by_line` in proofs/ByLine.antt.
use Rattle.std.specs.Prelude.{ℕ, suc, ◌+◌, ◌*◌, Bool, cond, not, ◌&&◌, ◌||◌, List, [], ◌∷◌, map, length, ◌==◌, nat_lt, slice_index, slice_index_or}
use Rattle.base.specs.Refusals.{Refusal}
use Rattle.base.specs.Refusals.{refusal, refused_or}
use Rattle.kinds.specs.Kinds.{mesh, blend_shape, curve}
use Rattle.props.specs.Types.{float}
use Rattle.props.specs.Step.{length_at}
use Rattle.rules.specs.Table.{Types, only, any_type, Line, free}
use Rattle.judge.specs.Judge.{Judged}
use Rattle.judge.specs.Properties.{line_number, rest_at, value_at, wanted_types, Beside}
use Rattle.judge.specs.Typed.{typed}
use Rattle.judge.specs.Missing.{partnered}
use Rattle.judge.specs.Valued.{valued, node_faces, node_links}
use Rattle.judge.specs.Judge.{judged_by}

-- ---- where lines stand among those of their kind

-- Mesh vp, wb, wv and mi
abbrev pub vp_line : ℕ
vp_line = 1

abbrev pub wb_line : ℕ
wb_line = 6

abbrev pub wv_line : ℕ
wv_line = 7

abbrev pub mi_line : ℕ
mi_line = 11

-- BlendShape vi
abbrev pub vi_line : ℕ
vi_line = 2

-- Curve kp and kb
abbrev pub kp_line : ℕ
kp_line = 1

abbrev pub kb_line : ℕ
kb_line = 2

-- ---- a number among those of the properties

-- the first place of a number among some; how many there are where it is none of them
unfoldable pub first_number : List ℕ → (k : ℕ) → ℕ
first_number [] k = 0
first_number (n ∷ ns) k = cond (n == k) 0 (suc (first_number ns k))

abbrev pub has_number : List ℕ → (k : ℕ) → Bool
has_number ns k = nat_lt (first_number ns k) (length ns)

-- how many of some numbers are those of required lines
unfoldable pub required_among : List Line → (numbers : List ℕ) → ℕ
required_among ls [] = 0
required_among ls (n ∷ ns) = cond (slice_index_or ls n free).required 1 0 + required_among ls ns

-- ---- 14: fewer properties have required lines than are wanted; a mesh's partner has none
abbrev pub unpartnered_by_line : (kind : ℕ) (numbers : List ℕ) → Bool
unpartnered_by_line kind ns = kind == mesh && not (partnered (has_number ns wb_line) (has_number ns wv_line) (has_number ns mi_line))

unfoldable pub lacks_by_line : (kind wanted required : ℕ) (numbers : List ℕ) → Bool
lacks_by_line kind wanted required ns = not (required == wanted) || unpartnered_by_line kind ns

-- ---- what a property is held against, by the lines of others

abbrev pub place_by_line : (starts numbers : List ℕ) (k : ℕ) → ℕ
place_by_line starts ns k = slice_index starts (first_number ns k)

unfoldable pub length_by_line : (s starts numbers : List ℕ) (k : ℕ) → ℕ
length_by_line s starts ns k = cond (has_number ns k) (length_at s (place_by_line starts ns k)) 0

unfoldable pub value_by_line : (s starts numbers : List ℕ) (k : ℕ) → ℕ
value_by_line s starts ns k = cond (has_number ns k) (value_at s (place_by_line starts ns k)) 0

unfoldable pub types_by_line : (s starts numbers : List ℕ) → Types
types_by_line s starts ns = cond (has_number ns kp_line) (wanted_types (rest_at s (place_by_line starts ns kp_line))) (only float)

unfoldable pub beside_by_line : (kind : ℕ) (s starts numbers : List ℕ) (bones : ℕ) → Beside
beside_by_line kind s starts ns bones =
    cond (kind == mesh)
    (let v = length_by_line s starts ns vp_line in
    record { vertices = v; weights = value_by_line s starts ns mi_line * v; indices = 0; keys = 0; types = any_type; bones = bones })
    (cond (kind == blend_shape)
    (record { vertices = 0; weights = 0; indices = length_by_line s starts ns vi_line; keys = 0; types = any_type; bones = bones })
    (cond (kind == curve)
    (record { vertices = 0; weights = 0; indices = 0; keys = length_by_line s starts ns kb_line; types = types_by_line s starts ns; bones = bones })
    (record { vertices = 0; weights = 0; indices = 0; keys = 0; types = any_type; bones = bones })))

-- ---- 13, then 14, then 15
unfoldable pub verdict_by_line : (kind wanted : ℕ) (ls : List Line) (s starts : List ℕ) (bones : ℕ) → Refusal
verdict_by_line kind wanted ls s starts bones =
    let v = typed ls s [] starts in
    let ns = map (line_number ls s) starts in
    refused_or v.number v
    (cond (lacks_by_line kind wanted (required_among ls ns) ns) (refusal 14 0)
    (valued ls s (beside_by_line kind s starts ns bones) starts))

unfoldable pub judged_by_line : (kind wanted : ℕ) (ls : List Line) (s starts : List ℕ) (bones : ℕ) → Judged
judged_by_line kind wanted ls s starts bones =
    judged_by (verdict_by_line kind wanted ls s starts bones) (node_faces ls s starts) (node_links ls s starts)
