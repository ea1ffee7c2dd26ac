-- The line of a kind and name, what it says of a type and a length, and the strings that are taken.
use Rattle.std.specs.Prelude.{ℕ, suc, ◌+◌, ◌-◌, Bool, true, false, cond, not, ◌&&◌, ◌||◌, List, [], ◌∷◌, eqb, leb, length, take, drop, get_or, None, Option, Some}
use Rattle.names.specs.Names.{same, number_after}
use Rattle.props.specs.Types.{byte, short, int, float, v4}
use Rattle.rules.specs.declared.Span.{Span}
use Rattle.rules.specs.Table.{Types, only, N, key_type, any_type, Held, nothing, flag, one_of, vertices, weights, faces, indices, keys, bone_number, link_to, Line, lines, free}

-- "`N` any of `b h i`"
abbrev pub is_n : (code : ℕ) → Bool
is_n code = (eqb code byte || eqb code short) || eqb code int

-- the types of a line have a type
abbrev pub takes : Types → (code : ℕ) → Bool
takes (only type) code = eqb type code
takes N code = is_n code
-- "one of b h i f v4"
takes key_type code = (is_n code || eqb code float) || eqb code v4
takes any_type code = true

-- "listed name with another type or length", for 13: "`[]` array of any length (else length 1)"
abbrev pub misfits : Line → (code elements : ℕ) → Bool
misfits l code elements = not (takes l.types code) || (not l.array && not (eqb elements 1))

abbrev pub is_number : Option ℕ → Bool
is_number (Some n) = true
is_number None = false

-- the line has the name: as it stands, or "`%d`" after it
unfoldable pub lists : Line → (name : List ℕ) → Bool
lists l name = cond l.numbered (is_number (number_after name l.name)) (same name l.name)

-- ---- the first of some lines that has a name; `free` where none has
unfoldable pub rule_in : List Line → (name : List ℕ) → Line
rule_in [] name = free
rule_in (l ∷ ls) name = cond (lists l name) l (rule_in ls name)

-- its place among them; their number where none has it
unfoldable pub find_in : List Line → (name : List ℕ) → ℕ
find_in [] name = 0
find_in (l ∷ ls) name = cond (lists l name) 0 (suc (find_in ls name))

-- ---- the lines of a kind
unfoldable pub of_kind : List Line → (kind : ℕ) → List Line
of_kind [] kind = []
of_kind (l ∷ ls) kind = cond (eqb l.kind kind) (l ∷ of_kind ls kind) (of_kind ls kind)

unfoldable pub lines_of : (kind : ℕ) → List Line
lines_of kind = of_kind lines kind

-- how many of some lines are required
unfoldable pub required_in : List Line → ℕ
required_in [] = 0
required_in (l ∷ ls) = cond l.required (suc (required_in ls)) (required_in ls)

-- where they stand in the table: how many lines come before the first of a kind, and how many of it come first
unfoldable pub before : List Line → ℕ → ℕ
before [] kind = 0
before (l ∷ ls) kind = cond (eqb l.kind kind) 0 (suc (before ls kind))

unfoldable pub run : List Line → ℕ → ℕ
run [] kind = 0
run (l ∷ ls) kind = cond (eqb l.kind kind) (suc (run ls kind)) 0

unfoldable pub span_of : ℕ → Span
span_of kind = record { from = before lines kind; to = before lines kind + run (drop (before lines kind) lines) kind }

-- of any rows, those at these places; none where they do not all lie among the rows
unfoldable pub rows_of : {A : Type 0} → (kind : ℕ) → List A → List A
rows_of kind rows = cond (leb (span_of kind).to (length rows)) (take ((span_of kind).to - (span_of kind).from) (drop (span_of kind).from rows)) []

-- ---- strings

-- a string stands at the start of some bytes: its letters, and then a zero
unfoldable pub is_text : (bytes string : List ℕ) → Bool
is_text bytes string = same (take (length string) bytes) string && eqb (get_or bytes (length string) 1) 0

-- "strings in brackets are the only ones taken": one of some strings stands at the start of some bytes
unfoldable pub is_one_of : (strings : List (List ℕ)) → (bytes : List ℕ) → Bool
is_one_of [] bytes = false
is_one_of (string ∷ others) bytes = is_text bytes string || is_one_of others bytes

-- ---- links

-- "Links, where the node's kind lists the name as l": what holds of a link to a kind, or of what is none
abbrev pub if_link : {A : Type 0} → Held → (link : (kind : ℕ) → A) → (other : A) → A
if_link (link_to kind) link other = link kind
if_link nothing link other = other
if_link flag link other = other
if_link (one_of strings) link other = other
if_link vertices link other = other
if_link weights link other = other
if_link faces link other = other
if_link indices link other = other
if_link keys link other = other
if_link bone_number link other = other
