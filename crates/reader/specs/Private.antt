-- What private functions promise each other; nothing here need be believed.
use Rattle.std.specs.Prelude.{ℕ, ◌+◌, ◌-◌, ◌*◌, ◌^◌, ◌≤◌, ◌<◌, ◌≡◌, ◌⊎◌, Bool, true, false, cond, not, ◌&&◌, ◌||◌, List, [], ◌∷◌, map, eqb, length, take, get_or, Result, Ok, Err}
use Rattle.kinds.specs.Kinds.{bone, is_known}
use Rattle.table.specs.declared.Row.{Row}
use Rattle.table.specs.Table.{row_at, rows_at, cleared, cleared_from}
use Rattle.body.specs.Body.{properties}
use Rattle.format.specs.Rows.{body_of, own_bytes}
use Rattle.base.specs.declared.Refusal.{Refusal}
use Rattle.base.specs.Refusals.{refused_or, reason_number}
use Rattle.rules.specs.Rules.{lines_of}
use Rattle.judge.specs.Properties.{line_number}
use Rattle.judge.specs.Missing.{misses}
use Rattle.links.specs.Links.{Linked}
use Rattle.links.specs.Private.{Count, count_in, row_linked, rows_linked}
use Rattle.links.specs.Links.{accepted_links, linked, linked_told}
use Rattle.judge.specs.Judge.{Judged, refused_node, judged_told}
use Rattle.reader.specs.declared.targets.Targets.{Targets}
use Rattle.reader.specs.declared.OfRow.{OfRow}
use Rattle.reader.specs.declared.Judgement.{Judgement}
use Rattle.reader.specs.Reading.{Ruled}
use Rattle.reader.specs.Reading.{bones_under, ruled, own_unknown}
use Rattle.reader.specs.Reading.{Reading}
use Rattle.reader.specs.Reading.{Accepted, Refused}

-- a known node's properties are all passed by the walk
abbrev pub Passed : (s : List ℕ) → Row → Type 0
Passed s r = is_known r.kind ≡ true → (properties (body_of s r) r.properties).number ≡ 0

-- a row among n of a file: its body lies in the file after a header, a Bone is under one of them, and its properties are passed
pub record RowOk (s : List ℕ) (n : ℕ) (r : Row) : Type 0 where
  pub first : 24 ≤ r.start
  pub onward : r.start ≤ r.end
  pub within : r.end ≤ length s
  pub bone_parent : r.kind ≡ bone → r.parent < n
  pub passed : Passed s r

abbrev pub RowsOk : (s t : List ℕ) (n : ℕ) → Type 0
RowsOk s t n = (i : ℕ) → i < n → RowOk s n (row_at t i)

-- one of some rows is of a kind
unfoldable pub has_kind : (kind : ℕ) → List Row → Bool
has_kind kind [] = false
has_kind kind (r ∷ rs) = eqb r.kind kind || has_kind kind rs

-- numbers that tell, by its place, the Bones under each row
abbrev pub BonesCounted : (bones : List ℕ) (rows : List Row) → Type 0
BonesCounted bones rows = (p : ℕ) → get_or bones p 0 ≡ bones_under rows p

-- of a table with rows at its start: n of them are left alone, and none on a refusal
abbrev pub left_after : Reading → (n : ℕ) → List ℕ → List ℕ
left_after (Accepted a) n t = cleared_from n t
left_after (Refused m place) n t = cleared t

-- the own bytes of an unknown row
abbrev pub unknown_bytes : Row → ℕ
unknown_bytes r = cond (is_known r.kind) 0 (own_bytes r)

-- a row that has rules: of a known node, with properties or with one that is required
abbrev pub is_judged : Row → Bool
is_judged r = is_known r.kind && (not (eqb r.properties 0) || misses (lines_of r.kind) [] [])

-- of n rows of a table, those from one on up to the next that is judged, or all of them
pub record Skips (t : List ℕ) (n from before to unknown : ℕ) : Type 0 where
  pub onward : from ≤ to
  pub within : to ≤ n
  pub unjudged : (i : ℕ) → from ≤ i → i < to → is_judged (row_at t i) ≡ false
  pub judged : to < n → is_judged (row_at t to) ≡ true
  pub bytes : unknown + own_unknown (rows_at t to (n - to)) ≡ before + own_unknown (rows_at t from (n - from))
  pub small : unknown ≤ to * 2 ^ 33

-- what a judgement notes of a known row: where its properties start, and their lines
pub record NotedIs (s : List ℕ) (r : Row) (starts numbers : List ℕ) : Type 0 where
  pub places : starts ≡ (properties (body_of s r) r.properties).starts
  pub lines : numbers ≡ map (line_number (lines_of r.kind) (body_of s r)) starts
  pub many : r.properties ≡ length starts

-- the same, at the start of its buffers
abbrev pub Noted : (s : List ℕ) → Row → (starts numbers : List ℕ) → Type 0
Noted s r starts numbers = NotedIs s r (take r.properties starts) (take r.properties numbers)

-- how often the hashes that links reach have one, by its kind
abbrev pub target_count : Targets → Count
target_count t = count_in t.materials.now t.meshes.now t.bones.now t.files.now

-- the links up to a row that counts some: with its own after those before it; or those before it, where one failed or the row has none
abbrev pub LinkedOn : Count → (s : List ℕ) → Row → (links : ℕ) (before after : Linked) → Type 0
LinkedOn count s r links before after =
    ((before.number ≡ 0) × (after ≡ row_linked count s before.links r)) ⊎ ((before.number ≡ 0 → links ≡ 0) × (after ≡ before))

-- the links of rows that come after some: where these end with a refusal, that stays
abbrev pub continued : Count → (s : List ℕ) → Linked → List Row → Linked
continued count s l rs = refused_or l.number l (rows_linked count s l.links rs)

-- what all rows of a file give
pub record JudgedAll (s : List ℕ) (rows : List Row) (rules : Ruled) (links : Linked) (unknown : ℕ) : Type 0 where
  pub rules_are : rules ≡ ruled s rows rows
  pub place : rules.place ≤ length s
  pub links_are : rules.number ≡ 0 → refused_or links.number links (accepted_links links.links) ≡ linked s rows
  pub unknown_is : rules.number ≡ 0 → unknown ≡ own_unknown rows

-- ---- what the code tells

-- of the judgement of a row
abbrev pub judged_of : Result OfRow Refusal → Judged
judged_of (Ok given) = judged_told (Ok given.judged)
judged_of (Err r) = refused_node (reason_number r.reason) r.place

-- of the rules of some rows: what they count, or the refusal
abbrev pub rules_told : Judgement → Ruled
rules_told j = record { number = 0; place = 0; faces = j.faces; degenerate = j.degenerate; links = j.links }

abbrev pub RulesTo : Result Judgement Refusal → Ruled → Type 0
RulesTo (Ok j) r = rules_told j ≡ r
RulesTo (Err e) r = (reason_number e.reason ≡ r.number) × (e.place ≡ r.place)

-- and of all rows of a file
abbrev pub AllTo : (s : List ℕ) (rows : List Row) → Result Judgement Refusal → Type 0
AllTo s rows (Ok j) = JudgedAll s rows (rules_told j) (linked_told j.linked) j.unknown
AllTo s rows (Err e) = (reason_number e.reason ≡ (ruled s rows rows).number) × (e.place ≡ (ruled s rows rows).place) × (e.place ≤ length s)
