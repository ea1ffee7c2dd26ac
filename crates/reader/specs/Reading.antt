-- Document 01's reading: "1 to 4; then nodes as they come ... Then, row by row: all 13, then 14, then all 15. Then links, row
-- by row. ... The first found is the answer; all other numbers of it are 0."
use Rattle.std.specs.Prelude.{ℕ, ◌+◌, ◌-◌, ◌<◌, ◌^◌, cond, List, [], ◌∷◌, length, Some, Result, Ok, Err}
use Rattle.base.specs.declared.Refusal.{Refusal}
use Rattle.base.specs.Refusals.{refused_or, reason_number}
use Rattle.kinds.specs.Kinds.{bone, is_known}
use Rattle.table.specs.declared.Row.{Row}
use Rattle.table.specs.Table.{has_room, cleared, filled}
use Rattle.table.specs.Counts.{count_under}
use Rattle.format.specs.Rows.{body_of, own_bytes}
use Rattle.judge.specs.Judge.{Judged}
use Rattle.judge.specs.Judge.{accepted_node, judged}
use Rattle.links.specs.Links.{Linked}
use Rattle.links.specs.Links.{linked}
use Rattle.walk.specs.Walk.{limited, flags_of}
use Rattle.reader.specs.declared.Account.{Account}

-- ---- 13 to 15, row by row

-- "the Bone children of that Skeleton": the Bones under a parent
abbrev pub bones_under : List Row → (parent : ℕ) → ℕ
bones_under rows parent = count_under (Some bone) rows parent

-- an unknown node has no rules
abbrev pub unjudged : Judged
unjudged = accepted_node 0 0 0

-- a row judged by its node's body and the number of Bones beside it; and among all rows of a file
unfoldable pub judged_with : (s : List ℕ) → Row → (bones : ℕ) → Judged
judged_with s r bones = cond (is_known r.kind) (judged r.kind r.properties (body_of s r) bones) unjudged

abbrev pub judged_row : (s : List ℕ) (all : List Row) → Row → Judged
judged_row s all r = judged_with s r (bones_under all r.parent)

-- what the rules of some rows give: a refusal's number, 0 for none, and its place; and what was counted before it
pub record Ruled : Type 0 where
  pub number : ℕ
  pub place : ℕ
  pub faces : ℕ
  pub degenerate : ℕ
  pub links : ℕ

-- a refusal, before which nothing is counted here. (The code resolves no links where their count is 0; the answer's links are those
-- of `linked`.)
abbrev pub uncounted : (number place : ℕ) → Ruled
uncounted n place = record { number = n; place = place; faces = 0; degenerate = 0; links = 0 }

-- a row that is not refused, with what the rows after it give
abbrev pub counted : Judged → Ruled → Ruled
counted j next = record {
  number = next.number;
  place = next.place;
  faces = j.faces.0 + next.faces;
  degenerate = j.degenerate + next.degenerate;
  links = j.links + next.links;
}

-- a row's refusal lies at its node's header plus the offset
unfoldable pub ruled : (s : List ℕ) (all rows : List Row) → Ruled
ruled s all [] = uncounted 0 0
ruled s all (r ∷ rs) =
    let j = judged_row s all r in
    refused_or j.number (uncounted j.number ((r.start + j.place) - 24)) (counted j (ruled s all rs))

-- ---- own bytes of known and of unknown nodes
unfoldable pub own_known : List Row → ℕ
own_known [] = 0
own_known (r ∷ rs) = cond (is_known r.kind) (own_bytes r + own_known rs) (own_known rs)

unfoldable pub own_unknown : List Row → ℕ
own_unknown [] = 0
own_unknown (r ∷ rs) = cond (is_known r.kind) (own_unknown rs) (own_bytes r + own_unknown rs)

-- ---- the answer

-- "A reading answers: node count, flags, own bytes of known and of unknown nodes, faces, degenerate faces, links"
abbrev pub account_of : (s : List ℕ) → List Row → Ruled → Linked → Account
account_of s rows ruled linked = record {
  nodes = length rows;
  flags = flags_of s;
  known = record { 0 = own_known rows };
  unknown = record { 0 = own_unknown rows };
  faces = record { 0 = ruled.faces };
  degenerate = ruled.degenerate;
  links = linked.links;
}

-- the account of an accepted file, or a refusal's number and place
pub data Reading : Type 0 where
  Accepted : Account → Reading
  Refused : (number place : ℕ) → Reading

-- as the code has it
abbrev pub reading_told : Result Account Refusal → Reading
reading_told (Ok a) = Accepted a
reading_told (Err r) = Refused (reason_number r.reason) r.place

-- 13 to 17 of a file's rows
unfoldable pub checked : (s : List ℕ) → List Row → Reading
checked s rows =
    let rules = ruled s rows rows in
    let links = linked s rows in
    refused_or rules.number (Refused rules.number rules.place)
    (refused_or links.number (Refused links.number links.place)
    (Accepted (account_of s rows rules links)))

-- 2 to 17 of any bytes
unfoldable pub verdict : List ℕ → Reading
verdict s = let w = limited s in refused_or w.number (Refused w.number w.at) (checked s w.rows)

-- 1 to 17. 1: "table shorter than 8,192 numbers (1,024 rows)"
unfoldable pub reading_of : (s t : List ℕ) → Reading
reading_of s t = cond (has_room t) (verdict s) (Refused 1 0)

-- "On 1 the table is untouched; on others its first 8,192 numbers are 0. On acceptance the numbers after the rows, up to
-- 8,192, are 0. Numbers past 8,192 never change."
abbrev pub table_left : Reading → (rows : List Row) (t : List ℕ) → List ℕ
table_left (Accepted a) rows t = filled rows t
table_left (Refused n place) rows t = cleared t

unfoldable pub table_after : (s t : List ℕ) → List ℕ
table_after s t = cond (has_room t) (table_left (verdict s) (limited s).rows t) t

-- an account's numbers are of 32 bits
abbrev pub Small : Reading → Type 0
Small (Accepted a) = (a.known.0 < 2 ^ 32) × (a.unknown.0 < 2 ^ 32) × (a.faces.0 < 2 ^ 32) × (a.degenerate < 2 ^ 32)
Small (Refused n place) = Unit {0}

-- ---- document 01's numbers of an answer
pub record Numbers : Type 0 where
  pub number : ℕ
  pub place : ℕ
  pub nodes : ℕ
  pub flags : ℕ
  pub own_known : ℕ
  pub own_unknown : ℕ
  pub faces : ℕ
  pub degenerate : ℕ
  pub links : ℕ

abbrev pub numbers_of : Reading → Numbers
-- "A reading answers: node count, flags, own bytes of known and of unknown nodes, faces, degenerate faces, links"
numbers_of (Accepted a) = record {
  number = 0;
  place = 0;
  nodes = a.nodes;
  flags = a.flags;
  own_known = a.known.0;
  own_unknown = a.unknown.0;
  faces = a.faces.0;
  degenerate = a.degenerate;
  links = a.links;
}
-- "The first found is the answer; all other numbers of it are 0."
numbers_of (Refused n p) = record {
  number = n;
  place = p;
  nodes = 0;
  flags = 0;
  own_known = 0;
  own_unknown = 0;
  faces = 0;
  degenerate = 0;
  links = 0;
}
