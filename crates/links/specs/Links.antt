-- Document 01's links: "A link resolves when exactly one node of that kind in the file has that hash. Zero is a hash like
-- any other." Refusals 16, 17: "link reaches no node; reaches two or more", at the property: "row by row", and "Within a
-- row the first property in file order speaks."
use Rattle.std.specs.Prelude.{ℕ, zero, suc, ◌+◌, cond, ◌&&◌, List, [], ◌∷◌, ◌++◌, eqb, length, Result, Ok, Err}
use Rattle.base.specs.declared.Refusal.{Refusal}
use Rattle.base.specs.Refusals.{refused_or, reason_number}
use Rattle.le.specs.Le.{number_at}
use Rattle.kinds.specs.Kinds.{is_known}
use Rattle.table.specs.declared.Row.{Row}
use Rattle.body.specs.Body.{properties}
use Rattle.rules.specs.Table.{Line}
use Rattle.rules.specs.Rules.{lines_of, if_link}
use Rattle.judge.specs.Properties.{rule_at, rest_at}
use Rattle.format.specs.Rows.{body_of, hash_of}

-- of some rows, the first of which is row i, the numbers of those that are of a kind and have a hash, all 64 bits of it
unfoldable pub reached : (kind hash i : ℕ) → List Row → List ℕ
reached kind hash i [] = []
reached kind hash i (r ∷ rs) = cond (eqb r.kind kind && eqb (hash_of r) hash) (i ∷ reached kind hash (suc i) rs) (reached kind hash (suc i) rs)

-- a link: its row, the place of its property in the file, and the rows that it reaches. Where it resolves, that is one, its
-- target.
pub record Link : Type 0 where
  pub row : ℕ
  pub property : ℕ
  pub targets : List ℕ

-- the links of a node among some rows: of its properties, those that "the node's kind lists ... as l", each to a kind. The lines
-- of its kind are given, its row, and its body s with the place where that starts.
unfoldable pub links_at : List Row → List Line → (row start : ℕ) (s starts : List ℕ) → List Link
links_at all ls row start s [] = []
links_at all ls row start s (at ∷ more) =
    let others = links_at all ls row start s more in
    let link : ℕ → Link = λ kind. record { row = row; property = start + at; targets = reached kind (number_at 8 (rest_at s at) 0) 0 all } in
    if_link (rule_at ls s at).held (λ kind. link kind ∷ others) others

-- an unknown node has none
abbrev pub row_links : (s : List ℕ) (all : List Row) (row : ℕ) → Row → List Link
row_links s all row r =
    cond (is_known r.kind) (links_at all (lines_of r.kind) row r.start (body_of s r) (properties (body_of s r) r.properties).starts) []

-- the links of some of a file's rows, the first of which is row i
unfoldable pub links_from : (s : List ℕ) (all : List Row) (i : ℕ) → List Row → List Link
links_from s all i [] = []
links_from s all i (r ∷ rs) = row_links s all i r ++ links_from s all (suc i) rs

-- the links of a file, from its bytes and its rows
abbrev pub links_of : (s : List ℕ) → List Row → List Link
links_of s rows = links_from s rows 0 rows

-- "link reaches no node; reaches two or more", by the number of nodes that it reaches: 16, 17; 0 where it resolves
abbrev pub refusal_of : (targets : ℕ) → ℕ
refusal_of zero = 16
refusal_of (suc zero) = 0
refusal_of (suc (suc n)) = 17

-- how links end: number 0 and how many there are; or a refusal's number and its property's place in the file
pub record Linked : Type 0 where
  pub number : ℕ
  pub place : ℕ
  pub links : ℕ

abbrev pub refused_links : (number place : ℕ) → Linked
refused_links n place = record { number = n; place = place; links = 0 }

abbrev pub accepted_links : (links : ℕ) → Linked
accepted_links n = record { number = 0; place = 0; links = n }

-- as the code has it
abbrev pub linked_told : Result ℕ Refusal → Linked
linked_told (Ok n) = accepted_links n
linked_told (Err r) = refused_links (reason_number r.reason) r.place

-- the first that does not resolve; or "links (one per link property present)", with those before them
unfoldable pub resolved : (before : ℕ) → List Link → Linked
resolved n [] = accepted_links n
resolved n (l ∷ ls) = let number = refusal_of (length l.targets) in refused_or number (refused_links number l.property) (resolved (suc n) ls)

unfoldable pub linked : (s : List ℕ) → List Row → Linked
linked s rows = resolved 0 (links_of s rows)
