-- A given number of properties from the start of some bytes on: for document 01's 9 to 11 in the reader, all that is left of the
-- node; for its 23 in the writer and its 42 in the lookup, the body.
use Rattle.std.specs.Prelude.{ℕ, zero, suc, ◌+◌, min, Bool, true, false, cond, ◌&&◌, List, [], ◌∷◌, ◌++◌, eqb, ltb, length, drop, replicate, Option, Some, None, Result, Ok, Err}
use Rattle.base.specs.declared.Reason.{Reason}
use Rattle.base.specs.declared.Refusal.{Refusal}
use Rattle.base.specs.Refusals.{reason_number}
use Rattle.std.proofs.lemmas.List.Edits.{sets}
use Rattle.base.specs.Limits.{most_properties}
use Rattle.names.specs.Names.{same}
use Rattle.props.specs.declared.PropertyHeader.{PropertyHeader}
use Rattle.props.specs.Step.{Step}
use Rattle.props.specs.Step.{Past, Refused}
use Rattle.props.specs.Types.{element_size}
use Rattle.body.specs.declared.Index.{Index as CodeIndex}
use Rattle.body.specs.declared.Sought.{Sought as CodeSought}
use Rattle.body.specs.declared.Sought.TheVariants.{Found as CodeFound, Nowhere as CodeNowhere}
use Rattle.props.specs.Step.{header_at, data_size, step_at, name_at}

-- how a walk over properties ended: the refusal's number, 0 for none; the place, which is just past the last property,
-- or the refused property's, and 0 for 9, whose place is the node's; and where the properties start that were passed
pub record PropertyWalk : Type 0 where
  pub number : ℕ
  pub at : ℕ
  pub starts : List ℕ

abbrev pub stop : (number at : ℕ) → PropertyWalk
stop n at = record { number = n; at = at; starts = [] }

-- a walk that comes after the property at a place
abbrev pub after : (at : ℕ) → PropertyWalk → PropertyWalk
after at w = record { number = w.number; at = w.at; starts = at ∷ w.starts }

-- past the property at a place, and on from there; or refused there
abbrev pub by_step : (at : ℕ) → (on : ℕ → PropertyWalk) → Step → PropertyWalk
by_step at on (Past p next) = after at (on next.at)
by_step at on (Refused n) = stop n at

-- k properties from a place on
unfoldable pub pass : List ℕ → (k at : ℕ) → PropertyWalk
pass s zero at = stop 0 at
pass s (suc k) at = by_step at (pass s k) (step_at s at)

-- k properties from the start on. 9: "over 64 properties"; else 10 or 11, as the first property that is refused says
unfoldable pub properties : List ℕ → (k : ℕ) → PropertyWalk
properties s k = cond (ltb most_properties k) (stop 9 0) (pass s k 0)

-- "exactly its count (at most 64) of properties by the rules of 9 to 11": none is refused, and they end with the bytes
unfoldable pub exactly : List ℕ → (k : ℕ) → Bool
exactly s k = eqb (properties s k).number 0 && eqb (properties s k).at (length s)

-- how a walk over properties ended: the refusal's number, 0 for none, and the place
pub record Passed : Type 0 where
  pub number : ℕ
  pub at : ℕ

-- as the code has it
abbrev pub passed_told : Result ℕ Refusal → Passed
passed_told (Ok at) = record { number = 0; at = at }
passed_told (Err r) = record { number = reason_number r.reason; at = r.place }

-- the walk's end alone
abbrev pub end_of : PropertyWalk → Passed
end_of w = record { number = w.number; at = w.at }

-- where each property starts, and then where the walk ended: one that was passed lies from its place to the next
abbrev pub places : PropertyWalk → List ℕ
places w = w.starts ++ (w.at ∷ [])

-- an index of a body: the walk's number, how many properties it passed, and 65 places
pub record Index : Type 0 where
  pub number : ℕ
  pub count : ℕ
  pub starts : List ℕ

-- as the code has it
abbrev pub stopped_number : Option Reason → ℕ
stopped_number None = 0
stopped_number (Some r) = reason_number r

abbrev pub index_told : CodeIndex → Index
index_told i = record { number = stopped_number i.stopped; count = i.count; starts = i.starts }

-- the walk's end with the places, in 65 numbers, zeros after them
abbrev pub index_of : PropertyWalk → Index
index_of w = record { number = w.number; count = length w.starts; starts = sets (replicate 65 0) 0 (places w) }

-- ---- a second pass over properties that were passed already judges none of them

-- where a property at a place ends by a header's numbers, at most at the end of the bytes; and by its own
abbrev pub next_by : List ℕ → (at : ℕ) → PropertyHeader → ℕ
next_by s at h = let start = at + 8 + h.size in min (start + data_size (element_size h.code) h.length (drop start s)) (length s)

unfoldable pub next_at : List ℕ → (at : ℕ) → ℕ
next_at s at = next_by s at (header_at s at)

-- where k properties start, from a place on; and from the start on, at most 64
unfoldable pub skim : List ℕ → (k at : ℕ) → List ℕ
skim s zero at = []
skim s (suc k) at = at ∷ skim s k (next_at s at)

unfoldable pub skimmed : List ℕ → (k : ℕ) → List ℕ
skimmed s k = cond (ltb most_properties k) [] (skim s k 0)

-- ---- the first of the properties at these places that has the name; their number where none has. "Of two equal names the first is found."
unfoldable pub first_named : (s name starts : List ℕ) → ℕ
first_named s name [] = 0
first_named s name (at ∷ more) = cond (same (name_at s at) name) 0 (suc (first_named s name more))

-- ---- the first of k properties from a place on that has the name: where its data starts and ends, and how many come after it; or the
-- place past the last, where none has it; or the refusal of one before it
pub data Sought : Type 0 where
  Found : (start end left : ℕ) → Sought
  Nowhere : (at : ℕ) → Sought
  RefusedAt : (number at : ℕ) → Sought

-- as the code has it
abbrev pub sought_told : Result CodeSought Refusal → Sought
sought_told (Ok (CodeFound start end left)) = Found start end left
sought_told (Ok (CodeNowhere at)) = Nowhere at
sought_told (Err r) = RefusedAt (reason_number r.reason) r.place

abbrev pub sought_by : (s name : List ℕ) → (k at : ℕ) → (on : ℕ → Sought) → Step → Sought
sought_by s name k at on (Past p next) = cond (same (name_at s at) name) (Found p.start next.at k) (on next.at)
sought_by s name k at on (Refused n) = RefusedAt n at

unfoldable pub sought : (s name : List ℕ) → (k at : ℕ) → Sought
sought s name zero at = Nowhere at
sought s name (suc k) at = sought_by s name k at (sought s name k) (step_at s at)

-- its numbers: whether the property is found; the refusal's number, 0 for none; where the data starts, and how many properties come after it;
-- and where the data ends, the last property ends, or the refused one starts
pub record SoughtNumbers : Type 0 where
  pub is_found : Bool
  pub number : ℕ
  pub start : ℕ
  pub left : ℕ
  pub at : ℕ

abbrev pub sought_numbers : Sought → SoughtNumbers
sought_numbers (Found start end left) = record { is_found = true; number = 0; start = start; left = left; at = end }
sought_numbers (Nowhere at) = record { is_found = false; number = 0; start = 0; left = 0; at = at }
sought_numbers (RefusedAt n at) = record { is_found = false; number = n; start = 0; left = 0; at = at }
