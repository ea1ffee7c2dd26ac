-- Document 01, "Refusals by number": each has a number and a place. Number 0 is no refusal. The code names the reasons.
use Rattle.std.specs.Prelude.{ℕ, zero, suc, Result, Ok, Err}
use Rattle.base.specs.declared.Reason.{Reason}
use Rattle.base.specs.declared.Reason.TheVariants.{TableTooShort, FileTooLong, NotCast, OtherVersion, NodeSize, Misplaced, TooManyNodes, TooDeep, TooManyProperties, PropertyPastEnd, PropertyForm, BytesLeft, Mistyped, Missing, BadValue, LinkToNone, LinkToMany, NotAPlan, WrongParent, PlanBodyOutside, PlanBodyInexact, ChildCount, NewFileTooLong, OutputTooShort, NoSuchNode, KnownKind, TrimOutputTooShort, NoSuchRow, BodyOutside, BodyInexact, NoSuchName}
use Rattle.base.specs.declared.Refusal.{Refusal as CodeRefusal}

pub record Refusal : Type 0 where
  pub number : ℕ
  pub place : ℕ

abbrev pub refusal : (number place : ℕ) → Refusal
refusal n place = record { number = n; place = place }

abbrev pub no_refusal : Refusal
no_refusal = refusal 0 0

-- Refused, or go on: by the number of a refusal, the answer that reports it, or what comes next where the number is 0.
-- "The first found is the answer."
abbrev pub refused_or : {A : Type 0} → (number : ℕ) → (refused next : A) → A
refused_or zero refused next = next
refused_or (suc n) refused next = refused

-- ---- the code's reasons, by their numbers
abbrev pub reason_number : Reason → ℕ
-- "table shorter than 8,192 numbers (1,024 rows)"
reason_number TableTooShort = 1
-- "file over 16,777,216 bytes"
reason_number FileTooLong = 2
-- "under 16 bytes or wrong first four"
reason_number NotCast = 3
-- "version not 1"
reason_number OtherVersion = 4
-- "under 24 bytes left in the enclosing node or file, size under 24, or size past its end"
reason_number NodeSize = 5
-- "kind not allowed there"
reason_number Misplaced = 6
-- "a 1,025th node"
reason_number TooManyNodes = 7
-- "depth over 8 (a root has depth 1)"
reason_number TooDeep = 8
-- "known node with over 64 properties"
reason_number TooManyProperties = 9
-- "property's header, name or data passes the node's end"
reason_number PropertyPastEnd = 10
-- "type code, name or string length wrong"
reason_number PropertyForm = 11
-- "bytes after the last child of a known node, or the last root"
reason_number BytesLeft = 12
-- "name twice on a node; listed name with another type or length"
reason_number Mistyped = 13
-- "required or partner property missing"
reason_number Missing = 14
-- "any other property rule above broken"
reason_number BadValue = 15
-- "link reaches no node"
reason_number LinkToNone = 16
-- "reaches two or more"
reason_number LinkToMany = 17
-- "plan length not a multiple of 8 or over 1,024 rows"
reason_number NotAPlan = 20
-- "parent wrong"
reason_number WrongParent = 21
-- "body end before its start or past the source"
reason_number PlanBodyOutside = 22
-- "a known row's body is not exactly its count (at most 64) of properties"
reason_number PlanBodyInexact = 23
-- "a known row's child count is not the rows naming it"
reason_number ChildCount = 24
-- "length over 16,777,216"
reason_number NewFileTooLong = 25
-- "output too short"
reason_number OutputTooShort = 26
-- "30 no such row"
reason_number NoSuchNode = 30
-- "31 kind is known"
reason_number KnownKind = 31
-- "32 output shorter than the new file"
reason_number TrimOutputTooShort = 32
-- "row not wholly in the table"
reason_number NoSuchRow = 40
-- "41 and 42 as 22 and 23"
reason_number BodyOutside = 41
-- "41 and 42 as 22 and 23"
reason_number BodyInexact = 42
-- "a query that finds the name, else answers 43"
reason_number NoSuchName = 43

-- what the code's results say of a refusal: its number and place; its number alone; where a result is Ok there is none
abbrev pub refusal_of : CodeRefusal → Refusal
refusal_of r = refusal (reason_number r.reason) r.place

abbrev pub refusal_in : {A : Type 0} → Result A CodeRefusal → Refusal
refusal_in (Ok x) = no_refusal
refusal_in (Err r) = refusal_of r

abbrev pub number_in : {A : Type 0} → Result A Reason → ℕ
number_in (Ok x) = 0
number_in (Err r) = reason_number r
