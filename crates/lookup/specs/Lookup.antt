-- Document 01: "Lookup of a property by name in any bytes and any table: a query that finds the name, else answers 43;
-- before that 40 row not wholly in the table, 41 and 42 as 22 and 23, over the bytes given and for any kind. Of two
-- equal names the first is found."
use Rattle.std.specs.Prelude.{ℕ, ◌+◌, ◌-◌, ◌≤◌, cond, not, List, [], eqb, length, take, drop, get_or, Result, Ok, Err}
use Rattle.base.specs.declared.Reason.{Reason}
use Rattle.base.specs.Refusals.{reason_number}
use Rattle.lookup.specs.declared.Found.{Found as CodeFound}
use Rattle.props.specs.Step.{data_at}
use Rattle.body.specs.Body.{properties, exactly, places, first_named}
use Rattle.table.specs.Table.{has_row, row_at}
use Rattle.format.specs.Rows.{body_of, outside}

-- where a property's data lies; or the number of the refusal
pub data Found : Type 0 where
  At : (start end : ℕ) → Found
  Refused : (number : ℕ) → Found

-- as the code has it
abbrev pub found_told : Result CodeFound Reason → Found
found_told (Ok r) = At r.start r.end
found_told (Err r) = Refused (reason_number r)

-- 42: the body is not exactly its count of properties. 43: none has the name. Else the first one's data, up to the next place.
unfoldable pub in_body : List ℕ → ℕ → List ℕ → Found
in_body s k name =
    let w = properties s k in
    let i = first_named s name w.starts in
    cond (not (exactly s k)) (Refused 42)
    (cond (eqb i (length w.starts)) (Refused 43)
    (At (data_at s (get_or (places w) i 0)) (get_or (places w) (i + 1) 0)))

-- the same place, where the body starts at an offset
abbrev pub shifted : ℕ → Found → Found
shifted from (At start end) = At (from + start) (from + end)
shifted from (Refused n) = Refused n

unfoldable pub lookup_of : List ℕ → List ℕ → ℕ → List ℕ → Found
lookup_of bs t row name =
    let r = row_at t row in
    cond (not (has_row t row)) (Refused 40)
    (cond (outside (length bs) r) (Refused 41)
    (shifted r.start (in_body (body_of bs r) r.properties name)))

-- what is found lies within the first n bytes
abbrev pub FoundWithin : ℕ → Found → Type 0
FoundWithin n (At start end) = (start ≤ end) × (end ≤ n)
FoundWithin n (Refused k) = Unit

-- an answer's number: 0 where the property is found
abbrev pub number_of : Found → ℕ
number_of (At start end) = 0
number_of (Refused n) = n

-- "It hands back the data's part of the file; an empty part on refusal."
abbrev pub part_of : List ℕ → Found → List ℕ
part_of bs (At start end) = take (end - start) (drop start bs)
part_of bs (Refused n) = []
