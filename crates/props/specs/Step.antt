-- Document 01: "Property header, 8 bytes: type u16, name size u16, array length u32; then the name, then the data"; its
-- refusals 10 and 11 in the order "header fits, type, name size, name fits, name bytes, string length, data fits".
-- Places are offsets in some bytes: in the reader all that is left of the node, by its size; in 23 and 42 the body.
use Rattle.std.specs.Prelude.{ℕ, suc, ◌+◌, ◌-◌, ◌*◌, Bool, true, false, cond, not, List, [], ◌∷◌, eqb, ltb, length, take, drop, Result, Ok, Err}
use Rattle.base.specs.declared.Reason.{Reason}
use Rattle.base.specs.Refusals.{reason_number}
use Rattle.le.specs.Le.{number_at}
use Rattle.names.specs.Names.{size_ok, bytes_ok}
use Rattle.props.specs.Types.{Size}
use Rattle.props.specs.Types.{Bytes, Text, NoSuch}
use Rattle.props.specs.declared.PropertyHeader.{PropertyHeader}
use Rattle.props.specs.declared.Offsets.{Offsets}
use Rattle.props.specs.declared.Cursor.{Cursor}
use Rattle.props.specs.declared.Passed.{Passed}
use Rattle.props.specs.Types.{element_size, no_such}

-- the property at a place: its type, its name size, its array length, its name, and where its data starts
abbrev pub code_at : List ℕ → (at : ℕ) → ℕ
code_at s at = number_at 2 s at

abbrev pub size_at : List ℕ → (at : ℕ) → ℕ
size_at s at = number_at 2 s (at + 2)

abbrev pub length_at : List ℕ → (at : ℕ) → ℕ
length_at s at = number_at 4 s (at + 4)

-- "type u16, name size u16, array length u32"
abbrev pub header_at : List ℕ → (at : ℕ) → PropertyHeader
header_at s at = record { code = code_at s at; size = size_at s at; length = length_at s at }

unfoldable pub name_at : List ℕ → (at : ℕ) → List ℕ
name_at s at = take (size_at s at) (drop (at + 8) s)

abbrev pub start_at : List ℕ → (at : ℕ) → ℕ
start_at s at = at + 8 + size_at s at

-- "0x73 `s`: array length must be 1, .."
abbrev pub length_ok : Size → (len : ℕ) → Bool
length_ok (Bytes w) len = true
length_ok Text len = eqb len 1
length_ok NoSuch len = false

-- ".. and the data runs up to and including the first zero byte": how many bytes that is. One more than there are where none is zero.
unfoldable pub to_zero : List ℕ → ℕ
to_zero [] = 1
to_zero (b ∷ bs) = cond (eqb b 0) 1 (suc (to_zero bs))

-- how many of the bytes after the name the data takes
abbrev pub data_size : Size → (len : ℕ) (rest : List ℕ) → ℕ
data_size (Bytes w) len rest = len * w
data_size Text len rest = to_zero rest
data_size NoSuch len rest = 0

-- past a property, with its offsets and the cursor at the next; or the refusal's number
pub data Step : Type 0 where
  Past : (offsets : Offsets) (next : Cursor) → Step
  Refused : (number : ℕ) → Step

-- as the code has it
abbrev pub step_told : Result Passed Reason → Step
step_told (Ok p) = Past p.offsets p.next
step_told (Err r) = Refused (reason_number r)

-- one step past it: "header fits, type, name size, name fits, name bytes, string length, data fits"
unfoldable pub step_at : List ℕ → (at : ℕ) → Step
step_at s at =
    let size = element_size (code_at s at) in
    let room = length s - at in
    let rest = drop (start_at s at) s in
    let n = data_size size (length_at s at) rest in
    cond (ltb room 8) (Refused 10)  -- header fits
    (cond (no_such size) (Refused 11)  -- type
    (cond (not (size_ok (size_at s at))) (Refused 11)  -- name size
    (cond (ltb room (8 + size_at s at)) (Refused 10)  -- name fits
    (cond (not (bytes_ok (name_at s at))) (Refused 11)  -- name bytes
    (cond (not (length_ok size (length_at s at))) (Refused 11)  -- string length
    (cond (ltb (length rest) n) (Refused 10)  -- data fits
    (Past (record { name = at + 8; start = start_at s at }) (record { at = start_at s at + n }))))))))

-- The same by the header's numbers alone; 0 is no refusal. First header fits, type, name size and name fits: from the type, the name
-- size and the bytes left from the header's start to the end;
unfoldable pub header_refusal : (code size room : ℕ) → ℕ
header_refusal code size room =
    cond (ltb room 8) 10
    (cond (no_such (element_size code)) 11
    (cond (not (size_ok size)) 11
    (cond (ltb room (8 + size)) 10 0)))

-- then string length and data fits, but for a string, whose end is found in its bytes: from the size of an element, the array length
-- and the bytes left after the name
unfoldable pub data_refusal : Size → (len room : ℕ) → ℕ
data_refusal (Bytes w) len room = cond (ltb room (len * w)) 10 0
data_refusal Text len room = cond (eqb len 1) 0 11
data_refusal NoSuch len room = 11

-- document 01's number and values of an answer: the refusal's number, 0 for none; where the name and the data start, and
-- where the next property does
pub record StepNumbers : Type 0 where
  pub number : ℕ
  pub name : ℕ
  pub start : ℕ
  pub next : ℕ

abbrev pub step_numbers : Step → StepNumbers
-- "steps past one property at a time": no refusal, and its places
step_numbers (Past p next) = record { number = 0; name = p.name; start = p.start; next = next.at }
-- "property's header, name or data passes the node's end" 10, "type code, name or string length wrong" 11; "all other numbers
-- of it are 0"
step_numbers (Refused n) = record { number = n; name = 0; start = 0; next = 0 }

-- where its data starts, or the end of the bytes where that is past it
unfoldable pub data_at : List ℕ → (at : ℕ) → ℕ
data_at s at = cond (ltb (length s) (start_at s at)) (length s) (start_at s at)
