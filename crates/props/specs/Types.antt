-- Document 01: "Element sizes by type code".
use Rattle.std.specs.Prelude.{ℕ, Bool, true, false, cond, eqb, Option, Some, None}
use Rattle.props.specs.declared.Size.{Size as CodeSize}
use Rattle.props.specs.declared.Size.TheVariants.{Bytes as CodeBytes, Text as CodeText}

-- "type code"s, by the letters that document 01 gives them: b h i l f d v2 v3 v4 s
abbrev pub byte : ℕ
byte = 0x62

abbrev pub short : ℕ
short = 0x68

abbrev pub int : ℕ
int = 0x69

abbrev pub long : ℕ
long = 0x6C

abbrev pub float : ℕ
float = 0x66

abbrev pub double : ℕ
double = 0x64

abbrev pub v2 : ℕ
v2 = 0x7632

abbrev pub v3 : ℕ
v3 = 0x7633

abbrev pub v4 : ℕ
v4 = 0x7634

abbrev pub string : ℕ
string = 0x73

-- the size of one element: so many bytes; that of a string, which its data tells; or no type has the code
pub data Size : Type 0 where
  Bytes : (size : ℕ) → Size
  Text : Size
  NoSuch : Size

-- as the code has it
abbrev pub size_told : Option CodeSize → Size
size_told (Some (CodeBytes w)) = Bytes w
size_told (Some CodeText) = Text
size_told None = NoSuch

-- b 1, h 2, i 4, l 8, f 4, d 8, v2 8, v3 12, v4 16; s
abbrev pub element_size : ℕ → Size
element_size code =
    cond (eqb code byte) (Bytes 1)
    (cond (eqb code short) (Bytes 2)
    (cond (eqb code int) (Bytes 4)
    (cond (eqb code long) (Bytes 8)
    (cond (eqb code float) (Bytes 4)
    (cond (eqb code double) (Bytes 8)
    (cond (eqb code v2) (Bytes 8)
    (cond (eqb code v3) (Bytes 12)
    (cond (eqb code v4) (Bytes 16)
    (cond (eqb code string) Text NoSuch)))))))))

abbrev pub no_such : Size → Bool
no_such (Bytes w) = false
no_such Text = false
no_such NoSuch = true

-- ---- document 01's number and value of an answer: the refusal's number, 0 for none, and the bytes of one element
pub record SizeNumbers : Type 0 where
  pub number : ℕ
  pub size : ℕ

abbrev pub size_numbers : Size → SizeNumbers
-- "0x62 `b` 1, 0x68 `h` 2, ..": no refusal, and the element's size
size_numbers (Bytes w) = record { number = 0; size = w }
-- "0x73 `s`: .. the data runs up to and including the first zero byte": no refusal, and 0 for a size that only the data
-- tells; no other type has it
size_numbers Text = record { number = 0; size = 0 }
-- "type code .. wrong": 11
size_numbers NoSuch = record { number = 11; size = 0 }
