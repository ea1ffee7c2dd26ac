-- Which line of the table of rules speaks of a property, and which type codes it takes, as propositions: "a line per kind and
-- name".
use Rattle.std.specs.Prelude.{ℕ, ◌<◌, ◌≡◌, ◌⊎◌, Bool, true, false, List, ◌++◌}
use Rattle.text.specs.Text.{decimal}
use Rattle.rules.specs.Table.{Types, only, N, key_type, any_type, Line, lines}
use Rattle.props.specs.Types.{byte, short, int, float, v4}
use Rattle.base.specs.Lists.{Each}

-- ---- names

-- "`%d` is one to three digits, no leading zero unless it is `0`": a prefix, and then a number below 1,000 in decimal
pub record Numbered (prefix name : List ℕ) : Type 0 where
  pub number : ℕ
  pub below : number < 1000
  pub spelt : name ≡ prefix ++ decimal number

-- some letters spell a name: as they stand where they are plain, with `%d` after them where they are numbered
abbrev pub Spells : (numbered : Bool) (letters name : List ℕ) → Type 0
Spells false letters name = name ≡ letters
Spells true letters name = Numbered letters name

-- a line lists a name
abbrev pub Lists : Line → (name : List ℕ) → Type 0
Lists l name = Spells l.numbered l.name name

-- what the line of a kind and name says of a property; "Names not listed are free"
abbrev pub ByLine : (kind : ℕ) (name : List ℕ) → (Line → Type 0) → Type 0
ByLine kind name P = Each (λ l. l.kind ≡ kind → Lists l name → P l) lines

-- ---- types

-- "`N` any of `b h i`"
abbrev pub IsN : ℕ → Type 0
IsN code = (code ≡ byte) ⊎ ((code ≡ short) ⊎ (code ≡ int))

-- kv's "one of b h i f v4"
abbrev pub IsKeyType : ℕ → Type 0
IsKeyType code = IsN code ⊎ ((code ≡ float) ⊎ (code ≡ v4))

-- a line's types take a type code: one type its own code, `N` and kv's any of theirs
abbrev pub Takes : Types → (code : ℕ) → Type 0
Takes (only type) code = code ≡ type
Takes N code = IsN code
Takes key_type code = IsKeyType code
Takes any_type code = Unit {0}
