-- The lookup and the layout, as one named statement about `lookup_of`, `number_of` and `part_of`, which the contracts of
-- `lookup::find` and `data` go by. Document 01: "Lookup of a property by name in any bytes and any table: a query that finds the name, else
-- answers 43; before that 40 row not wholly in the table, 41 and 42 as 22 and 23, over the bytes given and for any kind. Of two
-- equal names the first is found. It hands back the data's part of the file; an empty part on refusal."
use Rattle.std.specs.Prelude.{ℕ, ◌+◌, ◌*◌, ◌≤◌, ◌≡◌, ◌↔◌, length}
use mathlib.Core.List.{List, [], ◌∷◌, ◌++◌, flat_map}
use Rattle.le.specs.Le.{AreBytes}
use Rattle.table.specs.declared.Row.{Row}
use Rattle.table.specs.Table.{row_from}
use Rattle.format.specs.Rows.{body_of}
use Rattle.base.specs.Lists.{Each}
use Rattle.format.specs.Layout.{Property, property_bytes, GoodBody, InBytes}
use Rattle.lookup.specs.Lookup.{At}
use Rattle.lookup.specs.Lookup.{lookup_of, number_of, part_of}

-- not 40: the row's eight numbers are in the table
abbrev pub IsRow : (t : List ℕ) (row : ℕ) → Type 0
IsRow t row = 8 * row + 8 ≤ length t

-- not 41 is `InBytes`; not 42, "as 23", "not exactly its count (at most 64) of properties"
abbrev pub IsBody : (bs : List ℕ) → Row → Type 0
IsBody bs r = GoodBody r.properties (body_of bs r)

-- none of some properties has the name
abbrev pub NoneNamed : (name : List ℕ) → List Property → Type 0
NoneNamed name ps = Each (λ p. p.name ≡ name → ⊥) ps

-- of some properties this is the first with the name
pub record FirstNamed (name : List ℕ) (ps : List Property) (p : Property) : Type 0 where
  pub before : List Property
  pub after : List Property
  pub parts : ps ≡ before ++ (p ∷ after)
  pub earlier : NoneNamed name before
  pub named : p.name ≡ name

-- where a property's data starts, in a body that starts at a place: after the properties before it, its header and its name
abbrev pub data_from : (start : ℕ) (before : List Property) → Property → ℕ
data_from start before p = start + (length (flat_map property_bytes before) + (8 + length p.name))

-- in a body that is these properties: 43 exactly when none has the name; found, which is number 0, exactly when one has it, and
-- then the place is the first such one's data's and the part is that data
pub record Finds (bs t : List ℕ) (row : ℕ) (name : List ℕ) (ps : List Property) : Type 0 where
  pub absent : (number_of (lookup_of bs t row name) ≡ 43) ↔ NoneNamed name ps
  pub found : (number_of (lookup_of bs t row name) ≡ 0) ↔ ((p : Property) × FirstNamed name ps p)
  pub place : (p : Property) (f : FirstNamed name ps p)
      → let from = data_from (row_from t (8 * row)).start f.before p in lookup_of bs t row name ≡ At from (from + length p.content)
  pub content : (p : Property) → FirstNamed name ps p → part_of bs (lookup_of bs t row name) ≡ p.content

pub record Answers (bs t : List ℕ) (row : ℕ) (name : List ℕ) (r : Row) : Type 0 where
  pub no_row : (number_of (lookup_of bs t row name) ≡ 40) ↔ (IsRow t row → ⊥)
  pub outside : (number_of (lookup_of bs t row name) ≡ 41) ↔ (IsRow t row × (InBytes bs r → ⊥))
  pub no_body : (number_of (lookup_of bs t row name) ≡ 42) ↔ (IsRow t row × InBytes bs r × (IsBody bs r → ⊥))
  pub in_body : IsRow t row → InBytes bs r → (body : IsBody bs r) → Finds bs t row name body.properties
  -- "an empty part on refusal"
  pub empty : (number_of (lookup_of bs t row name) ≡ 0 → ⊥) → part_of bs (lookup_of bs t row name) ≡ []

-- of any bytes, any table, any row number and any name; the row is the eight numbers from 8 times its number on
abbrev pub LooksUp : Type 0
LooksUp = (bs t : List ℕ) (row : ℕ) (name : List ℕ) → AreBytes bs → Answers bs t row name (row_from t (8 * row))
