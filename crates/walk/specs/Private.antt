-- What private functions promise each other; nothing here need be believed.
use Rattle.std.specs.Prelude.{◌≡◌, Bool, true, false, cond, ℕ, ◌+◌, ◌≤◌, List, leb, ltb, length, Result, Ok, Err}
use Rattle.base.specs.Limits.{most_properties, most_rows}
use Rattle.kinds.specs.declared.Standing.{Standing}
use Rattle.kinds.specs.declared.Standing.TheVariants.{Barred, Known, Unknown}
use Rattle.table.specs.Table.{put_rows}
use Rattle.body.specs.Body.{Passed}
use Rattle.body.specs.Body.{properties}
use Rattle.base.specs.declared.Refusal.{Refusal}
use Rattle.base.specs.Refusals.{reason_number}
use Rattle.walk.specs.declared.Reached.{Reached as CodeReached}
use Rattle.walk.specs.Walk.{Walked, ill_sized}

-- ---- the refusal of a header, 5 to 8, from how its node stands
abbrev pub is_barred : Standing → Bool
is_barred Barred = true
is_barred Known = false
is_barred Unknown = false

abbrev pub known_there : Standing → Bool
known_there Barred = false
known_there Known = true
known_there Unknown = false

unfoldable pub refusal_there : (size room : ℕ) → Standing → (row depth : ℕ) → ℕ
refusal_there size room s row depth =
    cond (ill_sized size room) 5
    (cond (is_barred s) 6
    (cond (leb most_rows row) 7
    (cond (ltb 8 depth) 8 0)))

-- the properties of a known node at a place, in what follows its header: 9 at the node; 10 or 11 at a property; or 0, and where they end
unfoldable pub passed_at : (at : ℕ) → List ℕ → (count : ℕ) → Passed
passed_at at s count =
    let p = properties s count in
    cond (ltb most_properties count) (record { number = 9; at = at }) (record { number = p.number; at = at + 24 + p.at })

-- ---- walks
-- 12 where bytes are left after the last node, else 0
abbrev pub left_over : ℕ → ℕ
left_over left = cond (ltb 0 left) 12 0

-- where a walk came to: with number 0 just past what it walked, with another at what it is refused for; and how many rows
-- the table then has
pub record Reached : Type 0 where
  pub number : ℕ
  pub at : ℕ
  pub rows : ℕ

-- as the code has it, which tells no rows of a walk that is refused: they are given
abbrev pub reached_told : Result CodeReached Refusal → (rows : ℕ) → Reached
reached_told (Ok r) n = record { number = 0; at = r.at; rows = r.rows }
reached_told (Err r) n = record { number = reason_number r.reason; at = r.place; rows = n }

-- from a place and a row on it came to w in these bytes, and the table t became t'
pub record Came (r : Reached) (w : Walked) (at row : ℕ) (bs t t' : List ℕ) : Type 0 where
  pub number : r.number ≡ w.number
  pub reached : r.at ≡ w.at
  pub rows : r.rows ≡ row + length w.rows
  pub table : t' ≡ put_rows t row w.rows
  pub few : r.rows ≤ most_rows
  pub onward : at ≤ r.at
  pub within : r.at ≤ at + length bs

abbrev pub CameTo : Result CodeReached Refusal → Walked → (at row : ℕ) → (bs t t' : List ℕ) → Type 0
CameTo r w at row bs t t' = Came (reached_told r (row + length w.rows)) w at row bs t t'
