-- The two ways to number the unmarked rows agree: the tally finds the row that has a number, `new_number` gives the number of a
-- row; and among the unmarked rows, the one with that number is the same row.
use Rattle.std.specs.Prelude.{ℕ, ◌≤◌, ◌≡◌, Bool, List, length, get_or}
use Rattle.std.proofs.Math.Option.{none, some}
use Rattle.table.specs.declared.Row.{Row}
use Rattle.table.specs.Table.{blank}
use Rattle.removal.specs.Tally.{row_numbered}
use Rattle.removal.specs.Left.{unmarked, new_number, Stays, unmarked_of}

-- each row that stays has a number
abbrev pub SameNumber : Type 0
SameNumber = (marks : List Bool) (i : ℕ) → Stays marks i → row_numbered 0 marks (new_number marks i) ≡ some i

-- a number is that of a row that stays
abbrev pub OnlyNumber : Type 0
OnlyNumber = (marks : List Bool) (n i : ℕ) → row_numbered 0 marks n ≡ some i → Stays marks i × (new_number marks i ≡ n)

-- from the number of the unmarked rows on, no number is a row's
abbrev pub NoNumber : Type 0
NoNumber = (marks : List Bool) (n : ℕ) → unmarked marks ≤ n → row_numbered 0 marks n ≡ none

-- the unmarked row with a row's number is that row
abbrev pub SameRow : Type 0
SameRow = (rows : List Row) (marks : List Bool) (i : ℕ) → length rows ≡ length marks → Stays marks i
    → get_or (unmarked_of rows marks) (new_number marks i) blank ≡ get_or rows i blank
