-- What a reading leaves in the table, number by number, as one named statement about `reading_of` and `table_after`. Document 01: "On 1
-- the table is untouched; on others its first 8,192 numbers are 0. On acceptance the numbers after the rows, up to 8,192, are 0.
-- Numbers past 8,192 never change." Which rows an accepted file has is said in `AnswersTheRules`.
use Rattle.std.specs.Prelude.{ℕ, ◌*◌, ◌≤◌, ◌<◌, ◌≡◌, List, length, get_or, drop}
use Rattle.base.specs.Limits.{table_numbers}
use Rattle.le.specs.Le.{AreBytes}
use Rattle.reader.specs.declared.Account.{Account}
use Rattle.reader.specs.Reading.{Accepted, Refused}
use Rattle.reader.specs.Reading.{reading_of, table_after}

-- number i of a table; one that is not there reads as 1
abbrev pub number_in : List ℕ → (i : ℕ) → ℕ
number_in t i = get_or t i 1

pub record TableAtExit (s t : List ℕ) : Type 0 where
  -- "table shorter than 8,192 numbers"
  pub untouched : length t < table_numbers → (reading_of s t ≡ Refused 1 0) × (table_after s t ≡ t)
  pub refused : table_numbers ≤ length t → (n place : ℕ) → reading_of s t ≡ Refused n place
      → (i : ℕ) → i < table_numbers → number_in (table_after s t) i ≡ 0
  -- a row is eight numbers
  pub accepted : (a : Account) → reading_of s t ≡ Accepted a → (i : ℕ) → 8 * a.nodes ≤ i → i < table_numbers → number_in (table_after s t) i ≡ 0
  pub past : drop table_numbers (table_after s t) ≡ drop table_numbers t
  pub long : length (table_after s t) ≡ length t

-- of any file and any table
abbrev pub LeavesTable : Type 0
LeavesTable = (s t : List ℕ) → AreBytes s → TableAtExit s t

-- Refusal 8 is never given (`NeverTooDeep` of the crate walk), with any bytes and any table
abbrev pub NoRefusal8 : Type 0
NoRefusal8 = (s t : List ℕ) (place : ℕ) → reading_of s t ≡ Refused 8 place → ⊥
