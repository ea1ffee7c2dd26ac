-- What private functions promise each other; nothing here need be believed.
use Rattle.std.specs.Prelude.{ℕ, ◌≤◌, ◌≡◌, true, false, cond, List, eqb, length, get_or}
use Rattle.kinds.specs.Kinds.{is_known}
use Rattle.table.specs.Table.{blank, has_room, cleared, filled}
use Rattle.walk.specs.Walk.{limited, flags_of}
use Rattle.reader.specs.declared.Account.{Account}
use Rattle.reader.specs.Reading.{Accepted}
use Rattle.reader.specs.Reading.{verdict}
use Rattle.reader.specs.Reading.{table_after as readTable}
use Rattle.removal.specs.Trimmer.{new_file}

-- a file that was accepted, with n rows and flags f; and in the table its rows, and zeros after them
pub record Read (s t : List ℕ) (n f : ℕ) : Type 0 where
  pub account : Account
  pub accepted : verdict s ≡ Accepted account
  pub room : has_room t ≡ true
  pub rows : t ≡ filled (limited s).rows t
  pub nodes : n ≡ length (limited s).rows
  pub flags : f ≡ flags_of s

-- such a file, whose row k is of an unknown kind and under row p, and an output that has room for the file without it
pub record Removes (s t : List ℕ) (k p n f room : ℕ) : Type 0 where
  pub read : Read s t n f
  pub unknown : is_known (get_or (limited s).rows k blank).kind ≡ false
  pub above : p ≡ (get_or (limited s).rows k blank).parent
  pub fits : length (new_file s k) ≤ room

-- the table by the answer's number
abbrev pub left_without : (number : ℕ) (s : List ℕ) (k : ℕ) (t : List ℕ) → List ℕ
left_without n s k t = cond (eqb n 0) (readTable (new_file s k) t) (cleared t)
