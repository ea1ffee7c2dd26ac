-- What holds of every listing.
use Rattle.std.specs.Prelude.{ℕ, ◌+◌, ◌≤◌, ◌≡◌, List, length}
use Rattle.le.specs.Le.{AreBytes}
use Rattle.format.specs.Rows.{all_own_bytes}
use Rattle.walk.specs.Walk.{limited}
use Rattle.reader.specs.declared.Account.{Account}
use Rattle.reader.specs.Reading.{Accepted}
use Rattle.reader.specs.Reading.{verdict}
use Rattle.listing.specs.Listing.{total_of, listing_of}

-- a buffer of 98,304 bytes has room for any
abbrev pub NoLonger : Type 0
NoLonger = (s : List ℕ) → AreBytes s → length (listing_of s) ≤ 98304

-- of an accepted file, the header's bytes and the own bytes in the lines of the rows add up to the total that is printed, and
-- that is the file's length
abbrev pub AddsUp : Type 0
AddsUp = (s : List ℕ) (a : Account) → AreBytes s → verdict s ≡ Accepted a → (16 + all_own_bytes (limited s).rows ≡ total_of a) × (total_of a ≡ length s)
