-- What is printed of an input, by its reading.
use Prim.Native.Nat.{ℕ, ◌+◌, ◌≤◌, ◌<◌}
use native.Mathlib.Omega.{arith}
use mathlib.Core.Path.{◌≡◌, ap}
use mathlib.Core.List.{List}
use lib.ListN.{length}
use borrow.Author.Tests.{le-leb, lt-leb}
use Rattle.le.specs.Le.{AreBytes}
use Rattle.format.specs.Rows.{rows_of, all_own_bytes}
use Rattle.walk.specs.Walk.{limited}
use Rattle.reader.specs.declared.Account.{Account}
use Rattle.reader.specs.Reading.{Accepted, Refused}
use Rattle.reader.specs.Reading.{verdict}
use Rattle.reader.specs.Acceptance.{IsValid, RowsGive}
use Rattle.reader.proofs.Charges.{own_split}
use Rattle.reader.proofs.Exactly.{valid_gives}
use Rattle.reader.proofs.Accepted.{seen, rows_are}
use Rattle.listing.specs.declared.TextLine.TheVariants.{Refusal, TooLong}
use Rattle.listing.specs.Listing.{text_of, total_of, file_lines, printed, listing_of}
use Rattle.listing.proofs.Whole.{printed_one}

-- ---- an accepted file's own bytes
module _ (s : List ℕ) (bytes : AreBytes s) {a : Account} (e : verdict s ≡ Accepted a) where
  abbrev forest : IsValid s
  forest = seen s e bytes

  answer : RowsGive s (rows_of forest.forest) a
  answer = valid_gives s forest.flags forest.forest forest.valid forest.bytes a e

  pub total_is : total_of a ≡ length s
  total_is = answer.sum

  pub own_are : 16 + all_own_bytes (limited s).rows ≡ total_of a
  own_are = omega (arith, ap all_own_bytes (rows_are s e bytes), own_split (rows_of forest.forest), answer.known, answer.unknown)

-- ---- the listing by its case
pub listing_long : (s : List ℕ) → 32768 < length s → listing_of s ≡ text_of TooLong
unfolding listing_of
listing_long s h = rw (lt-leb (length s) 32768 h) (printed_one TooLong)

module _ (s : List ℕ) (h : length s ≤ 32768) where
  pub listing_refused : (n place : ℕ) → verdict s ≡ Refused n place → listing_of s ≡ text_of (Refusal n place)
  unfolding listing_of file_lines
  listing_refused n place e = rw (le-leb (length s) 32768 h, e) (printed_one (Refusal n place))

  pub listing_accepted : (a : Account) → verdict s ≡ Accepted a → listing_of s ≡ printed (file_lines (length s) (Accepted a) (limited s).rows)
  unfolding listing_of
  listing_accepted a e = rw (le-leb (length s) 32768 h, e)
