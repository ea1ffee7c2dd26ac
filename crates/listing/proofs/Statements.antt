-- No listing is longer than 98,304 bytes, and what it prints adds up.
use Prim.Native.Nat.{ℕ, suc, ◌*◌, ◌≤◌}
use native.Mathlib.Omega.{arith}
use mathlib.Core.Path.{◌≡◌, refl, ap, ◌∙◌}
use mathlib.Core.List.{List, [], ◌∷◌, ◌++◌}
use lib.Dec.{leb, eqb}
use lib.ListN.{length, length-append}
use borrow.Author.Tests.{leb-true, leb-false, eqb-true, eqb-false}
use Rattle.base.proofs.Tests.{by_test}
use Rattle.text.specs.Text.{decimal_size}
use Rattle.text.proofs.Laws.{length_digits, size_few}
use Rattle.table.specs.declared.Row.{Row}
use Rattle.table.specs.Table.{no_parent}
use Rattle.base.specs.Letters.{letters}
use Rattle.format.specs.Rows.{own_bytes}
use Rattle.walk.specs.Walk.{limited}
use Rattle.reader.specs.declared.Account.{Account}
use Rattle.reader.specs.Reading.{Reading}
use Rattle.reader.specs.Reading.{Accepted, Refused}
use Rattle.reader.specs.Reading.{verdict}
use Rattle.listing.specs.declared.TextLine.{TextLine}
use Rattle.listing.specs.declared.TextLine.TheVariants.{Summary, Node, FileHeader, Faces, Total, Refusal, TooLong}
use Rattle.listing.specs.Listing.{parent_text, text_of, node_lines, foot_lines, file_lines, printed, total_of, listing_of}
use Rattle.listing.specs.Statements.{NoLonger, AddsUp}
use Rattle.listing.proofs.Laws.{parent_none, parent_some}
use Rattle.listing.proofs.Lengths.{summary_length, node_length, header_length, faces_length, total_length, refusal_length, too_long_length}
use Rattle.listing.proofs.Whole.{printed_none, printed_more}
use Rattle.reader.proofs.Accepted.{few}
use Rattle.listing.proofs.Listed.{own_are, total_is, listing_long, listing_refused, listing_accepted}

parent_short : (p : ℕ) → length (parent_text p) ≤ 20
unfolding letters
parent_short p =
    by_test (eqb p no_parent)
    (λ e. omega (arith, ap length (parent_none p (eqb-true p no_parent e))))
    (λ e. omega (arith, ap length (parent_some p (eqb-false p no_parent e)) ∙ length_digits 10 (decimal_size p) p, size_few p))

-- no line has more than 92 bytes
line_short : (l : TextLine) → length (text_of l) ≤ 92
line_short (Summary flags nodes bytes) = omega (arith, summary_length flags nodes bytes, size_few flags, size_few nodes, size_few bytes)
line_short (Node index row) = omega (arith, node_length index row, size_few index, parent_short row.parent, size_few (own_bytes row))
line_short FileHeader = omega (arith, header_length)
line_short (Faces faces degenerate) = omega (arith, faces_length faces degenerate, size_few faces.0, size_few degenerate)
line_short (Total bytes) = omega (arith, total_length bytes, size_few bytes)
line_short (Refusal number place) = omega (arith, refusal_length number place, size_few number, size_few place)
line_short TooLong = omega (arith, too_long_length)

lines_short : (ls : List TextLine) → length (printed ls) ≤ 92 * length ls
lines_short [] = omega (arith, ap length printed_none)
lines_short (l ∷ ls) = omega (arith, ap length (printed_more l ls) ∙ length-append (text_of l) (printed ls), line_short l, lines_short ls)

nodes_length : (i : ℕ) (rs : List Row) → length (node_lines i rs) ≡ length rs
unfolding node_lines
nodes_length i [] = refl
nodes_length i (r ∷ rs) = ap suc (nodes_length (suc i) rs)

file_short : (bytes : ℕ) (a : Account) (rs : List Row) → length rs ≤ 1024 → length (printed (file_lines bytes (Accepted a) rs)) ≤ 98304
unfolding file_lines
file_short bytes a rs h =
    let front = Summary a.flags a.nodes bytes ∷ node_lines 0 rs in
    let foot = foot_lines a.faces a.degenerate (total_of a) in
    omega (arith, lines_short (front ++ foot), length-append front foot, nodes_length 0 rs)

pub no_longer : NoLonger
no_longer s bytes =
    by_test (leb (length s) 32768)
    (λ e. by_reading_lem (leb-true (length s) 32768 e) (verdict s) refl)
    (λ e. omega (arith, ap length (listing_long s (leb-false (length s) 32768 e)), line_short TooLong))
  where
    by_reading_lem : length s ≤ 32768 → (r : Reading) → verdict s ≡ r → length (listing_of s) ≤ 98304
    by_reading_lem h (Accepted a) e = omega (arith, ap length (listing_accepted s h a e), file_short (length s) a (limited s).rows (few s e bytes))
    by_reading_lem h (Refused n place) e = omega (arith, ap length (listing_refused s h n place e), line_short (Refusal n place))

pub adds_up : AddsUp
adds_up s a bytes e = (own_are s bytes e, total_is s bytes e)
