-- How long each line is.
use Prim.Native.Nat.{ℕ, ◌+◌, ◌≤◌}
use native.Mathlib.Omega.{arith}
use mathlib.Core.Path.{◌≡◌, refl, ap, sym, ◌∙◌}
use lib.ListN.{length, length-append}
use Rattle.text.specs.Text.{decimal_size}
use Rattle.text.proofs.Laws.{length_digits}
use Rattle.table.specs.declared.Row.{Row}
use Rattle.base.specs.Letters.{letters}
use Rattle.faces.specs.declared.Faces.{Faces as FaceCount}
use Rattle.format.specs.Rows.{own_bytes}
use Rattle.listing.specs.declared.TextLine.{TextLine}
use Rattle.listing.specs.declared.TextLine.TheVariants.{Summary, Node, FileHeader, Faces, Total, Refusal, TooLong}
use Rattle.listing.specs.Listing.{parent_text, text_of, words_of}

pub summary_length : (flags nodes bytes : ℕ) → length (text_of (Summary flags nodes bytes)) ≡ 28 + decimal_size flags + decimal_size nodes + decimal_size bytes
unfolding words_of text_of letters
summary_length flags nodes bytes = simp (length-append, length_digits) (omega arith)

pub node_length : (index : ℕ) (row : Row) → length (text_of (Node index row)) ≡ 32 + decimal_size index + length (parent_text row.parent) + decimal_size (own_bytes row)
unfolding words_of text_of letters
node_length index row = simp (length-append, length_digits) (omega arith)

pub faces_length : (faces : FaceCount) (degenerate : ℕ) → length (text_of (Faces faces degenerate)) ≡ 19 + decimal_size faces.0 + decimal_size degenerate
unfolding words_of text_of letters
faces_length faces degenerate = simp (length-append, length_digits) (omega arith)

pub total_length : (bytes : ℕ) → length (text_of (Total bytes)) ≡ 7 + decimal_size bytes
unfolding words_of text_of letters
total_length bytes = simp (length-append, length_digits) (omega arith)

pub refusal_length : (number place : ℕ) → length (text_of (Refusal number place)) ≡ 13 + decimal_size number + decimal_size place
unfolding words_of text_of letters
refusal_length number place = simp (length-append, length_digits) (omega arith)

pub header_length : length (text_of FileHeader) ≡ 10
unfolding words_of text_of letters
header_length = refl

pub too_long_length : length (text_of TooLong) ≡ 9
unfolding words_of text_of letters
too_long_length = refl

-- a line's length, where it is told which line it is
pub told : {l k : TextLine} {n : ℕ} → l ≡ k → length (text_of k) ≡ n → n ≤ 92 → (n ≡ length (text_of l)) × (n ≤ 92)
told e p q = (sym p ∙ ap (λ z. length (text_of z)) (sym e), q)
