-- The functions 32 and 33: the listing of an input, and single lines of it.
use Rattle.std.specs.Prelude.{ℕ, cond, List, [], ◌∷◌, eqb}
use Rattle.le.specs.Le.{number_at}
use Rattle.text.specs.Text.{place_after, with_text}
use Rattle.listing.specs.declared.TextLine.{TextLine}
use Rattle.listing.specs.declared.TextLine.TheVariants.{Summary, Node, FileHeader, Faces, Total, Refusal, TooLong}
use Rattle.listing.specs.Listing.{text_of, listing_of}
use Rattle.vectors.specs.declared.frame.Frame.{Frame}
use Rattle.vectors.specs.Rows.{row_in}

-- 33: the line that x says, its numbers in a block, 8 bytes each, and a row's in the other
unfoldable pub line_in : (which : ℕ) (block row : List ℕ) → TextLine
line_in which s row =
    cond (eqb which 0) (Summary (number_at 4 s 0) (number_at 4 s 8) (number_at 8 s 16))
    (cond (eqb which 1) (Node (number_at 4 s 0) (row_in row))
    (cond (eqb which 2) FileHeader
    (cond (eqb which 3) (Faces (record { 0 = number_at 8 s 0 }) (number_at 8 s 8))
    (cond (eqb which 4) (Total (number_at 8 s 0))
    (cond (eqb which 5) (Refusal (number_at 4 s 0) (number_at 4 s 8))
    TooLong)))))

-- 32, the listing of the first block, and every other number as 33
unfoldable pub listed : Frame → (first second : List ℕ) → List ℕ
listed f first second = cond (eqb f.function 32) (listing_of first) (text_of (line_in f.x first second))

-- how many bytes are put, and the output
unfoldable pub list_numbers : Frame → (first second out : List ℕ) → List ℕ
list_numbers f first second out = place_after out 0 (listed f first second) ∷ []

unfoldable pub list_output : Frame → (first second out : List ℕ) → List ℕ
list_output f first second out = with_text out 0 (listed f first second)
