-- Document 01's listing: its lines, "Flags print in decimal. A refused file prints one line, as `refused 12 at 40`; input over
-- 32,768 bytes prints `too long`." Every line ends in a newline.
use Rattle.std.specs.Prelude.{ℕ, suc, ◌+◌, cond, eqb, leb, length}
use Prim.Native.String.{String}
use mathlib.Core.List.{List, [], ◌∷◌, ◌++◌, flat_map}
use Rattle.table.specs.declared.Row.{Row}
use Rattle.table.specs.Table.{no_parent}
use Rattle.base.specs.Letters.{letters}
use Rattle.faces.specs.declared.Faces.{Faces as FaceCount}
use Rattle.format.specs.Rows.{own_bytes}
use Rattle.walk.specs.Walk.{limited}
use Rattle.reader.specs.declared.Account.{Account}
use Rattle.reader.specs.Reading.{Reading}
use Rattle.reader.specs.Reading.{Accepted, Refused}
use Rattle.reader.specs.Reading.{verdict}
use Rattle.listing.specs.declared.TextLine.{TextLine}
use Rattle.listing.specs.declared.TextLine.TheVariants.{Summary, Node, FileHeader, Faces, Total, Refusal, TooLong}
use Rattle.text.specs.Text.{decimal, hexadecimal}

-- a row's parent, `-` for none
unfoldable pub parent_text : ℕ → List ℕ
parent_text p = cond (eqb p no_parent) (letters "-") (decimal p)

-- a label, and after it a number in decimal
abbrev pub labelled : String → ℕ → List ℕ
labelled label n = letters label ++ decimal n

-- what a line says: kinds are eight capital hexadecimal digits, all other numbers are decimal; the 1 is the file's version
unfoldable pub words_of : TextLine → List ℕ
words_of (Summary flags nodes bytes) = labelled "cast 1 flags " flags ++ labelled " nodes " nodes ++ labelled " bytes " bytes
words_of (Node index row) =
    labelled "row " index
    ++ (letters " kind " ++ hexadecimal row.kind)
    ++ (letters " parent " ++ parent_text row.parent)
    ++ labelled " own " (own_bytes row)
words_of FileHeader = letters "header 16"
words_of (Faces faces degenerate) = labelled "faces " faces.0 ++ labelled " degenerate " degenerate
words_of (Total bytes) = labelled "total " bytes
words_of (Refusal number place) = labelled "refused " number ++ labelled " at " place
words_of TooLong = letters "too long"

-- a line's text ends in one newline
abbrev pub newline : List ℕ
newline = 10 ∷ []

unfoldable pub text_of : TextLine → List ℕ
text_of l = words_of l ++ newline

-- the lines of rows, the first one's number given
unfoldable pub node_lines : ℕ → List Row → List TextLine
node_lines i [] = []
node_lines i (r ∷ rs) = Node i r ∷ node_lines (suc i) rs

-- the lines after them
abbrev pub foot_lines : FaceCount → (degenerate total : ℕ) → List TextLine
foot_lines faces degenerate total = FileHeader ∷ Faces faces degenerate ∷ Total total ∷ []

-- the `total` of the listing: the file header's bytes and all nodes' own
abbrev pub total_of : Account → ℕ
total_of a = 16 + (a.known.0 + a.unknown.0)

-- the lines of a file of this length, by its reading and its rows
unfoldable pub file_lines : (bytes : ℕ) → Reading → List Row → List TextLine
file_lines bytes (Accepted a) rows =
    (Summary a.flags a.nodes bytes ∷ node_lines 0 rows) ++ foot_lines a.faces a.degenerate (total_of a)
file_lines bytes (Refused number place) rows = Refusal number place ∷ []

-- what is printed of lines
unfoldable pub printed : List TextLine → List ℕ
printed ls = flat_map text_of ls

-- what is printed of any input; "too long" comes before all else. `verdict s` is the reading with any table that has room, and
-- `(limited s).rows` are the rows that an accepted one leaves in it: 1 and 2 are never printed.
unfoldable pub listing_of : List ℕ → List ℕ
listing_of s = printed (cond (leb (length s) 32768) (file_lines (length s) (verdict s) (limited s).rows) (TooLong ∷ []))
