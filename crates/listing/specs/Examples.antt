-- Lines, computed: numbers at their edges, kinds with leading zeros, parents, and a body that ends before its start.
use Rattle.std.specs.Prelude.{ℕ, ◌≡◌, refl, [], ◌∷◌, ◌++◌, map}
use Rattle.kinds.specs.Kinds.{root}
use Rattle.table.specs.declared.Row.{Row}
use Rattle.table.specs.Table.{no_parent}
use Rattle.base.specs.Letters.{letters}
use Rattle.text.specs.Text.{glyph, digits, digit_count}
use Rattle.listing.specs.declared.TextLine.TheVariants.{Summary, Node, FileHeader, Faces, Total, Refusal, TooLong}
use Rattle.listing.specs.Listing.{parent_text, words_of, newline, text_of}

row : (kind parent start end : ℕ) → Row
row kind parent start stop = record { kind = kind; low = 1; high = 2; parent = parent; start = start; end = stop; properties = 3; children = 4 }

lines : map text_of (
    Summary 3000000001 0 18446744073709551615 ∷
    Node 0 (row root no_parent 40 40) ∷
    Node 9 (row 0xA 4294967294 100 175) ∷
    Node 1023 (row 0xFFFFFFFF 10 99 98) ∷
    FileHeader ∷
    Faces (record { 0 = 100 }) 99 ∷
    Total 16777216 ∷
    Refusal 12 40 ∷
    TooLong ∷ []
    )
    ≡ map (λ l. letters l ++ newline) (
    "cast 1 flags 3000000001 nodes 0 bytes 18446744073709551615" ∷
    "row 0 kind 746F6F72 parent - own 24" ∷
    "row 9 kind 0000000A parent 4294967294 own 99" ∷
    "row 1023 kind FFFFFFFF parent 10 own 24" ∷
    "header 16" ∷
    "faces 100 degenerate 99" ∷
    "total 16777216" ∷
    "refused 12 at 40" ∷
    "too long" ∷ []
    )
unfolding row glyph digits digit_count letters parent_text words_of text_of
lines = refl
