-- Lines, computed by the definition: the cases that `stdin` begins with, as `stdout` has them; and cases that are not run.
use Rattle.std.specs.Prelude.{ℕ, ◌≡◌, refl, List, [], ◌∷◌}
use Rattle.le.specs.Le.{val, number_at, le}
use Rattle.vectors.specs.declared.frame.Frame.{Frame}
use Rattle.vectors.specs.Buffers.{rising, taking, checksum_from, checksum}
use Rattle.vectors.specs.Cases.{answer_line}
use Rattle.vectors.specs.Files.{file_line}
use Rattle.vectors.specs.Leaves.{stored, written_line, leaf_line}
use Rattle.vectors.specs.Outputs.{output_line}
use Rattle.vectors.specs.Parts.{size_line, part_line}

-- a case's line over these bytes as its first block
unfoldable line : Frame → List ℕ
unfolding val number_at le rising taking checksum_from checksum stored written_line leaf_line size_line part_line file_line output_line answer_line
line f = answer_line f (0x67 ∷ 0xEC ∷ 0x8E ∷ 0x65 ∷ 0xA1 ∷ 0x8D ∷ 0xEB ∷ 0xBE ∷ 0x5E ∷ 0x55 ∷ 0x32 ∷ []) []

abbrev case : (function seed x y : ℕ) → Frame
case function seed x y = record { function = function; first = 11; second = 0; seed = seed; x = x; y = y }

-- two, four and eight bytes, the last of them past the end
read : (line (case 1 0 9 0) ≡ 12885 ∷ []) × (line (case 2 0 18 0) ≡ 0 ∷ []) × (line (case 3 0 5 0) ≡ 55342243179405 ∷ [])
unfolding line
read = (refl, refl, refl)

-- two and four bytes written into an output that the seed filled
written : (line (case 4 0x7476CF8A 8 0x9AFCD44D14CF8BFE) ≡ 3791794542 ∷ []) × (line (case 5 0xA534A6A6 9 0x2AC2CE17A5794A3B) ≡ 1488831324 ∷ [])
unfolding line
written = (refl, refl)

-- a vector of three floats has 12 bytes
element : line (case 10 0 0x7633 0) ≡ 1 ∷ 12 ∷ []
unfolding line
element = refl

-- no such function, a table that is too long, and an output that is too long
unrun : (line (case 37 0 0 0) ≡ []) × (line (case 30 0 0 8301) ≡ []) × (line (case 32 0 0 98305) ≡ [])
unfolding line
unrun = (refl, refl, refl)
