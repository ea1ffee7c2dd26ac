-- The function 36: the trimmer.
use Rattle.std.specs.Prelude.{ℕ, cond, List, [], ◌∷◌, ◌++◌, ltb, replicate}
use Rattle.le.specs.Le.{number_at}
use Rattle.removal.specs.Trimmer.{trimmed_of, trimmed_output, trimmed_table}
use Rattle.vectors.specs.declared.frame.Frame.{Frame}
use Rattle.vectors.specs.Buffers.{checksum}
use Rattle.vectors.specs.Writes.{written_numbers}

-- the answer's numbers, and the checksum of the table
unfoldable pub trim_numbers : (s : List ℕ) (k : ℕ) (t : List ℕ) (room : ℕ) → List ℕ
trim_numbers s k t room = written_numbers (trimmed_of s k t room) ++ (checksum (trimmed_table s k t room) ∷ [])

-- the table has as many numbers as the block's first number says, each the seed; the row is x; a table over 8,300 numbers
-- is not lent
unfoldable pub trim_line : Frame → (s block : List ℕ) (room : ℕ) → List ℕ
trim_line f s block room =
    let n = number_at 4 block 0 in
    cond (ltb 8300 n) [] (trim_numbers s f.x (replicate n f.seed) room)

unfoldable pub trim_output : Frame → (s block out : List ℕ) → List ℕ
trim_output f s block out =
    let n = number_at 4 block 0 in
    cond (ltb 8300 n) out (trimmed_output s f.x (replicate n f.seed) out)
