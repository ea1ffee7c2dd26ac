-- The numbers of a case's line, after the function's own: by the function's number, one part of the program for each range.
use Rattle.std.specs.Prelude.{ℕ, cond, List, [], ltb}
use Rattle.vectors.specs.declared.frame.Frame.{Frame}
use Rattle.vectors.specs.Files.{file_line}
use Rattle.vectors.specs.Leaves.{leaf_line}
use Rattle.vectors.specs.Outputs.{output_line}
use Rattle.vectors.specs.Parts.{part_line}
use Rattle.vectors.specs.Rows.{row_line}

-- what is not run has no number
unfoldable pub answer_line : Frame → (first second : List ℕ) → List ℕ
answer_line f first second =
    cond (ltb f.function 10) (leaf_line f first)
    (cond (ltb f.function 19) (part_line f first second)
    (cond (ltb f.function 30) (row_line f first second)
    (cond (ltb f.function 32) (file_line f first)
    (cond (ltb f.function 37) (output_line f first second)
    []))))
