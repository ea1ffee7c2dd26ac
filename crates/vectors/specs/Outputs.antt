-- The lines of the functions 32 to 36, which put bytes into a lent output.
use Rattle.std.specs.Prelude.{ℕ, cond, List, [], ◌∷◌, ◌++◌, ltb, length}
use Rattle.vectors.specs.declared.frame.Frame.{Frame}
use Rattle.vectors.specs.Buffers.{filling, checksum}
use Rattle.vectors.specs.Listings.{list_numbers, list_output}
use Rattle.vectors.specs.Trims.{trim_line, trim_output}
use Rattle.vectors.specs.Writes.{write_numbers, write_output}

-- 32 and 33, 34 and 35, and every other number as 36
unfoldable pub put_numbers : Frame → (first second out : List ℕ) → List ℕ
put_numbers f first second out =
    cond (ltb f.function 34) (list_numbers f first second out)
    (cond (ltb f.function 36) (write_numbers f first second (length out))
    (trim_line f first second (length out)))

unfoldable pub put_output : Frame → (first second out : List ℕ) → List ℕ
put_output f first second out =
    cond (ltb f.function 34) (list_output f first second out)
    (cond (ltb f.function 36) (write_output f first second out)
    (trim_output f first second out))

-- the answer's numbers, and the checksum of the output
unfoldable pub into_output : Frame → (first second out : List ℕ) → List ℕ
into_output f first second out = put_numbers f first second out ++ (checksum (put_output f first second out) ∷ [])

-- the output has y bytes, filled by the seed; one over 98,304 bytes is not lent
unfoldable pub output_line : Frame → (first second : List ℕ) → List ℕ
output_line f first second = cond (ltb 98304 f.y) [] (into_output f first second (filling f.seed f.y))
