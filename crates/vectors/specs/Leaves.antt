-- The lines of the functions 1 to 7: numbers in bytes.
use Rattle.std.specs.Prelude.{ℕ, ◌%◌, min, cond, List, [], ◌∷◌, eqb, ltb, length}
use Rattle.std.proofs.lemmas.List.Edits.{sets}
use Rattle.le.specs.Le.{number_at, le}
use Rattle.vectors.specs.declared.frame.Frame.{Frame}
use Rattle.vectors.specs.Buffers.{filling, checksum}

-- 4, 5 and, as every other number, 6: the 2, 4 or 8 lowest bytes of y written at a place
unfoldable pub stored : (function at y : ℕ) (out : List ℕ) → List ℕ
stored function at y out =
    cond (eqb function 4) (sets out at (le 2 (y % 65536)))
    (cond (eqb function 5) (sets out at (le 4 (y % 4294967296)))
    (sets out at (le 8 y)))

-- the checksum of an output of n bytes that was written to; an output over 4,096 bytes is not lent
unfoldable pub written_line : Frame → (n : ℕ) → List ℕ
written_line f n =
    cond (ltb 4096 n) []
    (checksum (stored f.function f.x f.y (filling f.seed n)) ∷ [])

-- 1 to 3: the number of 2, 4 or 8 bytes at x; 7: the number of y bytes, of at most four
unfoldable pub leaf_line : Frame → (s : List ℕ) → List ℕ
leaf_line f s =
    cond (eqb f.function 1) (number_at 2 s f.x ∷ [])
    (cond (eqb f.function 2) (number_at 4 s f.x ∷ [])
    (cond (eqb f.function 3) (number_at 8 s f.x ∷ [])
    (cond (eqb f.function 7) (number_at (min (f.y % 4294967296) 4) s f.x ∷ [])
    (written_line f (length s)))))
