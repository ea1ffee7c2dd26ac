-- The lines of the functions 30 and 31: a file, walked or read into a lent table.
use Rattle.std.specs.Prelude.{ℕ, cond, List, [], ◌∷◌, ◌++◌, eqb, ltb, replicate}
use Rattle.table.specs.Table.{has_room, cleared}
use Rattle.walk.specs.Walk.{Answer as Walked, answer, table_walked}
use Rattle.reader.specs.Reading.{Reading, Numbers, numbers_of, reading_of, table_after}
use Rattle.vectors.specs.declared.frame.Frame.{Frame}
use Rattle.vectors.specs.Buffers.{checksum}

-- ---- 30: the walk; a table without room is 1, and is left

abbrev pub walked_numbers : Walked → List ℕ
walked_numbers w = w.number ∷ w.place ∷ w.nodes ∷ w.flags ∷ []

unfoldable pub walk_numbers : (s t : List ℕ) → List ℕ
walk_numbers s t = cond (has_room t) (walked_numbers (answer s)) (1 ∷ 0 ∷ 0 ∷ 0 ∷ [])

-- a walk into any table, which is cleared where the file is refused
unfoldable pub walked_table : (s t : List ℕ) → List ℕ
walked_table s t = cond (eqb (answer s).number 0) (table_walked s t) (cleared (table_walked s t))

unfoldable pub walk_table : (s t : List ℕ) → List ℕ
walk_table s t = cond (has_room t) (walked_table s (cleared t)) t

-- ---- 31: the reading

abbrev pub nine_numbers : Numbers → List ℕ
nine_numbers n =
    n.number ∷ n.place ∷ n.nodes ∷ n.flags ∷
    n.own_known ∷ n.own_unknown ∷ n.faces ∷ n.degenerate ∷ n.links ∷ []

unfoldable pub reading_numbers : Reading → List ℕ
reading_numbers r = nine_numbers (numbers_of r)

-- ---- both: the answer's numbers, and the checksum of the table

-- 30, and every other number as 31
unfoldable pub file_numbers : (function : ℕ) (s t : List ℕ) → List ℕ
file_numbers function s t = cond (eqb function 30) (walk_numbers s t) (reading_numbers (reading_of s t))

unfoldable pub file_table : (function : ℕ) (s t : List ℕ) → List ℕ
file_table function s t = cond (eqb function 30) (walk_table s t) (table_after s t)

unfoldable pub into_table : (function : ℕ) (s t : List ℕ) → List ℕ
into_table function s t = file_numbers function s t ++ (checksum (file_table function s t) ∷ [])

-- the table has y numbers, each the seed; one over 8,300 numbers is not lent
unfoldable pub file_line : Frame → (s : List ℕ) → List ℕ
file_line f s = cond (ltb 8300 f.y) [] (into_table f.function s (replicate f.y f.seed))
