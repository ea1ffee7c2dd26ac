-- The lines of the functions 10 to 18: properties, names and kinds.
use Rattle.std.specs.Prelude.{ℕ, ◌-◌, ◌%◌, cond, ◌&&◌, List, [], ◌∷◌, eqb, ltb, length, None, Option, Some}
use Rattle.names.specs.Names.{size_ok, bytes_ok, same, number_after}
use Rattle.kinds.specs.Kinds.{is_known, may_stand}
use Rattle.props.specs.Types.{Size, Bytes, Text, NoSuch, element_size}
use Rattle.props.specs.Step.{Step, Past, Refused, step_at}
use Rattle.body.specs.Body.{PropertyWalk, properties, exactly, end_of, index_of}
use Rattle.vectors.specs.declared.frame.Frame.{Frame}
use Rattle.vectors.specs.Answers.{bit}
use Rattle.vectors.specs.Buffers.{checksum}

-- 10: an element's size
unfoldable pub size_line : Size → List ℕ
size_line (Bytes n) = 1 ∷ n ∷ []
size_line Text = 2 ∷ 0 ∷ []
size_line NoSuch = 0 ∷ 0 ∷ []

-- 11: whether bytes may be a name; more than 65,535 are not asked about
unfoldable pub name_line : List ℕ → List ℕ
name_line s = cond (ltb 65535 (length s)) [] (bit (size_ok (length s) && bytes_ok s) ∷ [])

-- 13: the number in a name
unfoldable pub numeral_line : Option ℕ → List ℕ
numeral_line (Some n) = 1 ∷ n ∷ []
numeral_line None = 0 ∷ 0 ∷ []

-- 15: a parent is one more than its kind, and none is 0
unfoldable pub parent_of : ℕ → Option ℕ
parent_of x = cond (eqb x 0) None (Some ((x - 1) % 4294967296))

-- 16: where the name and the data of a property start, and where it ends; or its refusal
unfoldable pub step_line : Step → List ℕ
step_line (Past p next) = 0 ∷ p.name ∷ p.start ∷ next.at ∷ []
step_line (Refused n) = n ∷ 0 ∷ 0 ∷ 0 ∷ []

-- 17: the index of a walk over properties, and the walk's end alone
unfoldable pub index_numbers : PropertyWalk → List ℕ
index_numbers w =
    (index_of w).number ∷ (index_of w).count ∷ (end_of w).number ∷ (end_of w).at ∷ checksum (index_of w).starts ∷ []

-- 10 to 17, and, as every other number, 18: names and bodies are blocks; codes, kinds and places are x and y
unfoldable pub part_line : Frame → (first second : List ℕ) → List ℕ
part_line f first second =
    let function = f.function in
    let count = f.y % 4294967296 in
    cond (eqb function 10) (size_line (element_size (f.x % 65536)))
    (cond (eqb function 11) (name_line first)
    (cond (eqb function 12) (bit (same first second) ∷ [])
    (cond (eqb function 13) (numeral_line (number_after first second))
    (cond (eqb function 14) (bit (is_known (f.x % 4294967296)) ∷ [])
    (cond (eqb function 15) (bit (may_stand (parent_of f.x) count) ∷ [])
    (cond (eqb function 16) (step_line (step_at first f.x))
    (cond (eqb function 17) (index_numbers (properties first count))
    (bit (exactly first count) ∷ []))))))))
