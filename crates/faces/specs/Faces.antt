-- Document 01: "f has a length divisible by 3 (three values a face) and each value below V; a face with two equal indices is
-- allowed and counted as degenerate"; "`N` any of `b h i`, read unsigned".
use Rattle.std.specs.Prelude.{ℕ, zero, suc, ◌+◌, ◌*◌, Bool, cond, ◌||◌, List, [], ◌∷◌, eqb, ltb, length, drop, Result, Ok, Err}
use Rattle.le.specs.Le.{number_at}
use Rattle.props.specs.Types.{byte, short}
use Rattle.faces.specs.declared.Face.{Face}
use Rattle.faces.specs.declared.Faces.{Faces}
use Rattle.faces.specs.declared.Counted.{Counted}
use Rattle.faces.specs.declared.NotBelow.{NotBelow as CodeNotBelow}

-- the width of a value, the size of b, h, i; any other type is read as i
unfoldable pub width_of : ℕ → ℕ
width_of code = cond (eqb code byte) 1 (cond (eqb code short) 2 4)

-- `count` faces from the start of some bytes on, of values of a width
unfoldable pub faces_in : (width count : ℕ) → List ℕ → List Face
faces_in w zero bs = []
faces_in w (suc n) bs = record { a = number_at w bs 0; b = number_at w bs w; c = number_at w bs (2 * w) } ∷ faces_in w n (drop (3 * w) bs)

-- each value is below V; or the first that is not
pub data Values : Type 0 where
  Below : Values
  NotBelow : (value : ℕ) → Values

-- the values counted from k on
unfoldable pub below : (vertices k : ℕ) → List Face → Values
below v k [] = Below
below v k (f ∷ fs) =
    cond (ltb f.a v)
    (cond (ltb f.b v)
    (cond (ltb f.c v) (below v (k + 3) fs) (NotBelow (k + 2))) (NotBelow (k + 1))) (NotBelow k)

-- "a face with two equal indices"
abbrev pub is_degenerate : Face → Bool
is_degenerate f = (eqb f.a f.b || eqb f.b f.c) || eqb f.a f.c

unfoldable pub degenerate : List Face → ℕ
degenerate [] = 0
degenerate (f ∷ fs) = cond (is_degenerate f) (suc (degenerate fs)) (degenerate fs)

-- what a pass over faces gives
pub record Scanned : Type 0 where
  pub values : Values
  pub faces : Faces
  pub degenerate : ℕ

-- as the code has it
abbrev pub scanned_told : Result Counted CodeNotBelow → Scanned
scanned_told (Ok c) = record { values = Below; faces = c.faces; degenerate = c.degenerate }
scanned_told (Err k) = record { values = NotBelow k.0; faces = record { 0 = 0 }; degenerate = 0 }

-- how many faces there are, degenerate ones too, and how many of them are degenerate; none where a value is not below V
abbrev pub counted_by : Values → List Face → Scanned
counted_by Below fs = record { values = Below; faces = record { 0 = length fs }; degenerate = degenerate fs }
counted_by (NotBelow k) fs = record { values = NotBelow k; faces = record { 0 = 0 }; degenerate = 0 }

unfoldable pub scan_of : (vertices : ℕ) → List Face → Scanned
scan_of v fs = counted_by (below v 0 fs) fs

-- ---- document 01's number and values of an answer: the refusal's number, 0 for none; the value that is refused, counted
-- from 0; faces and degenerate faces
pub record ScanNumbers : Type 0 where
  pub number : ℕ
  pub element : ℕ
  pub faces : ℕ
  pub degenerate : ℕ

abbrev pub scan_numbers_by : Values → Scanned → ScanNumbers
-- "each value below V": no refusal, and all faces are counted
scan_numbers_by Below s = record { number = 0; element = 0; faces = s.faces.0; degenerate = s.degenerate }
-- "any other property rule above broken": 15, by the first value that is not below V; "all other numbers of it are 0"
scan_numbers_by (NotBelow k) s = record { number = 15; element = k; faces = 0; degenerate = 0 }

abbrev pub scan_numbers : Scanned → ScanNumbers
scan_numbers s = scan_numbers_by s.values s
