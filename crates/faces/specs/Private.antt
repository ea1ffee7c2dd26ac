-- What private functions promise each other; nothing here need be believed.
use Rattle.std.specs.Prelude.{ℕ, ◌+◌, ◌*◌, Bool, false, cond, ◌||◌, List, [], ◌∷◌, leb}
use Rattle.le.specs.Le.{number_at}
use Rattle.faces.specs.declared.Face.{Face}
use Rattle.faces.specs.Faces.{Scanned}
use Rattle.faces.specs.declared.tally.Tally.{Tally}
use Rattle.faces.specs.Faces.{below, is_degenerate, degenerate, counted_by}

-- the face at a place of some bytes, of values of a width
abbrev pub face_at : ℕ → List ℕ → ℕ → Face
face_at w bs at = record { a = number_at w bs at; b = number_at w bs (at + w); c = number_at w bs (at + 2 * w) }

-- a value of a face is not below V
abbrev pub is_outside : ℕ → Face → Bool
is_outside v f = (leb v f.a || leb v f.b) || leb v f.c

-- a value of some faces is not below V
unfoldable pub any_outside : ℕ → List Face → Bool
any_outside v [] = false
any_outside v (f ∷ fs) = is_outside v f || any_outside v fs

-- what a pass without branches tells of some faces, of any width
abbrev pub tally_of : (vertices : ℕ) → List Face → Tally
tally_of v fs = record { outside = any_outside v fs; degenerate = degenerate fs }

-- and of one face more
abbrev pub with_face : (vertices : ℕ) → Tally → Face → Tally
with_face v t f = record { outside = t.outside || is_outside v f; degenerate = t.degenerate + cond (is_degenerate f) 1 0 }

-- what some faces say, the values counted from k on
abbrev pub scan_from : (vertices k : ℕ) → List Face → Scanned
scan_from v k fs = counted_by (below v k fs) fs
