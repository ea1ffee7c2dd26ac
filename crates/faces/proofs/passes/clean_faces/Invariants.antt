-- `faces::passes::clean_faces`: no value of the faces before is past the limit.
use Prim.Native.Nat.{◌*◌}
use mathlib.Core.Path.{◌≡◌}
use mathlib.Core.Bool.{false}
use Rattle.faces.specs.Faces.{width_of, faces_in}
use Rattle.faces.specs.Private.{any_outside}
use Rattle.faces.proofs.passes.clean_faces.Given as goal

abbrev pub invariant-loop-k : goal.invariant-loop-k
invariant-loop-k l = any_outside l.vertices (faces_in (width_of l.code) (64 * l.k) l.block) ≡ false
