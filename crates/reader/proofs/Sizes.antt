-- The numbers of an account are no more than the file's length.
use Prim.Native.Nat.{ℕ, ◌+◌, ◌≤◌}
use native.Mathlib.Omega.{arith}
use mathlib.Core.Path.{◌≡◌, refl, ap, sym, ◌∙◌, subst}
use mathlib.Core.Logic.{inr}
use mathlib.Core.List.{List, [], ◌∷◌, flat_map}
use lib.ListN.{length, length-append}
use Rattle.le.specs.Le.{AreBytes}
use Rattle.base.proofs.Tests.{by_test}
use Rattle.table.specs.declared.Row.{Row}
use Rattle.table.specs.Table.{no_parent}
use Rattle.faces.specs.declared.Face.{Face}
use Rattle.faces.specs.Faces.{is_degenerate, degenerate}
use Rattle.judge.specs.Judge.{judged}
use Rattle.format.specs.Forest.{Forest, file_of}
use Rattle.format.specs.Rows.{rows_of, own_bytes, all_own_bytes}
use Rattle.base.specs.Lists.{Each}
use Rattle.base.proofs.Lists.{each_map}
use Rattle.format.proofs.Rows.{body_length, own_bytes_add_up}
use Rattle.valid.specs.Valid.{bones, NodeRuled, Valid}
use Rattle.valid.proofs.Rules.{obeyed, accepted}
use Rattle.valid.proofs.Sizes.{faces_most}
use Rattle.reader.specs.Reading.{Reading}
use Rattle.reader.specs.Reading.{Accepted, Refused}
use Rattle.reader.specs.Reading.{bones_under, judged_row, verdict, Small}
use Rattle.reader.specs.Acceptance.{row_faces, faces_of}
use Rattle.reader.proofs.Counts.{own_under}
use Rattle.reader.proofs.Parts.{file_lies}
use Rattle.reader.proofs.Nodes.{KnownRow, UnknownRow, each_known}
use Rattle.reader.proofs.Judging.{judged_known, judged_unknown}
use Rattle.reader.proofs.Exactly.{verdict_valid, valid_gives}

-- ---- faces, row by row
module _ (s : List ℕ) (f : Forest) where
  abbrev all : List Row
  all = rows_of f

  abbrev Q : Row → Type 0
  Q r = ((judged_row s all r).number ≡ 0) × (length (row_faces s r) ≤ own_bytes r)

  known_row : KnownRow s all Q NodeRuled
  known_row r beside body good here under k =
      let kind = r.kind in
      let n = r.properties in
      let judge : judged_row s all r ≡ judged kind n body beside = judged_known s r (bones_under all r.parent) k ∙ rw (here, under) in (
        λ q g. obeyed kind n body beside g (ap (λ j. j.number) (sym judge) ∙ q.0),
        λ p. (
          ap (λ j. j.number) judge ∙ accepted kind n body beside good (p good),
          rw (k, here) (omega (arith, faces_most kind n body beside good (p good), ap length here, body_length s r)),
        ),
      )

  unknown_row : UnknownRow s all Q NodeRuled
  unknown_row r u = (ap (λ j. j.number) (judged_unknown s r (bones_under all r.parent) u), rw u (omega arith))

  rows_small : (flags : ℕ) → Valid flags f → s ≡ file_of flags f → Each Q all
  rows_small flags v e =
      (each_known s all Q NodeRuled known_row unknown_row f [] no_parent 0 16 (bones f) v.well_formed.2 (file_lies s flags f e)
      (own_under f no_parent 0 16 (inr (omega (arith, v.few)))) (λ p a b. refl) (inr (omega (arith, v.few)))).1 v.ruled

all_faces_lem : (s : List ℕ) (rs : List Row) → Each (λ r. length (row_faces s r) ≤ own_bytes r) rs → length (faces_of s rs) ≤ all_own_bytes rs
unfolding faces_of flat_map
all_faces_lem s [] h = omega arith
all_faces_lem s (r ∷ rs) h = rw (length-append (row_faces s r) (faces_of s rs)) (omega (arith, h.0, all_faces_lem s rs h.1))

degenerate_most : (fs : List Face) → degenerate fs ≤ length fs
unfolding degenerate
degenerate_most [] = omega arith
degenerate_most (f ∷ fs) = by_test (is_degenerate f) (λ t. rw t (omega (arith, degenerate_most fs))) (λ t. rw t (omega (arith, degenerate_most fs)))

-- ---- the account
pub small : (s : List ℕ) → AreBytes s → (r : Reading) → r ≡ verdict s → Small r
small s bytes (Refused n place) e = tt
small s bytes (Accepted a) e =
    let v = verdict_valid s bytes (sym e) in
    let f = v.forest in
    let answer = valid_gives s v.flags f v.valid v.bytes a (sym e) in
    let short : length s ≤ 16777216 = subst (λ l. length l ≤ 16777216) (sym v.bytes) v.valid.short in
    let own : 16 + all_own_bytes (rows_of f) ≡ length s = own_bytes_add_up v.flags f ∙ ap length (sym v.bytes) in
    let faces = all_faces_lem s (rows_of f) (each_map (λ r q. q.1) (rows_of f) (rows_small s f v.flags v.valid v.bytes)) in
    let degenerates = degenerate_most (faces_of s (rows_of f)) in (
      omega (arith, answer.sum, short),
      omega (arith, answer.sum, short),
      omega (arith, answer.faces, faces, own, short),
      omega (arith, answer.degenerates, degenerates, faces, own, short),
    )
