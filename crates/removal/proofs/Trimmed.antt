-- One trimming of what is left of a valid forest's file: the new file is what is left with one mark more.
use Prim.Native.Nat.{ℕ}
use mathlib.Core.Path.{◌≡◌, refl, ap, sym, subst, ◌∙◌}
use mathlib.Core.Bool.{true, false}
use mathlib.Core.List.{List, map}
use lib.ListN.{set}
use Rattle.table.specs.declared.Row.{Row}
use Rattle.table.specs.Table.{no_parent}
use Rattle.format.specs.Forest.{Forest, file_of}
use Rattle.format.specs.Rows.{rows_of, body_of}
use Rattle.valid.specs.Valid.{Valid}
use Rattle.reader.proofs.Exactly.{valid_rows, valid_flags}
use Rattle.emit.specs.Emission.{file_bytes}
use Rattle.writer.specs.Forest.{laid_out}
use Rattle.writer.proofs.RoundTrip.{same_bytes}
use Rattle.removal.specs.Trimmer.{without, new_file}
use Rattle.removal.specs.Tally.{no_marks, file_left}
use Rattle.removal.specs.Left.{renumbered_from, rows_left}
use Rattle.removal.proofs.Marked.{Marked, bare, kept, marks, fresh, bare_fresh, kept_fresh, Left}
use Rattle.removal.proofs.Marking.{At, at_left, mark, single, bare_single, kept_single, marks_fresh, marks_single}
use Rattle.removal.proofs.StillValid.{valid_kept}
use Rattle.removal.proofs.LeftLinks.{bodies_left}
use Rattle.removal.proofs.Emitting.{file_laid, renumbered_bodies}
use Rattle.removal.proofs.KeptRows.{rows_left_lem, left_rows}
use Rattle.removal.proofs.One.{without_one}
use Rattle.removal.proofs.Falls.{falls}
use Rattle.removal.proofs.TallyFile.{tally_left}

-- a valid forest with marks: the rows that are left emitted over its file give the file that is left
module _ (flags : ℕ) (m : Marked) (v : Valid flags (bare m)) where
  abbrev file : List ℕ
  file = file_of flags (bare m)

  abbrev left : List ℕ
  left = file_of flags (kept m)

  abbrev renumbered_rows : List Row
  renumbered_rows = renumbered_from (rows_of (bare m)) (marks m) 0 (rows_of (bare m)) (marks m)

  pub rows_are : rows_of (kept m) ≡ rows_left (rows_of (bare m)) (marks m)
  rows_are = rows_left_lem file m v.few (falls file flags m v.well_formed v.few refl)

  pub rows_same : Left file left (rows_of (bare m)) (marks m) (rows_of (kept m))
  rows_same = left_rows file left flags m v.well_formed.2 refl refl

  laid : rows_of (kept m) ≡ laid_out 16 renumbered_rows
  unfolding rows_left
  laid = rows_are

  pub emitted : file_bytes flags file renumbered_rows ≡ left
  emitted =
      let bodies : map (body_of left) (laid_out 16 renumbered_rows) ≡ map (body_of file) renumbered_rows
      = ap (map (body_of left)) (sym laid) ∙ bodies_left rows_same ∙ sym (renumbered_bodies file (rows_of (bare m)) (marks m) 0 (rows_of (bare m)) (marks m)) in
      sym (file_laid file left flags renumbered_rows bodies) ∙ ap (file_bytes flags left) (sym laid)
      ∙ same_bytes left flags (kept m) (valid_kept flags m v) refl

-- one mark more
module _ (flags : ℕ) (m : Marked) (v : Valid flags (bare m)) {k i : ℕ} (a : At m false k i) where
  one : Valid flags (bare (single a))
  one = subst (Valid flags) (sym (bare_single a)) (valid_kept flags m v)

  one_mark : marks (single a) ≡ set (no_marks (rows_of (kept m))) k true
  one_mark = marks_single a ∙ ap (λ l. set l k true) (marks_fresh (kept m) no_parent 0 16)

  without_row : without k (rows_of (kept m)) ≡ renumbered_rows flags (single a) one
  without_row =
      without_one (kept m) k (valid_kept flags m v).few (at_left a)
      ∙ ap (λ ms. renumbered_from (rows_of (kept m)) ms 0 (rows_of (kept m)) ms) (sym one_mark)
      ∙ ap (λ f. renumbered_from (rows_of f) (marks (single a)) 0 (rows_of f) (marks (single a))) (sym (bare_single a))

  pub new_file_lem : new_file (file_of flags (kept m)) k ≡ file_of flags (kept (mark a))
  unfolding new_file
  new_file_lem =
      let s = file_of flags (kept m) in
      let valid = valid_kept flags m v in
      rw (valid_rows s flags (kept m) valid refl, valid_flags s flags (kept m) valid refl, without_row)
      (ap (λ f. file_bytes flags (file_of flags f) (renumbered_rows flags (single a) one)) (sym (bare_single a))
      ∙ emitted flags (single a) one ∙ ap (file_of flags) (kept_single a))

  -- whose rows are those that stay, laid out
  pub new_rows : rows_of (kept (mark a)) ≡ laid_out 16 (without k (rows_of (kept m)))
  new_rows = ap rows_of (sym (kept_single a)) ∙ laid flags (single a) one ∙ ap (laid_out 16) (sym without_row)

  -- and so is the tally's, from what was left so far
  pub one_goes : file_left (file_of flags (kept m)) (rows_of (kept m)) (set (no_marks (rows_of (kept m))) k true) ≡ file_of flags (kept (mark a))
  one_goes = tally_left flags (kept m) (valid_kept flags m v) (single a) _ (bare_single a) one_mark ∙ ap (file_of flags) (kept_single a)

-- with no mark the tally's file is the first
pub none_goes : (flags : ℕ) (f : Forest) → Valid flags f → file_left (file_of flags f) (rows_of f) (no_marks (rows_of f)) ≡ file_of flags f
none_goes flags f v = tally_left flags f v (fresh f) _ (bare_fresh f) (marks_fresh f no_parent 0 16) ∙ ap (file_of flags) (kept_fresh f)
