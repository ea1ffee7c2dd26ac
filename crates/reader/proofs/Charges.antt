-- What is counted on the way is what the rows and the bytes give: own bytes, faces and links.
use Prim.Native.Nat.{ℕ, zero, suc, ◌+◌}
use native.Mathlib.Omega.{arith}
use mathlib.Core.Path.{◌≡◌, refl, sym, ◌∙◌, ap}
use mathlib.Core.List.{List, [], ◌∷◌, flat_map}
use lib.ListN.{length, length-append}
use Rattle.base.proofs.Tests.{by_test}
use Rattle.kinds.specs.Kinds.{is_known}
use Rattle.table.specs.declared.Row.{Row}
use Rattle.faces.specs.Faces.{degenerate}
use Rattle.judge.proofs.Counted.{degenerate_append, judged_counts}
use Rattle.format.specs.Rows.{body_of, all_own_bytes}
use Rattle.base.specs.Lists.{Each}
use Rattle.base.specs.Refusals.{refused_or}
use Rattle.links.specs.Links.{Linked}
use Rattle.links.specs.Links.{Link, refusal_of, refused_links, resolved}
use Rattle.reader.specs.Reading.{bones_under, judged_with, judged_row, ruled, own_known, own_unknown}
use Rattle.reader.proofs.Judging.{ruled_on}
use Rattle.reader.specs.Acceptance.{row_faces, faces_of}

-- ---- own bytes
pub own_split : (rs : List Row) → own_known rs + own_unknown rs ≡ all_own_bytes rs
unfolding own_known own_unknown
own_split [] = refl
own_split (r ∷ rs) = by_test (is_known r.kind) (λ t. rw t (omega (arith, own_split rs))) (λ t. rw t (omega (arith, own_split rs)))

-- ---- faces
row_counts : (s : List ℕ) (all : List Row) (r : Row) → (judged_row s all r).number ≡ 0
    → ((judged_row s all r).faces.0 ≡ length (row_faces s r)) × ((judged_row s all r).degenerate ≡ degenerate (row_faces s r))
unfolding judged_with degenerate
row_counts s all r e =
    by_test (is_known r.kind)
    (λ t. rw t (judged_counts r.kind r.properties (body_of s r) (bones_under all r.parent) (rw t at e)))
    (λ t. rw t (refl, refl))

pub ruled_counts : (s : List ℕ) (all rs : List Row) → (ruled s all rs).number ≡ 0
    → ((ruled s all rs).faces ≡ length (faces_of s rs)) × ((ruled s all rs).degenerate ≡ degenerate (faces_of s rs))
unfolding ruled faces_of flat_map degenerate
ruled_counts s all [] e = (refl, refl)
ruled_counts s all (r ∷ rs) e =
    let here = ruled_on (judged_row s all r).number _ (judged_row s all r) (ruled s all rs) e in
    let own = row_counts s all r here.0 in
    let ih = ruled_counts s all rs here.1 in (
      ap (λ u. u.faces) here.2 ∙ rw (own.0, ih.0) (sym (length-append (row_faces s r) (faces_of s rs))),
      ap (λ u. u.degenerate) here.2 ∙ rw (own.1, ih.1) (sym (degenerate_append (row_faces s r) (faces_of s rs))),
    )

-- ---- links
one : (n : ℕ) → refusal_of n ≡ 0 → n ≡ 1
one zero e = absurd (omega (arith, e))
one (suc zero) e = refl
one (suc (suc n)) e = absurd (omega (arith, e))

next : (k place : ℕ) (w : Linked) → (let v = refused_or k (refused_links k place) w in v.number ≡ 0 → (k ≡ 0) × (w.number ≡ 0) × (v.links ≡ w.links))
next zero place w e = (refl, e, refl)
next (suc k) place w e = absurd (omega (arith, e))

pub resolved_counts : (n : ℕ) (ls : List Link) → (resolved n ls).number ≡ 0 → ((resolved n ls).links ≡ n + length ls) × Each (λ l. length l.targets ≡ 1) ls
unfolding resolved
resolved_counts n [] e = (omega arith, tt)
resolved_counts n (l ∷ ls) e =
    let here = next (refusal_of (length l.targets)) l.property (resolved (suc n) ls) e in
    let ih = resolved_counts (suc n) ls here.1 in
    (here.2 ∙ ih.0 ∙ omega arith, (one (length l.targets) here.0, ih.1))
