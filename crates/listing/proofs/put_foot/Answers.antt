-- `listing::put_foot`: three lines, one after the other.
use mathlib.Core.Path.{refl}
use mathlib.Core.List.{List, [], ◌++◌}
use Prim.Native.Nat.{ℕ}
use Rattle.listing.specs.declared.TextLine.TheVariants.{FileHeader, Faces, Total}
use Rattle.listing.specs.Listing.{text_of, foot_lines, printed}
use Rattle.faces.specs.declared.Faces.{Faces as FaceCount}
use Rattle.listing.specs.Private.{Puts}
use Rattle.listing.proofs.Laws.{Passed, passed_none, passed_room, passed_more, passed_all}
use Rattle.listing.proofs.Whole.{foot_parts}
use Rattle.listing.proofs.put_foot.Goals as goal

module _ (out : List ℕ) (at : ℕ) (faces : FaceCount) (degenerate total : ℕ) where
  abbrev whole : List ℕ
  whole = printed (foot_lines faces degenerate total)

  abbrev counts : List ℕ
  counts = text_of (Faces faces degenerate)

  abbrev last : List ℕ
  last = text_of (Total total) ++ []

  none : Passed out at whole whole at out
  none = passed_none out at whole

  module _ {r : ℕ} {l : List ℕ} (p : Puts out at (text_of FileHeader) r l) where
    first : Passed out at whole (counts ++ last) r l
    first = passed_more out at whole none (text_of FileHeader) (counts ++ last) (foot_parts faces degenerate total) p

    second : {r' : ℕ} {l' : List ℕ} → Puts l r counts r' l' → Passed out at whole last r' l'
    second q = passed_more out at whole first counts last refl q

pub put_line-next-requires : goal.put_line-next-requires
put_line-next-requires c =
    let a = c.args in
    passed_room _ _ _ (none a.out.now a.at a.triangles a.degenerate a.total) c.requires _ _ (foot_parts a.triangles a.degenerate a.total)

pub put_line-last-requires : goal.put_line-last-requires
put_line-last-requires c =
    let a = c.args in
    passed_room _ _ _ (first a.out.now a.at a.triangles a.degenerate a.total c.put_line-next.ensures) c.requires _ _ refl

pub put_line-requires : goal.put_line-requires
put_line-requires c =
    let a = c.args in
    passed_room _ _ _ (second a.out.now a.at a.triangles a.degenerate a.total c.put_line-next.ensures c.put_line-last.ensures) c.requires _ _ refl

pub returns : goal.returns
returns c =
    let a = c.args in
    let two = second a.out.now a.at a.triangles a.degenerate a.total c.put_line-next.ensures c.put_line-last.ensures in
    passed_all _ _ _ (passed_more _ _ _ two (text_of (Total a.total)) [] refl c.put_line.ensures) refl
