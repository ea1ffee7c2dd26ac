-- The text of a whole listing: its parts, and the lines of rows one by one.
use Prim.Native.Nat.{ℕ, suc, ◌+◌, ◌≤◌, ◌<◌}
use native.Mathlib.Numerals.{add-one}
use native.Mathlib.Omega.{arith}
use mathlib.Core.Path.{◌≡◌, refl, ap, sym, ◌∙◌}
use mathlib.Core.List.{List, [], ◌∷◌, ◌++◌, append_assoc, append-nil, flat_map}
use lib.ListN.{length, length-append}
use Rattle.table.specs.declared.Row.{Row}
use Rattle.table.specs.Table.{row_at, rows_at}
use Rattle.faces.specs.declared.Faces.{Faces as FaceCount}
use Rattle.reader.specs.declared.Account.{Account}
use Rattle.reader.specs.Reading.{Accepted}
use Rattle.table.proofs.Rests.{rest, rest_all, rest_more, rest_none}
use Rattle.listing.specs.declared.TextLine.{TextLine}
use Rattle.listing.specs.declared.TextLine.TheVariants.{Summary, Node, FileHeader, Faces, Total}
use Rattle.listing.specs.Listing.{text_of, node_lines, foot_lines, total_of, file_lines, printed}

pub printed_none : printed [] ≡ []
unfolding printed flat_map
printed_none = refl

pub printed_more : (l : TextLine) (ls : List TextLine) → printed (l ∷ ls) ≡ text_of l ++ printed ls
unfolding printed flat_map
printed_more l ls = refl

pub printed_one : (l : TextLine) → printed (l ∷ []) ≡ text_of l
printed_one l = printed_more l [] ∙ ap (λ z. text_of l ++ z) printed_none ∙ append-nil (text_of l)

printed_append : (ks ls : List TextLine) → printed (ks ++ ls) ≡ printed ks ++ printed ls
unfolding printed flat_map
printed_append [] ls = refl
printed_append (k ∷ ks) ls = ap (λ z. text_of k ++ z) (printed_append ks ls) ∙ sym (append_assoc (text_of k) (printed ks) (printed ls))

-- ---- the lines of rows
-- of n rows, what is printed of those from row i on
pub nodes_from : (t : List ℕ) (n i : ℕ) → List ℕ
nodes_from t n i = printed (node_lines i (rest t n i))

pub nodes_all : (t : List ℕ) (n : ℕ) → nodes_from t n 0 ≡ printed (node_lines 0 (rows_at t 0 n))
unfolding nodes_from
nodes_all t n = ap (λ rs. printed (node_lines 0 rs)) (rest_all t n)

pub nodes_more : (t : List ℕ) (n i : ℕ) → i < n → {r : Row} → r ≡ row_at t i → nodes_from t n i ≡ text_of (Node i r) ++ nodes_from t n (i + 1)
unfolding nodes_from node_lines
nodes_more t n i h {r} e =
    ap (λ rs. printed (node_lines i rs)) (rest_more t n i h)
    ∙ printed_more (Node i (row_at t i)) (node_lines (suc i) (rest t n (i + 1)))
    ∙ rw (add-one i, e)

pub nodes_none : (t : List ℕ) (n i : ℕ) → n ≤ i → nodes_from t n i ≡ []
unfolding nodes_from node_lines
nodes_none t n i h = ap (λ rs. printed (node_lines i rs)) (rest_none t n i h) ∙ printed_none

-- ---- the last lines
pub foot_parts : (faces : FaceCount) (degenerate total : ℕ)
    → printed (foot_lines faces degenerate total) ≡ text_of FileHeader ++ (text_of (Faces faces degenerate) ++ (text_of (Total total) ++ []))
unfolding printed flat_map
foot_parts faces degenerate total = refl

pub foot_length : (faces : FaceCount) (degenerate total : ℕ)
    → length (printed (foot_lines faces degenerate total)) ≡ length (text_of FileHeader) + length (text_of (Faces faces degenerate)) + length (text_of (Total total))
foot_length faces degenerate total =
    let t = text_of FileHeader in
    let u = text_of (Faces faces degenerate) in
    let v = text_of (Total total) in
    omega (arith, ap length (foot_parts faces degenerate total), length-append t (u ++ (v ++ [])), length-append u (v ++ []), length-append v [])

-- ---- the parts of an accepted file's listing
module _ (bytes : ℕ) (a : Account) (rows : List Row) where
  abbrev pub summary_of : TextLine
  summary_of = Summary a.flags a.nodes bytes

  abbrev pub foot_of : List TextLine
  foot_of = foot_lines a.faces a.degenerate (total_of a)

  pub file_parts : printed (file_lines bytes (Accepted a) rows) ≡ text_of summary_of ++ (printed (node_lines 0 rows) ++ printed foot_of)
  unfolding file_lines
  file_parts = printed_more summary_of (node_lines 0 rows ++ foot_of) ∙ ap (λ z. text_of summary_of ++ z) (printed_append (node_lines 0 rows) foot_of)

  pub file_length : length (printed (file_lines bytes (Accepted a) rows)) ≡ length (text_of summary_of) + length (printed (node_lines 0 rows)) + length (printed foot_of)
  file_length = omega (
    arith,
    ap length file_parts,
    length-append (text_of summary_of) (printed (node_lines 0 rows) ++ printed foot_of),
    length-append (printed (node_lines 0 rows)) (printed foot_of),
  )
