-- The rows of a forest: one for each node, and their own bytes add up; a row's hash and its body.
use Prim.Native.Nat.{ℕ, suc, ◌+◌, ◌-◌, ◌*◌, ◌/◌, ◌%◌, ◌≤◌}
use native.Mathlib.Omega.{arith}
use native.Mathlib.Nat.{div-add-mod', min-le_left}
use mathlib.Core.Path.{◌≡◌, refl, ap, ◌∙◌}
use mathlib.Core.Bool.{false, true≢false}
use mathlib.Core.List.{List, [], ◌∷◌, ◌++◌}
use lib.Dec.{ltb}
use lib.ListN.{length, take, drop, length-append, length-take, length-drop}
use lib.Seq.{take-append_seam, drop-append_seam, length-take-le}
use borrow.Author.Tests.{le-ltb, ltb-false}
use Rattle.base.proofs.Tests.{by_test}
use Rattle.table.specs.declared.Row.{Row}
use Rattle.table.specs.Table.{no_parent}
use Rattle.format.specs.Forest.{Forest, end, known, unknown, count, nodes, encode, file_header, file_of}
use Rattle.format.specs.Rows.{node_row, rows, body_of, outside, all_own_bytes}
use Rattle.format.specs.Layout.{InBytes}
use Rattle.format.specs.Laws.{OwnBytesAddUp}
use Rattle.format.proofs.Headers.{length_header, length_file_header}

-- a hash, from the halves that its row has
pub hash_back : (h : ℕ) → h % 4294967296 + 4294967296 * (h / 4294967296) ≡ h
hash_back h = omega (arith, div-add-mod' h 4294967296)

-- bytes between others, by their place: a body in a file
pub part : (s a b c : List ℕ) (at : ℕ) → s ≡ a ++ (b ++ c) → at ≡ length a → take (at + length b - at) (drop at s) ≡ b
part s a b c at e h =
    let n : at + length b - at ≡ length b = omega arith in
    rw (e, n, h) (rw (drop-append_seam a (b ++ c)) (take-append_seam b c))

pub body_length : (s : List ℕ) (r : Row) → length (body_of s r) ≤ r.end - r.start
body_length s r = rw (length-take (r.end - r.start) (drop r.start s)) (min-le_left _ _)

-- a body that does not lie outside some bytes, and one of which the bytes have all
pub not_outside : (s : List ℕ) (r : Row) → outside (length s) r ≡ false → InBytes s r
not_outside s r e =
    by_test (ltb r.end r.start)
    (λ t. absurd (true≢false (rw t at e)))
    (λ t. (ltb-false r.end r.start t, ltb-false (length s) r.end (rw t at e)))

pub is_inside : (s : List ℕ) (r : Row) → InBytes s r → outside (length s) r ≡ false
is_inside s r i = rw (le-ltb r.end r.start i.0, le-ltb (length s) r.end i.1)

pub length_body : (s : List ℕ) (r : Row) → r.end ≤ length s → length (body_of s r) ≡ r.end - r.start
length_body s r h = length-take-le (r.end - r.start) (drop r.start s) (rw length-drop (omega (arith, h)))

pub all_own_bytes_append : (xs ys : List Row) → all_own_bytes (xs ++ ys) ≡ all_own_bytes xs + all_own_bytes ys
all_own_bytes_append [] ys = omega arith
all_own_bytes_append (x ∷ xs) ys = rw (all_own_bytes_append xs ys) (omega arith)

pub length_rows : (f : Forest) (parent row at : ℕ) → length (rows f parent row at) ≡ nodes f
length_rows end parent row at = refl
length_rows (known k h p body kids next) parent row at =
    let below = rows kids row (suc row) (at + 24 + length body) in
    let beside = rows next parent (suc row + nodes kids) (at + 24 + length body + length (encode kids)) in
    ap suc (length-append below beside ∙ cc (
      length_rows kids row (suc row) (at + 24 + length body),
      length_rows next parent (suc row + nodes kids)
          (at + 24 + length body + length (encode kids)),
    ))
length_rows (unknown k h p c rest next) parent row at = ap suc (length_rows next parent (suc row) (at + 24 + length rest))

-- the rows of a first node of a given number of bytes, and of those next to it
module _ (k h p : ℕ) (next : Forest) (parent row at s : ℕ) where
  pub rows_unknown : (c : ℕ) (rest : List ℕ) → 24 + length rest ≡ s
      → node_row k h parent (at + 24) (at + s) p c ∷ rows next parent (row + 1) (at + s) ≡ rows (unknown k h p c rest next) parent row at
  rows_unknown c rest e =
      let stop : at + s ≡ at + 24 + length rest = omega (arith, e) in
      let after : row + 1 ≡ suc row = omega arith in
      rw (stop, after)

  pub rows_known : (body : List ℕ) (kids : Forest) (first : ℕ) → first ≡ suc row → 24 + length body + length (encode kids) ≡ s
      → (let below = rows kids row first (at + 24 + length body) in
      node_row k h parent (at + 24) (at + 24 + length body) p (count kids) ∷ (below ++ rows next parent (row + suc (length below)) (at + s))
      ≡ rows (known k h p body kids next) parent row at)
  rows_known body kids first f e =
      let stop : at + s ≡ at + 24 + length body + length (encode kids) = omega (arith, e) in
      let after : row + suc (nodes kids) ≡ suc row + nodes kids = omega arith in
      rw (f, length_rows kids row (suc row) (at + 24 + length body), stop, after)

pub own_rows : (f : Forest) (parent row at : ℕ) → all_own_bytes (rows f parent row at) ≡ length (encode f)
own_rows end parent row at = refl
own_rows (known k h p body kids next) parent row at =
    simp (
      length-append,
      length_header,
      all_own_bytes_append,
      own_rows kids row (suc row) (at + 24 + length body),
      own_rows next parent
          (suc row + nodes kids) (at + 24 + length body + length (encode kids)),
    ) (omega arith)
own_rows (unknown k h p c rest next) parent row at =
    simp (length-append, length_header, own_rows next parent (suc row) (at + 24 + length rest)) (omega arith)

pub own_bytes_add_up : OwnBytesAddUp
unfolding file_of
own_bytes_add_up flags f =
    rw (length-append (file_header (count f) flags) (encode f), length_file_header (count f) flags, own_rows f no_parent 0 16)
