-- The tally's file of bytes is of bytes.
use Prim.Native.Nat.{ℕ, zero, suc, ◌-◌, ◌/◌}
use native.Mathlib.Omega.{arith}
use mathlib.Core.Bool.{Bool, true, false}
use mathlib.Core.List.{List, [], ◌∷◌, ◌++◌}
use lib.ListN.{take, drop}
use Rattle.le.specs.Le.{le, AreBytes}
use Rattle.le.proofs.Laws.{bytes_take, bytes_drop}
use Rattle.table.specs.declared.Row.{Row}
use Rattle.format.specs.Rows.{body_of}
use Rattle.removal.specs.Tally.{reduced_header, header_in, size_fall, count_fall, nodes_left, file_left}

bytes_append : (l m : List ℕ) → AreBytes l → AreBytes m → AreBytes (l ++ m)
bytes_append [] m hl hm i = hm i
bytes_append (x ∷ l) m hl hm zero = hl 0
bytes_append (x ∷ l) m hl hm (suc i) = bytes_append l m (λ j. hl (suc j)) hm i

bytes_le : (w x : ℕ) → AreBytes (le w x)
unfolding le
bytes_le zero x i = omega arith
bytes_le (suc w) x zero = omega arith
bytes_le (suc w) x (suc i) = bytes_le w (x / 256) i

bytes_header : (h : List ℕ) (a b : ℕ) → AreBytes h → AreBytes (reduced_header h a b)
unfolding reduced_header
bytes_header h a b bs =
    bytes_append (take 4 h) _ (bytes_take 4 h bs)
    (bytes_append (le 4 _) _ (bytes_le 4 _)
    (bytes_append (take 12 (drop 8 h)) _ (bytes_take 12 (drop 8 h) (bytes_drop 8 h bs)) (bytes_le 4 _)))

module _ (s : List ℕ) (bs : AreBytes s) where
  bytes_part : (at n : ℕ) → AreBytes (take n (drop at s))
  bytes_part at n = bytes_take n (drop at s) (bytes_drop at s bs)

  bytes_nodes : (all : List Row) (marked : List Bool) (i : ℕ) (rows : List Row) (marks : List Bool) → AreBytes (nodes_left s all marked i rows marks)
  unfolding nodes_left
  bytes_nodes all marked i [] marks = λ j. omega arith
  bytes_nodes all marked i (r ∷ rows) [] = λ j. omega arith
  bytes_nodes all marked i (r ∷ rows) (true ∷ marks) = bytes_nodes all marked (suc i) rows marks
  bytes_nodes all marked i (r ∷ rows) (false ∷ marks) =
      let size = size_fall s all marked i in
      let children = count_fall all marked i in
      bytes_append (reduced_header (header_in s r) size children) _ (bytes_header (header_in s r) size children (bytes_part (r.start - 24) 24))
      (bytes_append (body_of s r) _ (bytes_part r.start (r.end - r.start)) (bytes_nodes all marked (suc i) rows marks))

  pub bytes_left_lem : (rows : List Row) (marks : List Bool) → AreBytes (file_left s rows marks)
  unfolding file_left
  bytes_left_lem rows marks = bytes_append (take 16 s) _ (bytes_take 16 s bs) (bytes_nodes rows marks 0 rows marks)
