-- The tally's file is that of the forest without its marked nodes.
use Rattle.std.specs.Prelude.{None}
use Prim.Native.Nat.{ℕ, suc, ◌+◌, ◌-◌}
use native.Mathlib.Omega.{arith}
use native.Mathlib.Nat.{sub-zero}
use mathlib.Core.Path.{◌≡◌, refl, ap, sym, subst, ◌∙◌}
use mathlib.Core.Bool.{Bool, true, false, true≢false}
use mathlib.Core.List.{List, [], ◌∷◌, ◌++◌, append_assoc, append-nil}
use lib.ListN.{length, take, drop}
use lib.Seq.{take_at}
use Rattle.le.specs.Le.{number_at, le}
use Rattle.le.proofs.Laws.{val_le}
use Rattle.kinds.specs.Kinds.{root, parents_table, parents_in, parents_of, is_known, may_stand}
use Rattle.kinds.proofs.Tops.{top_root}
use Rattle.table.specs.declared.Row.{Row}
use Rattle.table.specs.Table.{no_parent}
use Rattle.format.specs.Forest.{Forest, count, nodes, header, encode, file_header, file_of}
use Rattle.format.specs.Rows.{rows, rows_of}
use Rattle.format.specs.Layout.{Fits, WellFormed, WellFormedFile, Placed, Few}
use Rattle.format.proofs.Headers.{length_file_header, file_header_drop}
use Rattle.format.proofs.Rows.{length_rows}
use Rattle.valid.specs.Valid.{Valid}
use Rattle.removal.specs.Tally.{reduced_header, nodes_left, file_left}
use Rattle.removal.proofs.Marked.{Marked, mend, mkn, mun, bare, kept, marks, lost, gone_top, Falls, length_marks, length_kept, count_kept}
use Rattle.removal.proofs.Falls.{falls, size_in_lem, known_header, known_body, known_kids, known_next, unknown_header, unknown_body, unknown_next}

-- ---- at the top stand known nodes, which stay

root_known : is_known root ≡ true
unfolding is_known parents_of parents_in parents_table
root_known = refl

not_top : (k : ℕ) → is_known k ≡ false → may_stand None k ≡ true → ⊥
not_top k u t = true≢false (sym root_known ∙ ap is_known (sym (top_root k t)) ∙ u)

pub top_stays : (m : Marked) → WellFormed (bare m) → Placed None (bare m) → gone_top m ≡ 0
top_stays mend w p = refl
top_stays (mkn k h n body kids next) w p = top_stays next w.5 p.2
top_stays (mun g k h n c rest next) w p = absurd (not_top k w.0 p.0)

-- ---- headers

-- a header with another size and another child count
put : (k z h p c size children : ℕ)
    → take 4 (header k z h p c) ++ (le 4 size ++ (take 12 (drop 8 (header k z h p c)) ++ le 4 children)) ≡ header k size h p children
unfolding header le
put k z h p c size children = refl

children_in : (k z h p c : ℕ) → Fits k z h p c → number_at 4 (header k z h p c) 20 ≡ c
unfolding number_at header le
children_in k z h p c fits = val_le 4 c fits.4

reduced_header_header : (k z h p c x y : ℕ) → Fits k z h p c → reduced_header (header k z h p c) x y ≡ header k (z - x) h p (c - y)
unfolding reduced_header
reduced_header_header k z h p c x y fits = rw (size_in_lem k z h p c fits, children_in k z h p c fits) (put k z h p c (z - x) (c - y))

-- ---- the nodes that are left

body_in : (s body post : List ℕ) (at : ℕ) → drop at s ≡ body ++ post → take (at + length body - at) (drop at s) ≡ body
body_in s body post at e = rw e (take_at body post (at + length body - at) (omega arith))

module _ (s : List ℕ) (all : List Row) (marked : List Bool) where
  nodes_left_append : (i k : ℕ) (xs ys : List Row) (ms ns : List Bool) → length xs ≡ length ms → i + length xs ≡ k
      → nodes_left s all marked i (xs ++ ys) (ms ++ ns) ≡ nodes_left s all marked i xs ms ++ nodes_left s all marked k ys ns
  unfolding nodes_left
  nodes_left_append i k [] ys [] ns e h = let n : k ≡ i = omega arith in rw n
  nodes_left_append i k [] ys (m ∷ ms) ns e h = absurd (omega arith)
  nodes_left_append i k (r ∷ xs) ys [] ns e h = absurd (omega arith)
  nodes_left_append i k (r ∷ xs) ys (true ∷ ms) ns e h = nodes_left_append (suc i) k xs ys ms ns (omega arith) (omega arith)
  nodes_left_append i k (r ∷ xs) ys (false ∷ ms) ns e h =
      rw (nodes_left_append (suc i) k xs ys ms ns (omega arith) (omega arith)) (simp append_assoc)

  nodes_left_lem : (m : Marked) (parent row at : ℕ) (post : List ℕ) → WellFormed (bare m) → Falls s all marked m row
      → drop at s ≡ encode (bare m) ++ post
      → nodes_left s all marked row (rows (bare m) parent row at) (marks m) ≡ encode (kept m)
  unfolding nodes_left
  nodes_left_lem mend parent row at post w f e = refl
  nodes_left_lem (mkn k h p body kids next) parent row at post w f e =
      let here : ℕ = at + 24 + length body in
      let over : ℕ = suc row + nodes (bare kids) in
      let there : ℕ = here + length (encode (bare kids)) in
      let below = rows (bare kids) row (suc row) here in
      let beside = rows (bare next) parent over there in
      let n = length_rows (bare kids) row (suc row) here in
      let z : ℕ = 24 + length body + length (encode (bare kids)) in
      let size : z - lost kids ≡ 24 + length body + length (encode (kept kids)) = omega (arith, length_kept kids) in
      let children : count (bare kids) - gone_top kids ≡ count (kept kids) = omega (arith, count_kept kids) in
      let a = nodes_left_lem kids row (suc row) here (encode (bare next) ++ post) w.4 f.2
      (known_kids s post k h p body (bare kids) (bare next) at e) in
      let b = nodes_left_lem next parent over there post w.5 f.3 (known_next s post k h p body (bare kids) (bare next) at e) in
      let c = nodes_left_append (suc row) over below beside (marks kids) (marks next) (n ∙ sym (length_marks kids)) (ap (λ n. suc row + n) n) in
      rw (
        known_header s post k h p body (bare kids) (bare next) at e,
        f.0,
        f.1,
        reduced_header_header k z h p (count (bare kids)) (lost kids) (gone_top kids) w.1,
        size,
        children,
        body_in s body (encode (bare kids) ++ (encode (bare next) ++ post)) (at + 24) (known_body s post k h p body (bare kids) (bare next) at e),
        c,
        a,
        b,
      )
  nodes_left_lem (mun true k h p c rest next) parent row at post w f e =
      nodes_left_lem next parent (suc row) (at + 24 + length rest) post w.3 f.2 (unknown_next s post k h p c rest (bare next) at e)
  nodes_left_lem (mun false k h p c rest next) parent row at post w f e =
      rw (
        unknown_header s post k h p c rest (bare next) at e,
        f.0,
        f.1,
        reduced_header_header k (24 + length rest) h p c 0 0 w.1,
        sub-zero (24 + length rest),
        sub-zero c,
        body_in s rest (encode (bare next) ++ post) (at + 24) (unknown_body s post k h p c rest (bare next) at e),
        nodes_left_lem next parent (suc row) (at + 24 + length rest) post w.3 f.2 (unknown_next s post k h p c rest (bare next) at e),
      )

-- ---- the file

file_left_lem : (s : List ℕ) (flags : ℕ) (m : Marked) → WellFormedFile flags (bare m) → Placed None (bare m) → Few (bare m)
    → s ≡ file_of flags (bare m) → file_left s (rows_of (bare m)) (marks m) ≡ file_of flags (kept m)
unfolding file_left file_of
file_left_lem s flags m w p few e =
    let f = falls s flags m w few e in
    let bytes : drop 16 s ≡ encode (bare m) ++ [] = rw e (file_header_drop (count (bare m)) flags (encode (bare m)) ∙ sym (append-nil _)) in
    let same : count (bare m) ≡ count (kept m) = omega (arith, count_kept m, top_stays m w.2 p) in
    let top : take 16 s ≡ file_header (count (kept m)) flags
    = rw (e, same) (take_at (file_header (count (kept m)) flags) (encode (bare m)) 16 (length_file_header (count (kept m)) flags)) in
    rw (top, nodes_left_lem s (rows_of (bare m)) (marks m) m no_parent 0 16 [] w.2 f bytes)

-- the tally's file of a valid forest f by some marks, where m is f with these marks
pub tally_left : (flags : ℕ) (f : Forest) → Valid flags f → (m : Marked) (ms : List Bool) → bare m ≡ f → marks m ≡ ms
    → file_left (file_of flags f) (rows_of f) ms ≡ file_of flags (kept m)
tally_left flags f v m ms b e =
    let w = subst (Valid flags) (sym b) v in
    ap (file_left (file_of flags f) (rows_of f)) (sym e) ∙ ap (λ g. file_left (file_of flags g) (rows_of g) (marks m)) (sym b)
    ∙ file_left_lem (file_of flags (bare m)) flags m w.well_formed w.placed w.few refl
