-- The rows of what is left of a forest: the unmarked rows, renumbered and laid out; and node by node the same.
use Prim.Native.Nat.{ℕ, suc, ◌+◌, ◌-◌, ◌≤◌}
use native.Mathlib.Omega.{arith}
use mathlib.Core.Path.{◌≡◌, refl, ap, sym, ◌∙◌}
use mathlib.Core.Logic.{◌⊎◌, inl, inr}
use mathlib.Core.Bool.{Bool, true, false, cond}
use mathlib.Core.List.{List, [], ◌∷◌, ◌++◌, append_assoc, append-nil}
use lib.Dec.{eqb}
use lib.ListN.{length, length-append}
use lib.Seq.{take_at, get_or-append_seam}
use borrow.Author.Tests.{ne_eqb}
use Rattle.table.specs.declared.Row.{Row}
use Rattle.table.specs.Table.{no_parent}
use Rattle.format.specs.Forest.{count, nodes, header, encode, file_header, file_of}
use Rattle.format.specs.Rows.{node_row, rows, rows_of, own_bytes, all_own_bytes}
use Rattle.base.specs.Lists.{Each}
use Rattle.format.specs.Layout.{WellFormed, Few}
use Rattle.base.proofs.Lists.{each_append}
use Rattle.format.proofs.Headers.{length_header, length_file_header}
use Rattle.format.proofs.Rows.{part, length_rows, own_rows}
use Rattle.writer.specs.Forest.{moved_to, laid_out}
use Rattle.writer.proofs.Order.{none_laid}
use Rattle.removal.specs.Tally.{count_fall}
use Rattle.removal.specs.Left.{unmarked, new_number, Stays, ParentStays, renumbered, renumbered_from, rows_left}
use Rattle.removal.proofs.Marked.{Marked, mend, mkn, mun, bare, kept, marks, Falls, SameNode, Left, none, gone, same, length_marks, count_kept}
use Rattle.removal.proofs.Marking.{unmarked_append, unmarked_marks}

-- ---- appends
laid_out_append : (at : ℕ) (xs ys : List Row) → laid_out at (xs ++ ys) ≡ laid_out at xs ++ laid_out (at + all_own_bytes xs) ys
unfolding laid_out
laid_out_append at [] ys = ap (λ n. laid_out n ys) (omega arith)
laid_out_append at (x ∷ xs) ys =
    let n : at + own_bytes x + all_own_bytes xs ≡ at + (own_bytes x + all_own_bytes xs) = omega arith in
    ap (λ z. moved_to at x ∷ z) (laid_out_append (at + own_bytes x) xs ys ∙ ap (λ n. laid_out (at + own_bytes x) xs ++ laid_out n ys) n)

pub own_laid : (at : ℕ) (xs : List Row) → all_own_bytes (laid_out at xs) ≡ all_own_bytes xs
unfolding laid_out
own_laid at [] = refl
own_laid at (x ∷ xs) = omega (arith, own_laid (at + own_bytes x) xs)

module _ (all : List Row) (marked : List Bool) where
  renumbered_append : (i : ℕ) (xs ys : List Row) (ms ns : List Bool) → length xs ≡ length ms
      → renumbered_from all marked i (xs ++ ys) (ms ++ ns) ≡ renumbered_from all marked i xs ms ++ renumbered_from all marked (i + length xs) ys ns
  unfolding renumbered_from
  renumbered_append i [] ys [] ns h = ap (λ n. renumbered_from all marked n ys ns) (omega arith)
  renumbered_append i [] ys (m ∷ ms) ns h = absurd (omega arith)
  renumbered_append i (x ∷ xs) ys [] ns h = absurd (omega arith)
  renumbered_append i (x ∷ xs) ys (true ∷ ms) ns h =
      let n : suc i + length xs ≡ i + suc (length xs) = omega arith in
      rw n at (renumbered_append (suc i) xs ys ms ns (omega arith))
  renumbered_append i (x ∷ xs) ys (false ∷ ms) ns h =
      let n : suc i + length xs ≡ i + suc (length xs) = omega arith in
      ap (λ z. renumbered all marked i x ∷ z) (rw n at (renumbered_append (suc i) xs ys ms ns (omega arith)))

-- ---- the unmarked rows are the rows of what is left

-- a parent's number once the marked rows are gone
abbrev parent_left : List Bool → ℕ → ℕ
parent_left marked p = cond (eqb p no_parent) no_parent (new_number marked p)

-- these marks stand from `row` on, and of those before them row' are unmarked
record MarksFrom (marked ms : List Bool) (row row' : ℕ) : Type 0 where
  pre : List Bool
  post : List Bool
  whole : marked ≡ pre ++ (ms ++ post)
  long : length pre ≡ row
  number : unmarked pre ≡ row'

module _ (marked xs ys : List Bool) (row row' : ℕ) (b : MarksFrom marked (xs ++ ys) row row') where
  first_marks : MarksFrom marked xs row row'
  first_marks = record {
    pre = b.pre;
    post = ys ++ b.post;
    whole = b.whole ∙ simp append_assoc;
    long = b.long;
    number = b.number;
  }

  later_marks : (to to' : ℕ) → row + length xs ≡ to → row' + unmarked xs ≡ to' → MarksFrom marked ys to to'
  later_marks to to' l u = record {
    pre = b.pre ++ xs;
    post = b.post;
    whole = b.whole ∙ simp append_assoc;
    long = length-append b.pre xs ∙ omega (arith, b.long);
    number = unmarked_append b.pre xs ∙ omega (arith, b.number);
  }

own_number : (marked ms : List Bool) (row row' : ℕ) → MarksFrom marked ms row row' → row ≤ 1024 → parent_left marked row ≡ row'
own_number marked ms row row' b few =
    rw (ne_eqb row no_parent (λ e. omega arith), b.whole, take_at b.pre (ms ++ b.post) row b.long) b.number

module _ (s : List ℕ) (all : List Row) (marked : List Bool) where
  -- a row that is left, and those that are laid out after it
  row_left : (k h ps p p' row at at' size c c' : ℕ) (rs rs' : List Row) → parent_left marked p ≡ p' → c - count_fall all marked row ≡ c'
      → rs' ≡ laid_out (at' + 24 + size) rs
      → node_row k h p' (at' + 24) (at' + 24 + size) ps c' ∷ rs'
      ≡ laid_out at' (renumbered all marked row (node_row k h p (at + 24) (at + 24 + size) ps c) ∷ rs)
  unfolding laid_out
  row_left k h ps p p' row at at' size c c' rs rs' q e l =
      let stop : at' + 24 + size ≡ at' + (24 + (at + 24 + size - (at + 24))) = omega arith in
      rw (← q, ← e, l, stop)

  laid : (m : Marked) (p p' row row' at at' : ℕ) → MarksFrom marked (marks m) row row' → parent_left marked p ≡ p'
      → row + nodes (bare m) ≤ 1024 → Falls s all marked m row
      → rows (kept m) p' row' at' ≡ laid_out at' (renumbered_from all marked row (rows (bare m) p row at) (marks m))
  unfolding renumbered_from unmarked
  laid mend p p' row row' at at' b q few falls = sym (none_laid at')
  laid (mkn k h ps body kids next) p p' row row' at at' b q few falls =
      let here = at + 24 + length body in
      let here' : ℕ = at' + 24 + length body in
      let to = suc row + nodes (bare kids) in
      let to' = suc row' + nodes (kept kids) in
      let there = here + length (encode (bare kids)) in
      let there' : ℕ = here' + length (encode (kept kids)) in
      let below = rows (bare kids) row (suc row) here in
      let beside = rows (bare next) p to there in
      let first = renumbered_from all marked (suc row) below (marks kids) in
      let second = renumbered_from all marked to beside (marks next) in
      let b1 = later_marks marked (false ∷ []) (marks kids ++ marks next) row row' b (suc row) (suc row') (omega arith) (omega arith) in
      let b2 = first_marks marked (marks kids) (marks next) (suc row) (suc row') b1 in
      let b3 = later_marks marked (marks kids) (marks next) (suc row) (suc row') b1 to to'
      (omega (arith, length_marks kids)) (omega (arith, unmarked_marks kids)) in
      let number = own_number marked (false ∷ (marks kids ++ marks next)) row row' b (omega arith) in
      let one = laid kids row row' (suc row) (suc row') here here' b2 number (omega arith) falls.2 in
      let two = laid next p p' to to' there there' b3 q (omega arith) falls.3 in
      let long = length_rows (bare kids) row (suc row) here in
      let split : renumbered_from all marked (suc row) (below ++ beside) (marks kids ++ marks next) ≡ first ++ second
      = renumbered_append all marked (suc row) below beside (marks kids) (marks next) (long ∙ sym (length_marks kids))
      ∙ ap (λ n. first ++ renumbered_from all marked (suc row + n) beside (marks next)) long in
      let own : all_own_bytes first ≡ length (encode (kept kids))
      = sym (own_laid here' first) ∙ ap all_own_bytes (sym one) ∙ own_rows (kept kids) row' (suc row') here' in
      let tail : rows (kept kids) row' (suc row') here' ++ rows (kept next) p' to' there'
      ≡ laid_out here' (renumbered_from all marked (suc row) (below ++ beside) (marks kids ++ marks next))
      = rw (one, two, split, laid_out_append here' first second, own) in
      let children = count_kept kids in
      row_left k h ps p p' row at at' (length body) (count (bare kids)) (count (kept kids)) _ _ q (omega (arith, falls.1)) tail
  laid (mun true k h ps c rest next) p p' row row' at at' b q few falls =
      let b1 = later_marks marked (true ∷ []) (marks next) row row' b (suc row) row' (omega arith) (omega arith) in
      laid next p p' (suc row) row' (at + 24 + length rest) at' b1 q (omega arith) falls.2
  laid (mun false k h ps c rest next) p p' row row' at at' b q few falls =
      let b1 = later_marks marked (false ∷ []) (marks next) row row' b (suc row) (suc row') (omega arith) (omega arith) in
      let tail = laid next p p' (suc row) (suc row') (at + 24 + length rest) (at' + 24 + length rest) b1 q (omega arith) falls.2 in
      row_left k h ps p p' row at at' (length rest) c c _ _ q (omega (arith, falls.1)) tail

all_marks : (m : Marked) → MarksFrom (marks m) (marks m) 0 0
unfolding unmarked
all_marks m = record { pre = []; post = []; whole = sym (append-nil (marks m)); long = refl; number = refl }

pub rows_left_lem : (s : List ℕ) (m : Marked) → Few (bare m) → Falls s (rows_of (bare m)) (marks m) m 0
    → rows_of (kept m) ≡ rows_left (rows_of (bare m)) (marks m)
unfolding rows_left
rows_left_lem s m few falls = laid s (rows_of (bare m)) (marks m) m no_parent no_parent 0 0 16 16 (all_marks m) refl (omega arith) falls

-- ---- parents stay

own_stays : (marked ms : List Bool) (row row' : ℕ) → MarksFrom marked (false ∷ ms) row row' → Stays marked row
own_stays marked ms row row' b = rw (b.whole, ← b.long) (get_or-append_seam b.pre false (ms ++ b.post) true)

parents_from : (marked : List Bool) (m : Marked) (p row row' at : ℕ) → MarksFrom marked (marks m) row row'
    → (p ≡ no_parent) ⊎ Stays marked p → Each (ParentStays marked) (rows (bare m) p row at)
unfolding unmarked
parents_from marked mend p row row' at b q = tt
parents_from marked (mkn k h ps body kids next) p row row' at b q =
    let here = at + 24 + length body in
    let to = suc row + nodes (bare kids) in
    let there = here + length (encode (bare kids)) in
    let b1 = later_marks marked (false ∷ []) (marks kids ++ marks next) row row' b (suc row) (suc row') (omega arith) (omega arith) in
    let b2 = first_marks marked (marks kids) (marks next) (suc row) (suc row') b1 in
    let b3 = later_marks marked (marks kids) (marks next) (suc row) (suc row') b1 to _ (omega (arith, length_marks kids)) refl in (
      q,
      (each_append (ParentStays marked) (rows (bare kids) row (suc row) here) (rows (bare next) p to there)).1 (
        parents_from marked kids row (suc row) (suc row') here b2 (inr (own_stays marked (marks kids ++ marks next) row row' b)),
        parents_from marked next p to _ there b3 q,
      ),
    )
parents_from marked (mun true k h ps c rest next) p row row' at b q =
    let b1 = later_marks marked (true ∷ []) (marks next) row row' b (suc row) row' (omega arith) (omega arith) in
    (q, parents_from marked next p (suc row) row' (at + 24 + length rest) b1 q)
parents_from marked (mun false k h ps c rest next) p row row' at b q =
    let b1 = later_marks marked (false ∷ []) (marks next) row row' b (suc row) (suc row') (omega arith) (omega arith) in
    (q, parents_from marked next p (suc row) (suc row') (at + 24 + length rest) b1 q)

pub parents_stay : (m : Marked) → Each (ParentStays (marks m)) (rows_of (bare m))
parents_stay m = parents_from (marks m) m no_parent 0 0 16 (all_marks m) (inl refl)

-- ---- node by node the same

-- bytes that lie at a place of a file
record Lies (s : List ℕ) (at : ℕ) (bytes : List ℕ) : Type 0 where
  pre : List ℕ
  post : List ℕ
  whole : s ≡ pre ++ (bytes ++ post)
  place : at ≡ length pre

lies_after : (s pre bytes : List ℕ) (at : ℕ) → s ≡ pre ++ bytes → length pre ≡ at → Lies s at bytes
lies_after s pre bytes at e a = record { pre = pre; post = []; whole = e ∙ simp append-nil; place = sym a }

module _ (s : List ℕ) (at : ℕ) (xs ys : List ℕ) (l : Lies s at (xs ++ ys)) where
  first_bytes : Lies s at xs
  first_bytes = record { pre = l.pre; post = ys ++ l.post; whole = l.whole ∙ simp append_assoc; place = l.place }

  later_bytes : (n : ℕ) → length xs ≡ n → Lies s (at + n) ys
  later_bytes n e = record {
    pre = l.pre ++ xs;
    post = l.post;
    whole = l.whole ∙ simp append_assoc;
    place = simp length-append (omega (arith, l.place));
  }

-- a node's body, and what follows it
module _ (s : List ℕ) (at k size h ps c : ℕ) (body ys : List ℕ) (l : Lies s at (header k size h ps c ++ (body ++ ys))) where
  body_lies : Lies s (at + 24) body
  body_lies = first_bytes s (at + 24) body ys (later_bytes s at (header k size h ps c) (body ++ ys) l 24 (length_header k size h ps c))

  rest_lies : Lies s (at + 24 + length body) ys
  rest_lies =
      later_bytes s (at + 24) body ys (later_bytes s at (header k size h ps c) (body ++ ys) l 24 (length_header k size h ps c)) (length body) refl

module _ (s s' : List ℕ) where
  left_append : {xs : List Row} {ms : List Bool} {xs' ys : List Row} {ns : List Bool} {ys' : List Row} → Left s s' xs ms xs' → Left s s' ys ns ys'
      → Left s s' (xs ++ ys) (ms ++ ns) (xs' ++ ys')
  left_append none l = l
  left_append (gone u k) l = gone u (left_append k l)
  left_append (same n k) l = same n (left_append k l)

  same_node : (k h p p' at at' ps c c' : ℕ) (body : List ℕ) → Lies s (at + 24) body → Lies s' (at' + 24) body
      → SameNode s s' (node_row k h p (at + 24) (at + 24 + length body) ps c) (node_row k h p' (at' + 24) (at' + 24 + length body) ps c')
  same_node k h p p' at at' ps c c' body l l' = record {
    kind = refl;
    low = refl;
    high = refl;
    properties = refl;
    own = omega arith;
    body = part s' l'.pre body l'.post (at' + 24) l'.whole l'.place
        ∙ sym (part s l.pre body l.post (at + 24) l.whole l.place);
  }

  all_left : (m : Marked) (p p' row row' at at' : ℕ) → WellFormed (bare m) → Lies s at (encode (bare m)) → Lies s' at' (encode (kept m))
      → Left s s' (rows (bare m) p row at) (marks m) (rows (kept m) p' row' at')
  all_left mend p p' row row' at at' well l l' = none
  all_left (mkn k h ps body kids next) p p' row row' at at' well l l' =
      let kb = encode (bare kids) in
      let nb = encode (bare next) in
      let kb' = encode (kept kids) in
      let nb' = encode (kept next) in
      let size : ℕ = 24 + length body + length kb in
      let size' : ℕ = 24 + length body + length kb' in
      let n = count (bare kids) in
      let n' = count (kept kids) in
      let here : ℕ = at + 24 + length body in
      let here' : ℕ = at' + 24 + length body in
      let r = rest_lies s at k size h ps n body (kb ++ nb) l in
      let r' = rest_lies s' at' k size' h ps n' body (kb' ++ nb') l' in
      same
      (same_node k h p p' at at' ps n n' body
      (body_lies s at k size h ps n body (kb ++ nb) l)
      (body_lies s' at' k size' h ps n' body (kb' ++ nb') l'))
      (left_append
      (all_left kids row row' (suc row) (suc row') here here' well.4
      (first_bytes s here kb nb r) (first_bytes s' here' kb' nb' r'))
      (all_left next p p' (suc row + nodes (bare kids)) (suc row' + nodes (kept kids)) (here + length kb) (here' + length kb') well.5
      (later_bytes s here kb nb r (length kb) refl) (later_bytes s' here' kb' nb' r' (length kb') refl)))
  all_left (mun true k h ps c rest next) p p' row row' at at' well l l' =
      let r = rest_lies s at k (24 + length rest) h ps c rest (encode (bare next)) l in
      gone well.0 (all_left next p p' (suc row) row' (at + 24 + length rest) at' well.3 r l')
  all_left (mun false k h ps c rest next) p p' row row' at at' well l l' =
      let nb = encode (bare next) in
      let nb' = encode (kept next) in
      let size : ℕ = 24 + length rest in
      same
      (same_node k h p p' at at' ps c c rest (body_lies s at k size h ps c rest nb l) (body_lies s' at' k size h ps c rest nb' l'))
      (all_left next p p' (suc row) (suc row') (at + 24 + length rest) (at' + 24 + length rest) well.3
      (rest_lies s at k size h ps c rest nb l) (rest_lies s' at' k size h ps c rest nb' l'))

pub left_rows : (s s' : List ℕ) (flags : ℕ) (m : Marked) → WellFormed (bare m) → s ≡ file_of flags (bare m) → s' ≡ file_of flags (kept m)
    → Left s s' (rows_of (bare m)) (marks m) (rows_of (kept m))
unfolding file_of
left_rows s s' flags m well e e' =
    let n = count (bare m) in
    let n' = count (kept m) in
    all_left s s' m no_parent no_parent 0 0 16 16 well
    (lies_after s (file_header n flags) (encode (bare m)) 16 e (length_file_header n flags))
    (lies_after s' (file_header n' flags) (encode (kept m)) 16 e' (length_file_header n' flags))
