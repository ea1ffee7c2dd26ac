-- The tally sums over all marked rows: what it finds at a known node is what is lost under it.
use Prim.Native.Nat.{ℕ, zero, suc, ◌+◌, ◌-◌, ◌≤◌, ◌<◌}
use native.Mathlib.Omega.{arith}
use native.Mathlib.Nat.{zero-add, add-zero}
use mathlib.Core.Path.{◌≡◌, refl, ap, sym, ◌∙◌}
use mathlib.Core.Logic.{inl, inr}
use mathlib.Core.Bool.{Bool, true, false, cond, ◌||◌}
use mathlib.Core.List.{List, [], ◌∷◌, ◌++◌, append_assoc, append-nil}
use lib.Dec.{eqb}
use lib.ListN.{length, take, drop, get_or}
use lib.Seq.{drop-drop, drop_at, take_at, get_or-drop}
use borrow.Author.Tests.{eq-eqb, ne_eqb}
use Rattle.le.specs.Le.{number_at, le}
use Rattle.le.proofs.Laws.{val_le}
use Rattle.base.proofs.Tests.{by_test}
use Rattle.table.specs.declared.Row.{Row}
use Rattle.table.specs.Table.{no_parent, blank}
use Rattle.format.specs.Forest.{Forest, known, unknown, count, nodes, header, encode, file_of}
use Rattle.format.specs.Rows.{node_row, rows, rows_of}
use Rattle.format.specs.Layout.{Fits, WellFormed, WellFormedFile, Few}
use Rattle.format.proofs.Headers.{length_header, file_header_drop}
use Rattle.format.proofs.Rows.{length_rows}
use Rattle.reader.proofs.Counts.{Outside, within, not_first}
use Rattle.removal.specs.Tally.{sum_over_marked, is_around, size_in, size_fall, count_fall}
use Rattle.removal.proofs.Marked.{Marked, mend, mkn, mun, bare, marks, lost, gone_top, Falls, length_marks}

-- ---- parts of lists

-- what is after a part that is known to be at a place
pub drop_on : {A : Type 0} (l xs ys : List A) (n k : ℕ) → drop n l ≡ xs ++ ys → n + length xs ≡ k → drop k l ≡ ys
drop_on l xs ys n k e h = rw (← h, ← (drop-drop (length xs) n l), e) (drop_at xs ys (length xs) refl)

-- the row at a place, and the rows after it
module _ (r : Row) (all rs : List Row) (row : ℕ) (e : drop row all ≡ r ∷ rs) where
  here_is : get_or all row blank ≡ r
  here_is = ap (λ n. get_or all n blank) (sym (add-zero row)) ∙ sym (get_or-drop row all 0 blank) ∙ ap (λ l. get_or l 0 blank) e

  rows_after : drop (suc row) all ≡ rs
  rows_after = drop_on all (r ∷ []) rs row (suc row) e (omega arith)

pub size_in_lem : (k z h p c : ℕ) → Fits k z h p c → number_at 4 (header k z h p c) 4 ≡ z
unfolding number_at header le
size_in_lem k z h p c fits = val_le 4 z fits.1

-- the header of a node at a place, and the bytes after it
module _ (s post : List ℕ) (k z h p c at : ℕ) (e : drop at s ≡ header k z h p c ++ post) where
  pub header_in_lem : take 24 (drop (at + 24 - 24) s) ≡ header k z h p c
  header_in_lem = let n : at + 24 - 24 ≡ at = omega arith in rw (n, e) (take_at (header k z h p c) post 24 (length_header k z h p c))

  pub header_on : drop (at + 24) s ≡ post
  header_on = drop_on s (header k z h p c) post at (at + 24) e (ap (λ n. at + n) (length_header k z h p c))

-- where the bytes of a known node are, of those below it and of those beside it
module _ (s post : List ℕ) (k h p : ℕ) (body : List ℕ) (kids next : Forest) (at : ℕ)
    (e : drop at s ≡ encode (known k h p body kids next) ++ post) where
  abbrev size : ℕ
  size = 24 + length body + length (encode kids)

  first : drop at s ≡ header k size h p (count kids) ++ (body ++ (encode kids ++ (encode next ++ post)))
  first = simp append_assoc at e

  pub known_header : take 24 (drop (at + 24 - 24) s) ≡ header k size h p (count kids)
  known_header = header_in_lem s (body ++ (encode kids ++ (encode next ++ post))) k size h p (count kids) at first

  pub known_body : drop (at + 24) s ≡ body ++ (encode kids ++ (encode next ++ post))
  known_body = header_on s (body ++ (encode kids ++ (encode next ++ post))) k size h p (count kids) at first

  pub known_kids : drop (at + 24 + length body) s ≡ encode kids ++ (encode next ++ post)
  known_kids = drop_on s body (encode kids ++ (encode next ++ post)) (at + 24) (at + 24 + length body) known_body refl

  pub known_next : drop (at + 24 + length body + length (encode kids)) s ≡ encode next ++ post
  known_next = drop_on s (encode kids) (encode next ++ post) (at + 24 + length body) (at + 24 + length body + length (encode kids)) known_kids refl

-- the same of an unknown one
module _ (s post : List ℕ) (k h p c : ℕ) (rest : List ℕ) (next : Forest) (at : ℕ)
    (e : drop at s ≡ encode (unknown k h p c rest next) ++ post) where
  alone : drop at s ≡ header k (24 + length rest) h p c ++ (rest ++ (encode next ++ post))
  alone = simp append_assoc at e

  pub unknown_header : take 24 (drop (at + 24 - 24) s) ≡ header k (24 + length rest) h p c
  unknown_header = header_in_lem s (rest ++ (encode next ++ post)) k (24 + length rest) h p c at alone

  pub unknown_body : drop (at + 24) s ≡ rest ++ (encode next ++ post)
  unknown_body = header_on s (rest ++ (encode next ++ post)) k (24 + length rest) h p c at alone

  pub unknown_next : drop (at + 24 + length rest) s ≡ encode next ++ post
  unknown_next = drop_on s rest (encode next ++ post) (at + 24) (at + 24 + length rest) unknown_body refl

-- ---- the rows around a row: its chain, from its parent to a root

abbrev elem : ℕ → List ℕ → Bool
elem i [] = false
elem i (p ∷ c) = eqb p i || elem i c

abbrev parent_of : List ℕ → ℕ
parent_of [] = no_parent
parent_of (p ∷ c) = p

abbrev AroundIs : List Row → (j : ℕ) → List ℕ → Type 0
AroundIs all j c = (n : ℕ) → length c ≤ n → (i : ℕ) → is_around all n i j ≡ elem i c

-- all rows under the first row of a chain have it
abbrev Chain : List Row → List ℕ → Type 0
Chain all c = (j : ℕ) → (get_or all j blank).parent ≡ parent_of c → AroundIs all j c

chain_top : (all : List Row) → Chain all []
unfolding is_around
chain_top all j e zero h i = refl
chain_top all j e (suc n) h i = rw e

chain_below : (all : List Row) (c : List ℕ) (row : ℕ) → Chain all c → (get_or all row blank).parent ≡ parent_of c → row < 1024 → Chain all (row ∷ c)
unfolding is_around
chain_below all c row chain e small j f zero h i = absurd (omega arith)
chain_below all c row chain e small j f (suc n) h i =
    rw (f, ne_eqb row no_parent (λ g. omega arith), chain row e n (omega arith) i)

-- ---- what the tally can know of the unknown nodes: the rows around them, and their sizes
abbrev Sits : (s : List ℕ) (all : List Row) → Marked → (c : List ℕ) (row at : ℕ) → Type 0
Sits s all mend c row at = Unit {0}
Sits s all (mkn k h p body kids next) c row at =
    Sits s all kids (row ∷ c) (suc row) (at + 24 + length body)
    × Sits s all next c (suc row + nodes (bare kids)) (at + 24 + length body + length (encode (bare kids)))
Sits s all (mun g k h p n rest next) c row at =
    ((i : ℕ) → is_around all (length all) i row ≡ elem i c)
    × (number_at 4 (take 24 (drop (at + 24 - 24) s)) 4 ≡ 24 + length rest)
    × Sits s all next c (suc row) (at + 24 + length rest)

module _ (s : List ℕ) (all : List Row) where
  sits : (m : Marked) (c : List ℕ) (row at : ℕ) (later : List Row) (post : List ℕ)
      → WellFormed (bare m) → row + nodes (bare m) ≤ 1024 → row + nodes (bare m) ≤ length all → length c ≤ row → Chain all c
      → drop row all ≡ rows (bare m) (parent_of c) row at ++ later → drop at s ≡ encode (bare m) ++ post → Sits s all m c row at
  sits mend c row at later post w few room short chain e f = tt
  sits (mkn k h p body kids next) c row at later post w few room short chain e f =
      let here : ℕ = at + 24 + length body in
      let over : ℕ = suc row + nodes (bare kids) in
      let there : ℕ = here + length (encode (bare kids)) in
      let below = rows (bare kids) row (suc row) here in
      let beside = rows (bare next) (parent_of c) over there in
      let r = node_row k h (parent_of c) (at + 24) here p (count (bare kids)) in
      let g : drop (suc row) all ≡ below ++ (beside ++ later) = rows_after r all ((below ++ beside) ++ later) row e ∙ append_assoc below beside later in
      let o : drop over all ≡ beside ++ later
      = drop_on all below (beside ++ later) (suc row) over g (ap (λ n. suc row + n) (length_rows (bare kids) row (suc row) here)) in
      let under = chain_below all c row chain (ap (λ r. r.parent) (here_is r all ((below ++ beside) ++ later) row e)) (omega arith) in (
        sits kids (row ∷ c) (suc row) here (beside ++ later) (encode (bare next) ++ post) w.4 (omega arith) (omega arith) (omega arith) under g
            (known_kids s post k h p body (bare kids) (bare next) at f),
        sits next c over there later post w.5 (omega arith) (omega arith) (omega arith) chain o
            (known_next s post k h p body (bare kids) (bare next) at f),
      )
  sits (mun g k h p n rest next) c row at later post w few room short chain e f =
      let there : ℕ = at + 24 + length rest in
      let beside = rows (bare next) (parent_of c) (suc row) there in
      let r = node_row k h (parent_of c) (at + 24) there p n in (
        chain row (ap (λ r. r.parent) (here_is r all (beside ++ later) row e)) (length all) (omega arith),
        ap (λ l. number_at 4 l 4) (unknown_header s post k h p n rest (bare next) at f) ∙ size_in_lem k (24 + length rest) h p n w.1,
        sits next c (suc row) there later post w.3 (omega arith) (omega arith) (omega arith) chain (rows_after r all (beside ++ later) row e)
            (unknown_next s post k h p n rest (bare next) at f),
      )

-- ---- sums over marked rows

sum_over_marked_append : (x : ℕ → Row → ℕ) (j k : ℕ) (xs ys : List Row) (ms ns : List Bool) → length xs ≡ length ms → j + length xs ≡ k
    → sum_over_marked x j (xs ++ ys) (ms ++ ns) ≡ sum_over_marked x j xs ms + sum_over_marked x k ys ns
unfolding sum_over_marked
sum_over_marked_append x j k [] ys [] ns e h = let n : k ≡ j = omega arith in rw (n, zero-add)
sum_over_marked_append x j k [] ys (m ∷ ms) ns e h = absurd (omega arith)
sum_over_marked_append x j k (r ∷ xs) ys [] ns e h = absurd (omega arith)
sum_over_marked_append x j k (r ∷ xs) ys (m ∷ ms) ns e h =
    rw (sum_over_marked_append x (suc j) k xs ys ms ns (omega arith) (omega arith)) (omega arith)

-- over the rows of a forest under a chain
abbrev sum : (ℕ → Row → ℕ) → Marked → (c : List ℕ) (row at : ℕ) → ℕ
sum x m c row at = sum_over_marked x row (rows (bare m) (parent_of c) row at) (marks m)

sum_known : (x : ℕ → Row → ℕ) (k h p : ℕ) (body : List ℕ) (kids next : Marked) (c : List ℕ) (row at : ℕ)
    → sum x (mkn k h p body kids next) c row at ≡ sum x kids (row ∷ c) (suc row) (at + 24 + length body)
    + sum x next c (suc row + nodes (bare kids)) (at + 24 + length body + length (encode (bare kids)))
unfolding sum_over_marked
sum_known x k h p body kids next c row at =
    let here : ℕ = at + 24 + length body in
    let over : ℕ = suc row + nodes (bare kids) in
    let below = rows (bare kids) row (suc row) here in
    let beside = rows (bare next) (parent_of c) over (here + length (encode (bare kids))) in
    let n = length_rows (bare kids) row (suc row) here in
    zero-add _
    ∙ sum_over_marked_append x (suc row) over below beside (marks kids) (marks next) (n ∙ sym (length_marks kids)) (ap (λ n. suc row + n) n)

by_mark : (g : Bool) → ◌≡◌ {A = ℕ} (cond g 0 0) 0
by_mark true = refl
by_mark false = refl

-- numbers by which row i falls for an unknown row, where a test tells from its chain whether it falls at all
record Weighs (all : List Row) (x : ℕ → ℕ → Row → ℕ) (test : ℕ → List ℕ → Bool) : Type 0 where
  none : (i row : ℕ) (c : List ℕ) (r : Row) → ((i : ℕ) → is_around all (length all) i row ≡ elem i c) → r.parent ≡ parent_of c
      → test i c ≡ false → x i row r ≡ 0
  below : (i row : ℕ) (c : List ℕ) → (row ≡ i → ⊥) → test i c ≡ false → test i (row ∷ c) ≡ false

-- falls T are the sums over the rows of a forest, for each of these rows
abbrev Inside : (T : ℕ → ℕ) (x : ℕ → ℕ → Row → ℕ) → Marked → (c : List ℕ) (row at : ℕ) → Type 0
Inside T x m c row at = (i : ℕ) → row ≤ i → i < row + nodes (bare m) → T i ≡ sum (x i) m c row at

-- a chain of rows before `row`
abbrev Before : (test : ℕ → List ℕ → Bool) (c : List ℕ) (row : ℕ) → Type 0
Before test c row = (i : ℕ) → row ≤ i → i < 1024 → test i c ≡ false

-- a known node falls by what its children have lost, an unknown one by nothing
abbrev FallsBy : (T : ℕ → ℕ) (own : Marked → ℕ) → Marked → (row : ℕ) → Type 0
FallsBy T own mend row = Unit {0}
FallsBy T own (mkn k h p body kids next) row =
    (T row ≡ own kids) × FallsBy T own kids (suc row) × FallsBy T own next (suc row + nodes (bare kids))
FallsBy T own (mun g k h p n rest next) row = (T row ≡ 0) × FallsBy T own next (suc row)

module _ (s : List ℕ) (all : List Row) (x : ℕ → ℕ → Row → ℕ) (test : ℕ → List ℕ → Bool) (weighs : Weighs all x test) where
  -- no row falls for nodes that are not under it
  none_lost : (i : ℕ) (m : Marked) (c : List ℕ) (row at : ℕ) → Sits s all m c row at → test i c ≡ false → Outside i row (nodes (bare m))
      → sum (x i) m c row at ≡ 0
  unfolding sum_over_marked
  none_lost i mend c row at sat t out = refl
  none_lost i (mkn k h p body kids next) c row at sat t out =
      let n = nodes (bare (mkn k h p body kids next)) in
      let here : ℕ = at + 24 + length body in
      let over : ℕ = suc row + nodes (bare kids) in
      let under = weighs.below i row c (not_first i row (nodes (bare kids) + nodes (bare next)) out) t in
      let out-kids = within i row n (suc row) (nodes (bare kids)) out (omega arith) (omega arith) in
      let out-next = within i row n over (nodes (bare next)) out (omega arith) (omega arith) in
      let a = none_lost i kids (row ∷ c) (suc row) here sat.0 under out-kids in
      let b = none_lost i next c over (here + length (encode (bare kids))) sat.1 t out-next in
      sum_known (x i) k h p body kids next c row at ∙ rw (a, b)
  none_lost i (mun g k h p n rest next) c row at sat t out =
      let there : ℕ = at + 24 + length rest in
      let a = weighs.none i row c (node_row k h (parent_of c) (at + 24) there p n) sat.0 refl t in
      let out-next = within i row (suc (nodes (bare next))) (suc row) (nodes (bare next)) out (omega arith) (omega arith) in
      let b = none_lost i next c (suc row) there sat.2 t out-next in
      rw (a, b, by_mark g)

  module _ (T : ℕ → ℕ) (own : Marked → ℕ)
      (owns : (i : ℕ) (m : Marked) (c : List ℕ) (at : ℕ) → Sits s all m (i ∷ c) (suc i) at → sum (x i) m (i ∷ c) (suc i) at ≡ own m) where
    falls_by : (m : Marked) (c : List ℕ) (row at : ℕ) → Sits s all m c row at → Before test c row → row + nodes (bare m) ≤ 1024
        → Inside T x m c row at → FallsBy T own m row
    unfolding sum_over_marked
    falls_by mend c row at sat before few inside = tt
    falls_by (mkn k h p body kids next) c row at sat before few inside =
        let here : ℕ = at + 24 + length body in
        let over : ℕ = suc row + nodes (bare kids) in
        let there : ℕ = here + length (encode (bare kids)) in
        let under : Before test (row ∷ c) (suc row) = λ i a b. weighs.below i row c (λ e. omega arith) (before i (omega arith) b) in
        let beside : (i : ℕ) → row ≤ i → i < over → sum (x i) next c over there ≡ 0
        = λ i a b. none_lost i next c over there sat.1 (before i a (omega arith)) (inl b) in
        let split : (i : ℕ) → row ≤ i → i < row + suc (nodes (bare kids) + nodes (bare next))
        → T i ≡ sum (x i) kids (row ∷ c) (suc row) here + sum (x i) next c over there
        = λ i a b. inside i a b ∙ sum_known (x i) k h p body kids next c row at in
        let inside-kids : Inside T x kids (row ∷ c) (suc row) here
        = λ i a b. split i (omega arith) (omega arith) ∙ rw (beside i (omega arith) b) (add-zero _) in
        let inside_next : Inside T x next c over there
        = λ i a b. split i (omega arith) (omega arith)
        ∙ rw (none_lost i kids (row ∷ c) (suc row) here sat.0 (under i (omega arith) (omega arith)) (inr a)) (zero-add _) in (
          split row (omega arith) (omega arith) ∙ rw (beside row (omega arith) (omega arith), owns row kids c here sat.0) (add-zero _),
          falls_by kids (row ∷ c) (suc row) here sat.0 under (omega arith) inside-kids,
          falls_by next c over there sat.1 (λ i a b. before i (omega arith) b) (omega arith) inside_next,
        )
    falls_by (mun g k h p n rest next) c row at sat before few inside =
        let there : ℕ = at + 24 + length rest in
        let r = node_row k h (parent_of c) (at + 24) there p n in
        let split : (i : ℕ) → row ≤ i → i < row + suc (nodes (bare next)) → T i ≡ sum (x i) next c (suc row) there
        = λ i a b. inside i a b ∙ rw (weighs.none i row c r sat.0 refl (before i a (omega arith)), by_mark g) (zero-add _) in (
          split row (omega arith) (omega arith)
              ∙ none_lost row next c (suc row) there sat.2 (before row (omega arith) (omega arith)) (inl (omega arith)),
          falls_by next c (suc row) there sat.2 (λ i a b. before i (omega arith) b) (omega arith) (λ i a b. split i (omega arith) (omega arith)),
        )

-- ---- sizes

abbrev size_by : (s : List ℕ) (all : List Row) (i j : ℕ) → Row → ℕ
size_by s all i j r = cond (is_around all (length all) i j) (size_in s r) 0

sizes_weigh : (s : List ℕ) (all : List Row) → Weighs all (size_by s all) elem
sizes_weigh s all = record {
  none = λ i row c r around par t. rw (around i, t);
  below = λ i row c no t. rw (ne_eqb row i no, t);
}

-- a row around some nodes loses the bytes of the marked ones
module _ (s : List ℕ) (all : List Row) (i : ℕ) where
  bytes_lost : (m : Marked) (c : List ℕ) (row at : ℕ) → Sits s all m c row at → elem i c ≡ true → sum (size_by s all i) m c row at ≡ lost m
  unfolding sum_over_marked
  bytes_lost mend c row at sat t = refl
  bytes_lost (mkn k h p body kids next) c row at sat t =
      let here : ℕ = at + 24 + length body in
      let under : elem i (row ∷ c) ≡ true = by_test (eqb row i) (λ e. rw e) (λ e. rw (e, t)) in
      let a = bytes_lost kids (row ∷ c) (suc row) here sat.0 under in
      let b = bytes_lost next c (suc row + nodes (bare kids)) (here + length (encode (bare kids))) sat.1 t in
      sum_known (size_by s all i) k h p body kids next c row at ∙ rw (a, b)
  bytes_lost (mun true k h p n rest next) c row at sat t =
      rw (sat.0 i, t, sat.1, bytes_lost next c (suc row) (at + 24 + length rest) sat.2 t)
  bytes_lost (mun false k h p n rest next) c row at sat t =
      rw (bytes_lost next c (suc row) (at + 24 + length rest) sat.2 t) (zero-add _)

-- ---- child counts

abbrev count_by : (i j : ℕ) → Row → ℕ
count_by i j r = cond (eqb r.parent i) 1 0

counts_weigh : (all : List Row) → Weighs all count_by (λ i c. eqb (parent_of c) i)
counts_weigh all = record {
  none = λ i row c r around par t. rw (par, t);
  below = λ i row c no t. ne_eqb row i no;
}

-- a parent loses its marked children
module _ (s : List ℕ) (all : List Row) (i : ℕ) (c : List ℕ) where
  children_lost : (m : Marked) (row at : ℕ) → Sits s all m (i ∷ c) row at → i < row → sum (count_by i) m (i ∷ c) row at ≡ gone_top m
  unfolding sum_over_marked
  children_lost mend row at sat l = refl
  children_lost (mkn k h p body kids next) row at sat l =
      let here : ℕ = at + 24 + length body in
      let a = none_lost s all count_by (λ i c. eqb (parent_of c) i) (counts_weigh all) i kids (row ∷ (i ∷ c)) (suc row) here sat.0
      (ne_eqb row i (λ e. omega arith)) (inl (omega arith)) in
      let b = children_lost next (suc row + nodes (bare kids)) (here + length (encode (bare kids))) sat.1 (omega arith) in
      sum_known (count_by i) k h p body kids next (i ∷ c) row at ∙ rw (a, b) (zero-add _)
  children_lost (mun true k h p n rest next) row at sat l =
      rw (eq-eqb i i refl, children_lost next (suc row) (at + 24 + length rest) sat.2 (omega arith)) (omega arith)
  children_lost (mun false k h p n rest next) row at sat l =
      rw (children_lost next (suc row) (at + 24 + length rest) sat.2 (omega arith)) (zero-add _)

-- ---- both

both : (s : List ℕ) (all : List Row) (marked : List Bool) (m : Marked) (row : ℕ)
    → FallsBy (size_fall s all marked) lost m row → FallsBy (count_fall all marked) gone_top m row → Falls s all marked m row
both s all marked mend row a b = tt
both s all marked (mkn k h p body kids next) row a b =
    (a.0, b.0, both s all marked kids (suc row) a.1 b.1, both s all marked next (suc row + nodes (bare kids)) a.2 b.2)
both s all marked (mun g k h p n rest next) row a b = (a.0, b.0, both s all marked next (suc row) a.1 b.1)

pub falls : (s : List ℕ) (flags : ℕ) (m : Marked) → WellFormedFile flags (bare m) → Few (bare m) → s ≡ file_of flags (bare m)
    → Falls s (rows_of (bare m)) (marks m) m 0
unfolding file_of
falls s flags m w few e =
    let all = rows_of (bare m) in
    let n = length_rows (bare m) no_parent 0 16 in
    let bytes : drop 16 s ≡ encode (bare m) ++ [] = rw e (file_header_drop (count (bare m)) flags (encode (bare m)) ∙ sym (append-nil _)) in
    let sat = sits s all m [] 0 16 [] [] w.2 (omega arith) (omega arith) (omega arith) (chain_top all) (sym (append-nil all)) bytes in
    let size = falls_by s all (size_by s all) elem (sizes_weigh s all) (size_fall s all (marks m)) lost
    (λ i m c at a. bytes_lost s all i m (i ∷ c) (suc i) at a (rw (eq-eqb i i refl)))
    m [] 0 16 sat (λ i a b. refl) (omega arith) (λ i a b. refl) in
    let children = falls_by s all count_by (λ i c. eqb (parent_of c) i) (counts_weigh all) (count_fall all (marks m)) gone_top
    (λ i m c at a. children_lost s all i c m (suc i) at a (omega arith))
    m [] 0 16 sat (λ i a b. ne_eqb no_parent i (λ e. omega arith)) (omega arith) (λ i a b. refl) in
    both s all (marks m) m 0 size children
