-- The tally's file and F's bytes without the marked nodes: as long as each other, and different only in headers, in a size or a
-- child count that falls.
use Prim.Native.Nat.{ℕ, zero, suc, ◌+◌, ◌-◌, ◌/◌, ◌≤◌, ◌<◌}
use native.Mathlib.Omega.{arith}
use native.Mathlib.Nat.{zero-add, add-zero, sub-zero}
use mathlib.Core.Path.{◌≡◌, refl, ap, subst}
use mathlib.Core.Logic.{◌⊎◌, inl, inr}
use mathlib.Core.Bool.{Bool, true, false, cond}
use mathlib.Core.List.{List, [], ◌∷◌, ◌++◌, append_assoc, flat_map}
use lib.Dec.{eqb}
use lib.ListN.{length, get_or, take, drop, length-append, length-drop, take-append-drop}
use lib.Seq.{length-take-le, take_all}
use borrow.Author.Tests.{eqb-true, eqb-false}
use Rattle.le.specs.Le.{number_at, le, AreBytes}
use Rattle.le.proofs.Laws.{bytes_take, bytes_drop, part_front, length_le, le_number_at, le_front}
use Rattle.base.proofs.Tests.{by_test}
use Rattle.table.specs.declared.Row.{Row}
use Rattle.table.specs.Table.{blank}
use Rattle.base.specs.Lists.{Each}
use Rattle.format.specs.Rows.{body_of, own_bytes}
use Rattle.writer.specs.Forest.{laid_out}
use Rattle.removal.specs.Tally.{sum_over_marked, is_around, header_in, size_in, size_fall, count_fall, reduced_header, nodes_left, file_left}
use Rattle.removal.specs.Left.{Stays, unmarked, unmarked_of, renumbered_from, rows_left, InHeader, InSize, InCount}

-- a row whose header and body lie in the file
abbrev pub LiesIn : (s : List ℕ) → Row → Type 0
LiesIn s r = (24 ≤ r.start) × (r.start ≤ r.end) × (r.end ≤ length s)

-- the first file's bytes without the marked nodes', piece by piece: a header and a body for each unmarked row
abbrev pub pieces : (s : List ℕ) → List Row → List Bool → List ℕ
pieces s rows marks = take 16 s ++ flat_map (λ r. header_in s r ++ body_of s r) (unmarked_of rows marks)

onward : (i n : ℕ) → i + suc n ≡ suc i + n
onward i n = omega arith

-- ---- a sum over the marked rows, from row j on, that is not 0 has a summand that is not 0
record Summand (x : ℕ → Row → ℕ) (j : ℕ) (rows : List Row) (marks : List Bool) : Type 0 where
  place : ℕ
  is_marked : get_or marks place false ≡ true
  counts : x (j + place) (get_or rows place blank) ≡ 0 → ⊥

some_marked : (x : ℕ → Row → ℕ) (j : ℕ) (rows : List Row) (marks : List Bool)
    → (sum_over_marked x j rows marks ≡ 0 → ⊥) → Summand x j rows marks
unfolding sum_over_marked
some_marked x j [] marks h = absurd (h refl)
some_marked x j (r ∷ rows) [] h = absurd (h refl)
some_marked x j (r ∷ rows) (mark ∷ marks) h =
    by_test (eqb (cond mark (x j r) 0) 0)
    (λ t.
    let more = some_marked x (suc j) rows marks (λ e. h (omega (arith, eqb-true (cond mark (x j r) 0) 0 t))) in
    record { place = suc more.place; is_marked = more.is_marked; counts = rw (onward j more.place) more.counts })
    (λ t. here mark (eqb-false (cond mark (x j r) 0) 0 t))
  where
    here : (mark : Bool) → (cond mark (x j r) 0 ≡ 0 → ⊥) → Summand x j (r ∷ rows) (mark ∷ marks)
    here true h = record { place = 0; is_marked = refl; counts = rw (add-zero j) h }
    here false h = absurd (h refl)

holds : (b : Bool) (n : ℕ) → (cond b n 0 ≡ 0 → ⊥) → b ≡ true
holds true n h = refl
holds false n h = absurd (h refl)

-- ---- lists, from place n on of two files, with the same bytes but at places that are so
data Alike (P : ℕ → Type 0) : ℕ → List ℕ → List ℕ → Type 0 where
  nil : {n : ℕ} → Alike P n [] []
  cons : {n x y : ℕ} {xs ys : List ℕ} → (x ≡ y) ⊎ P n → Alike P (suc n) xs ys → Alike P n (x ∷ xs) (y ∷ ys)

module _ {P : ℕ → Type 0} where
  at_place : {n : ℕ} {xs ys : List ℕ} → Alike P n xs ys → (q at : ℕ) → at ≡ n + q → (get_or xs q 0 ≡ get_or ys q 0) ⊎ P at
  at_place nil q at e = inl refl
  at_place {n} (cons s l) zero at e = let f : at ≡ n = omega arith in rw f s
  at_place (cons s l) (suc q) at e = at_place l q at (omega arith)

  same : {n : ℕ} (xs : List ℕ) → Alike P n xs xs
  same [] = nil
  same (x ∷ xs) = cons (inl refl) (same xs)

  append : {n m : ℕ} {a b c d : List ℕ} → Alike P n a b → m ≡ n + length a → Alike P m c d → Alike P n (a ++ c) (b ++ d)
  append {n} {m} nil e l = let f : n ≡ m = omega arith in rw f l
  append (cons s k) e l = cons s (append k (omega arith) l)

  -- where all of w places are so
  apart : {n : ℕ} (w v v' : ℕ) → ((at : ℕ) → n ≤ at → at < n + w → P at) → Alike P n (le w v) (le w v')
  unfolding le
  apart zero v v' f = nil
  apart {n} (suc w) v v' f = cons (inr (f n (omega arith) (omega arith))) (apart w (v / 256) (v' / 256) (λ at h k. f at (omega arith) (omega arith)))

  falls : {n : ℕ} (w v x : ℕ) → ((x ≡ 0 → ⊥) → (at : ℕ) → n ≤ at → at < n + w → P at) → Alike P n (le w (v - x)) (le w (v - 0))
  falls w v zero f = same (le w (v - 0))
  falls w v (suc x) f = apart w (v - suc x) (v - 0) (f (λ e. omega arith))

-- ---- one header
module _ (h : List ℕ) (long : length h ≡ 24) where
  first : length (take 4 h) ≡ 4
  first = length-take-le 4 h (omega arith)

  third : length (take 12 (drop 8 h)) ≡ 12
  third = length-take-le 12 (drop 8 h) (simp length-drop (omega arith))

  length_reduced_header : (x y : ℕ) → length (reduced_header h x y) ≡ 24
  unfolding reduced_header
  length_reduced_header x y = simp (length-append, length_le, first, third)

  reduced_header_none : AreBytes h → reduced_header h 0 0 ≡ h
  unfolding reduced_header
  reduced_header_none bytes =
      rw (
        sub-zero (number_at 4 h 4),
        sub-zero (number_at 4 h 20),
        le_number_at 4 h 20 bytes (omega arith),
        take_all 4 (drop 20 h) (simp length-drop (omega arith)),
        part_front 12 h 8 20 refl,
        le_front 4 h 4 8 bytes refl (omega arith),
        take-append-drop 4 h,
      )

  header_alike : {P : ℕ → Type 0} (n : ℕ) → AreBytes h → (x y : ℕ)
      → ((x ≡ 0 → ⊥) → (at : ℕ) → n + 4 ≤ at → at < n + 4 + 4 → P at)
      → ((y ≡ 0 → ⊥) → (at : ℕ) → n + 20 ≤ at → at < n + 20 + 4 → P at) → Alike P n (reduced_header h x y) h
  unfolding reduced_header
  header_alike {P} n bytes x y f g =
      let size = number_at 4 h 4 in
      subst (Alike P n (reduced_header h x y)) (reduced_header_none bytes)
      (append (same (take 4 h)) (omega (arith, first))
      (append (falls {n = n + 4} 4 size x f) (omega (arith, length_le 4 (size - x)))
      (append (same {n = n + 8} (take 12 (drop 8 h))) (omega (arith, third)) (falls {n = n + 20} 4 (number_at 4 h 20) y g))))

-- ---- along the rows
lengths : (s : List ℕ) (r : Row) → LiesIn s r → (length (header_in s r) ≡ 24) × (length (body_of s r) ≡ r.end - r.start)
lengths s r l = (
  length-take-le 24 (drop (r.start - 24) s) (simp length-drop (omega arith)),
  length-take-le (r.end - r.start) (drop r.start s) (simp length-drop (omega arith)),
)

-- of rows from row i on, the first header at place `at`: where the body of one that is left starts
abbrev start_of : (all : List Row) (marked : List Bool) (i at : ℕ) (rs : List Row) (ms : List Bool) (place : ℕ) → ℕ
start_of all marked i at rs ms place = (get_or (laid_out at (renumbered_from all marked i rs ms)) (unmarked (take place ms)) blank).start

-- a place among the four bytes, from the header's byte `first` on, of a number that falls in a row that is left
record Falling (all : List Row) (marked : List Bool) (fall : ℕ → ℕ) (first i at : ℕ) (rs : List Row) (ms : List Bool) (q : ℕ) : Type 0 where
  place : ℕ
  stays : Stays ms place
  falls : fall (i + place) ≡ 0 → ⊥
  from : start_of all marked i at rs ms place + first ≤ q + 24
  before : q + 24 < start_of all marked i at rs ms place + first + 4

module _ {all : List Row} {marked : List Bool} {fall : ℕ → ℕ} {first i at : ℕ} {rs : List Row} {ms : List Bool} {q : ℕ} (r : Row) where
  in_first : (fall i ≡ 0 → ⊥) → at + first ≤ q → q < at + first + 4 → Falling all marked fall first i at (r ∷ rs) (false ∷ ms) q
  unfolding laid_out renumbered_from unmarked
  in_first f h k = record { place = 0; stays = refl; falls = rw (add-zero i) f; from = omega arith; before = omega arith }

  in_later : (mark : Bool) → Falling all marked fall first (suc i) (cond mark at (at + own_bytes r)) rs ms q
      → Falling all marked fall first i at (r ∷ rs) (mark ∷ ms) q
  unfolding laid_out renumbered_from unmarked
  in_later mark f =
      let n : ℕ = f.place in
      let e = start mark n in
      record { place = suc n; stays = f.stays; falls = rw (onward i n) f.falls; from = rw e f.from; before = rw e f.before }
    where
      start : (mark : Bool) (n : ℕ)
          → start_of all marked i at (r ∷ rs) (mark ∷ ms) (suc n) ≡ start_of all marked (suc i) (cond mark at (at + own_bytes r)) rs ms n
      start true n = refl
      start false n = refl

module _ (s : List ℕ) (all : List Row) (marked : List Bool) where
  abbrev SizeFalls : (i at : ℕ) → List Row → List Bool → ℕ → Type 0
  SizeFalls = Falling all marked (size_fall s all marked) 4

  abbrev CountFalls : (i at : ℕ) → List Row → List Bool → ℕ → Type 0
  CountFalls = Falling all marked (count_fall all marked) 20

  length_along : (i : ℕ) (rs : List Row) (ms : List Bool) → Each (LiesIn s) rs
      → length (nodes_left s all marked i rs ms) ≡ length (flat_map (λ r. header_in s r ++ body_of s r) (unmarked_of rs ms))
  unfolding nodes_left unmarked_of flat_map
  length_along i [] ms h = refl
  length_along i (r ∷ rs) [] h = refl
  length_along i (r ∷ rs) (true ∷ ms) h = length_along (suc i) rs ms h.1
  length_along i (r ∷ rs) (false ∷ ms) h =
      let long = (lengths s r h.0).0 in
      simp (length-append, length_reduced_header (header_in s r) long, long) (omega (arith, length_along (suc i) rs ms h.1))

  along : {P : ℕ → Type 0} → AreBytes s → (i at : ℕ) (rs : List Row) (ms : List Bool) → Each (LiesIn s) rs
      → ((q : ℕ) → SizeFalls i at rs ms q → P q) → ((q : ℕ) → CountFalls i at rs ms q → P q)
      → Alike P at (nodes_left s all marked i rs ms) (flat_map (λ r. header_in s r ++ body_of s r) (unmarked_of rs ms))
  unfolding nodes_left unmarked_of flat_map
  along bytes i at [] ms h f g = nil
  along bytes i at (r ∷ rs) [] h f g = nil
  along bytes i at (r ∷ rs) (true ∷ ms) h f g =
      along bytes (suc i) at rs ms h.1 (λ q k. f q (in_later r true k)) (λ q k. g q (in_later r true k))
  along bytes i at (r ∷ rs) (false ∷ ms) h f g =
      let header : List ℕ = header_in s r in
      let long = lengths s r h.0 in
      let x : ℕ = size_fall s all marked i in
      let y : ℕ = count_fall all marked i in
      let good = bytes_take 24 (drop (r.start - 24) s) (bytes_drop (r.start - 24) s bytes) in
      rw append_assoc
      (append
      (header_alike header long.0 at good x y (λ k q l u. f q (in_first r k l u)) (λ k q l u. g q (in_first r k l u)))
      (omega (arith, length_reduced_header header long.0 x y))
      (append (same {n = at + 24} (body_of s r)) (omega (arith, long.1))
      (along bytes (suc i) (at + own_bytes r) rs ms h.1 (λ q k. f q (in_later r false k)) (λ q k. g q (in_later r false k)))))

-- ---- the files
pub same_length_lem : (s : List ℕ) (rows : List Row) (marks : List Bool) → Each (LiesIn s) rows
    → length (file_left s rows marks) ≡ length (pieces s rows marks)
unfolding file_left
same_length_lem s rows marks h = simp length-append (ap (λ n. length (take 16 s) + n) (length_along s rows marks 0 rows marks h))

-- a number that falls does so by some marked row
in_header : {Related : (row marked : ℕ) → Type 0} (first : ℕ) (rows : List Row) (marks : List Bool) (x : ℕ → ℕ → Row → ℕ)
    → ((i j : ℕ) → (x i j (get_or rows j blank) ≡ 0 → ⊥) → Related i j)
    → (at : ℕ) → Falling rows marks (λ i. sum_over_marked (x i) 0 rows marks) first 0 16 rows marks at → InHeader Related first rows marks at
unfolding rows_left
in_header first rows marks x related at f =
    let m = some_marked (x f.place) 0 rows marks (rw (zero-add f.place) at f.falls) in
    record {
      row = f.place;
      marked = m.place;
      stays = f.stays;
      is_marked = m.is_marked;
      related = related f.place m.place (rw (zero-add m.place) at m.counts);
      from = f.from;
      before = f.before;
    }

pub differ : (s : List ℕ) (rows : List Row) (marks : List Bool) → AreBytes s → 16 ≤ length s → Each (LiesIn s) rows
    → (at : ℕ) → (get_or (file_left s rows marks) at 0 ≡ get_or (pieces s rows marks) at 0) ⊎ (InSize rows marks at ⊎ InCount rows marks at)
unfolding file_left
differ s rows marks bytes long h at =
    at_place {P = λ q. InSize rows marks q ⊎ InCount rows marks q}
    (append (same {n = 0} (take 16 s)) (omega (arith, length-take-le 16 s long))
    (along s rows marks bytes 0 16 rows marks h (λ q f. inl (in_size q f)) (λ q f. inr (in_count q f))))
    at at (omega arith)
  where
    in_size : (q : ℕ) → SizeFalls s rows marks 0 16 rows marks q → InSize rows marks q
    in_size =
        in_header 4 rows marks (λ i j r. cond (is_around rows (length rows) i j) (size_in s r) 0)
        (λ i j. holds (is_around rows (length rows) i j) (size_in s (get_or rows j blank)))

    in_count : (q : ℕ) → CountFalls s rows marks 0 16 rows marks q → InCount rows marks q
    in_count =
        in_header 20 rows marks (λ i j r. cond (eqb r.parent i) 1 0)
        (λ i j k. let p = (get_or rows j blank).parent in eqb-true p i (holds (eqb p i) 1 k))
