-- Laws of the hashes of the first rows of a table: one more row; those of all kinds together; those that stand after others.
use Prim.Native.Nat.{ℕ, zero, suc, ◌+◌, ◌-◌, ◌≤◌, ◌<◌}
use native.Mathlib.Nat.{zero-add, add-zero}
use native.Mathlib.Omega.{arith}
use mathlib.Core.Path.{◌≡◌, refl, ap, sym, ◌∙◌}
use mathlib.Core.List.{List, [], ◌∷◌, ◌++◌, append-nil, append_assoc}
use lib.Dec.{eqb}
use lib.ListN.{length, get_or, set, take, drop, length-append, length-take, length-drop, get_or-append}
use lib.Seq.{sets, sets-eq, length-sets, take_at, drop_at, get_or-take, get_or-drop, ext_get_or, length-take-le}
use borrow.Rule.Slice.PartMut.{mid_of, post_of, put_mid, same_len_mid}
use borrow.Author.Tests.{eq-eqb, ne_eqb, eqb-true}
use Rattle.base.proofs.Tests.{by_test}
use Rattle.base.proofs.Stores.{sets_next, get_d_sets_other}
use Rattle.kinds.specs.Kinds.{mesh, bone, material, file}
use Rattle.table.specs.declared.Row.{Row}
use Rattle.table.specs.Table.{row_at, rows_at}
use Rattle.format.specs.Rows.{hash_of}
use Rattle.links.specs.Private.{hashes_of, occurrences, Sorts, between, Collected}

rows_at_add : (t : List ℕ) (k m n : ℕ) → rows_at t k (m + n) ≡ rows_at t k m ++ rows_at t (k + m) n
unfolding rows_at
rows_at_add t k zero n = rw (zero-add, add-zero)
rows_at_add t k (suc m) n =
    let e : suc m + n ≡ suc (m + n) = omega arith in
    let f : suc k + m ≡ k + suc m = omega arith in
    rw (e, ← f) (ap (λ rs. row_at t k ∷ rs) (rows_at_add t (suc k) m n))

hashes_of_append : (kind : ℕ) (qs rs : List Row) → hashes_of kind (qs ++ rs) ≡ hashes_of kind qs ++ hashes_of kind rs
unfolding hashes_of
hashes_of_append kind [] rs = refl
hashes_of_append kind (q ∷ qs) rs =
    by_test
    (eqb q.kind kind)
    (λ e. rw e (ap (λ hs. hash_of q ∷ hs) (hashes_of_append kind qs rs)))
    (λ e. rw e (hashes_of_append kind qs rs))

-- ---- hashes put one after the other: before each turn those of the first i rows
pub record Gathered (t : List ℕ) (kind i from : ℕ) (old out : List ℕ) (n : ℕ) : Type 0 where
  pub count : n ≡ from + length (hashes_of kind (rows_at t 0 i))
  pub stored : out ≡ sets old from (hashes_of kind (rows_at t 0 i))

pub gathered_size : {t : List ℕ} {kind i from : ℕ} {old out : List ℕ} {n : ℕ} → Gathered t kind i from old out n → length out ≡ length old
gathered_size {t} {kind} {i} {from} {old} g = ap length g.stored ∙ length-sets old from (hashes_of kind (rows_at t 0 i))

module _ (t : List ℕ) (kind : ℕ) where
  pub gathered_none : (from : ℕ) (old : List ℕ) → Gathered t kind 0 from old old from
  unfolding hashes_of rows_at
  gathered_none from old = record { count = omega arith; stored = refl }

  module _ (i : ℕ) where
    hashes_more : hashes_of kind (rows_at t 0 (i + 1)) ≡ hashes_of kind (rows_at t 0 i) ++ hashes_of kind (row_at t i ∷ [])
    unfolding rows_at
    hashes_more = rw (rows_at_add t 0 i 1, zero-add) (hashes_of_append kind (rows_at t 0 i) (row_at t i ∷ []))

    -- the first rows have no more of them than all
    hashes_fit : (nodes : ℕ) → i < nodes → length (hashes_of kind (rows_at t 0 (i + 1))) ≤ length (hashes_of kind (rows_at t 0 nodes))
    hashes_fit nodes h =
        let m : ℕ = nodes - (i + 1) in
        let e : nodes ≡ i + 1 + m = omega arith in
        let all : hashes_of kind (rows_at t 0 nodes) ≡ hashes_of kind (rows_at t 0 (i + 1)) ++ hashes_of kind (rows_at t (0 + (i + 1)) m)
        = ap (λ k. hashes_of kind (rows_at t 0 k)) e ∙ ap (hashes_of kind) (rows_at_add t 0 (i + 1) m)
        ∙ hashes_of_append kind (rows_at t 0 (i + 1)) (rows_at t (0 + (i + 1)) m) in
        omega (arith, simp length-append at (ap length all))

    module _ {r : Row} (row : r ≡ row_at t i) where
      one_more : r.kind ≡ kind → hashes_of kind (rows_at t 0 (i + 1)) ≡ hashes_of kind (rows_at t 0 i) ++ hash_of r ∷ []
      unfolding hashes_of
      one_more e = rw (hashes_more, ← row, eq-eqb r.kind kind e)

      -- the row is of the kind: there is room for its hash, and it is put
      pub gathered_room : (nodes from n : ℕ) (old out : List ℕ) → i < nodes → r.kind ≡ kind → Gathered t kind i from old out n
          → from + length (hashes_of kind (rows_at t 0 nodes)) ≤ length old → n < length out
      gathered_room nodes from n old out h e g l =
          omega (arith, gathered_size g, g.count, hashes_fit nodes h, simp length-append at (ap length (one_more e)))

      pub gathered_more : (from n hash : ℕ) (old out : List ℕ) → r.kind ≡ kind → hash ≡ hash_of r → Gathered t kind i from old out n
          → Gathered t kind (i + 1) from old (set out n hash) (n + 1)
      gathered_more from n hash old out e f g = record {
        count = omega (arith, g.count, simp length-append at (ap length (one_more e)));
        stored =
            ap (λ k. set out k hash) g.count ∙ sets_next old from (hashes_of kind (rows_at t 0 i)) hash refl g.stored
            ∙ ap (sets old from) (ap (λ y. hashes_of kind (rows_at t 0 i) ++ y ∷ []) f ∙ sym (one_more e));
      }

      -- the row is of another kind
      pub gathered_same : (from n : ℕ) (old out : List ℕ) → (r.kind ≡ kind → ⊥) → Gathered t kind i from old out n
          → Gathered t kind (i + 1) from old out n
      unfolding hashes_of
      gathered_same from n old out ne g =
          let same : hashes_of kind (rows_at t 0 (i + 1)) ≡ hashes_of kind (rows_at t 0 i)
          = rw (hashes_more, ← row, ne_eqb r.kind kind ne) (append-nil (hashes_of kind (rows_at t 0 i))) in
          record { count = rw same g.count; stored = rw same g.stored }

-- ---- a row has one kind
pub hashes_room : (rs : List Row)
    → length (hashes_of material rs) + length (hashes_of mesh rs) + length (hashes_of bone rs) + length (hashes_of file rs) ≤ length rs
unfolding hashes_of
hashes_room [] = omega arith
hashes_room (r ∷ rs) =
    by_test (eqb r.kind material) (λ t. rw (eqb-true r.kind material t) (omega (arith, hashes_room rs)))
    (λ t. by_test (eqb r.kind mesh) (λ u. rw (eqb-true r.kind mesh u) (omega (arith, hashes_room rs)))
    (λ u. by_test (eqb r.kind bone) (λ v. rw (eqb-true r.kind bone v) (omega (arith, hashes_room rs)))
    (λ v. by_test (eqb r.kind file) (λ w. rw (t, u, v, w) (omega (arith, hashes_room rs)))
    (λ w. rw (t, u, v, w) (omega (arith, hashes_room rs))))))

-- ---- sorted where they stand
module _ (from : ℕ) (old hs : List ℕ) (room : from + length hs ≤ length old) {mid : List ℕ} {to : ℕ} (e : mid ≡ sets old from hs) (n : to ≡ from + length hs) where
  pub sorted_size : length mid ≡ length old
  sorted_size = ap length e ∙ length-sets old from hs

  gathered_part : between from to mid ≡ hs
  gathered_part =
      let first : length (take from old) ≡ from = length-take-le from old (omega arith) in
      let rest : drop from mid ≡ hs ++ drop (from + length hs) old
      = ap (drop from) (e ∙ sets-eq hs old from room ∙ append_assoc (take from old) hs (drop (from + length hs) old)) ∙ drop_at (take from old) (hs ++ drop (from + length hs) old) from first in
      ap (take (to - from)) rest ∙ take_at hs (drop (from + length hs) old) (to - from) (omega arith)

  -- the part that is lent comes back sorted
  pub collected : {part : List ℕ} → (length part ≡ length (mid_of from (to - from) mid)) × Sorts part (mid_of from (to - from) mid)
      → Collected from old (put_mid from (to - from) mid part) to hs
  collected {part} (l, s) =
      let first : length (take from mid) ≡ from = length-take-le from mid (omega (arith, sorted_size)) in
      let rest : List ℕ = part ++ post_of from (to - from) mid in
      let size : length part ≡ to - from = l ∙ ap length gathered_part ∙ omega arith in
      let stands : between from to (put_mid from (to - from) mid part) ≡ part
      = ap (take (to - from)) (drop_at (take from mid) rest from first) ∙ take_at part (post_of from (to - from) mid) (to - from) size in
      record {
        until = n;
        size = same_len_mid from (to - from) mid part l ∙ sorted_size;
        kept = λ i h.
            get_or-append (take from mid) rest 0 i (omega arith) ∙ get_or-take from mid i 0 h ∙ ap (λ o. get_or o i 0) e
            ∙ get_d_sets_other old from hs i 0 (λ k. absurd (omega arith));
        sorts = record {
          ascending = rw stands s.ascending;
          same = λ x. ap (occurrences x) stands ∙ s.same x ∙ ap (occurrences x) gathered_part;
        };
      }

-- ---- those of the four kinds, one after the other: what stands before others stays
still : (from to later : ℕ) (old out xs : List ℕ) → Sorts (between from to old) xs → to ≤ later → length out ≡ length old
    → ((i : ℕ) → i < later → get_or out i 0 ≡ get_or old i 0) → Sorts (between from to out) xs
still from to later old out xs s h l kept =
    let same : between from to out ≡ between from to old
    = ext_get_or 0 (between from to out) (between from to old) (simp (length-take, length-drop) (rw l))
    (λ i b.
    let k : i < to - from = omega (arith, simp (length-take, length-drop) at b) in
    get_or-take (to - from) (drop from out) i 0 k ∙ get_or-drop from out i 0 ∙ kept (from + i) (omega arith) ∙ sym (get_or-drop from old i 0)
    ∙ sym (get_or-take (to - from) (drop from old) i 0 k)) in
    rw same s

-- the hashes of the rows of each kind, in ascending order, which end at i, j, k and l
pub record AllCollected (rows : List Row) (out : List ℕ) (i j k l : ℕ) : Type 0 where
  pub places : (i ≤ j) × (j ≤ k) × (k ≤ l) × (l ≤ length out)
  pub materials : Sorts (between 0 i out) (hashes_of material rows)
  pub meshes : Sorts (between i j out) (hashes_of mesh rows)
  pub bones : Sorts (between j k out) (hashes_of bone rows)
  pub files : Sorts (between k l out) (hashes_of file rows)

pub all_collected : (rows : List Row) {a b c d out : List ℕ} {i j k l : ℕ} → length rows ≤ length a → Collected 0 a b i (hashes_of material rows)
    → Collected i b c j (hashes_of mesh rows) → Collected j c d k (hashes_of bone rows) → Collected k d out l (hashes_of file rows)
    → AllCollected rows out i j k l
all_collected rows {a} {b} {c} {d} {out} {i} {j} {k} {l} room ms ss bs fs =
    let ij : i ≤ j = omega (arith, ss.until) in
    let jk : j ≤ k = omega (arith, bs.until) in
    let twice : Sorts (between 0 i c) (hashes_of material rows) = still 0 i i b c (hashes_of material rows) ms.sorts (omega arith) ss.size ss.kept in
    let thrice : Sorts (between 0 i d) (hashes_of material rows) = still 0 i j c d (hashes_of material rows) twice ij bs.size bs.kept in
    let meshes : Sorts (between i j d) (hashes_of mesh rows) = still i j j c d (hashes_of mesh rows) ss.sorts (omega arith) bs.size bs.kept in
    record {
      places = (
        ij,
        jk,
        omega (arith, fs.until),
        omega (arith, hashes_room rows, ms.until, ss.until, bs.until, fs.until, ms.size, ss.size, bs.size, fs.size),
      );
      materials = still 0 i k d out (hashes_of material rows) thrice (omega arith) fs.size fs.kept;
      meshes = still i j k d out (hashes_of mesh rows) meshes jk fs.size fs.kept;
      bones = still j k k d out (hashes_of bone rows) bs.sorts (omega arith) fs.size fs.kept;
      files = fs.sorts;
    }
