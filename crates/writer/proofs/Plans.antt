-- A plan that is judged right: its bytes are the encoding of its forest, which is well-formed, and its rows are the forest's,
-- placed anew.
use Prim.Native.Nat.{ℕ, suc, ◌+◌, ◌-◌, ◌^◌, ◌≤◌, ◌<◌}
use native.Mathlib.Omega.{arith}
use mathlib.Core.Path.{◌≡◌, refl, ap, sym, subst, ◌∙◌}
use mathlib.Core.List.{List, [], ◌∷◌, ◌++◌, map, append_assoc, append-nil}
use lib.Dec.{eqb}
use lib.ListN.{length, take, drop, length-append}
use borrow.Author.Tests.{eqb-true, eqb-false}
use Rattle.le.specs.Le.{AreBytes}
use Rattle.le.proofs.Laws.{bytes_take, bytes_drop}
use Rattle.base.proofs.Tests.{by_test}
use Rattle.kinds.specs.Kinds.{root, is_known}
use Rattle.table.specs.declared.Row.{Row}
use Rattle.table.specs.Table.{no_parent}
use Rattle.format.proofs.Rows.{not_outside, length_body, part, length_rows}
use Rattle.format.proofs.Bodies.{exactly_good}
use Rattle.format.specs.Forest.{count, header, encode, file_header, file_of}
use Rattle.format.specs.Rows.{rows_of, hash_of, body_of, own_bytes}
use Rattle.base.specs.Lists.{Each}
use Rattle.format.specs.Layout.{WellFormed, WellFormedFile, Few, InBytes}
use Rattle.base.proofs.Lists.{each_both, each_map}
use Rattle.format.proofs.Headers.{length_header, length_file_header}
use Rattle.plan.specs.Plan.{plan_refusal}
use Rattle.emit.specs.Emission.{node_size, nodes_bytes, roots, file_bytes}
use Rattle.emit.proofs.Whole.{length_file_bytes}
use Rattle.writer.specs.Forest.{nodes_under, forest_of, laid_out}
use Rattle.writer.proofs.Under.{count_under_lem, under_own, under_other, nothing_under, bytes_first}
use Rattle.writer.proofs.Paths.{onward, Right, Older, Distinct, distinct_onward, older_onward}
use Rattle.writer.proofs.Order.{Counts, bytes_along, bytes_along_lem, Low, Whole, none_laid, first_laid, rows_along_lem}
use Rattle.writer.proofs.Judged.{Parents, Fitting, Named, judged_parts, parents_right, parents_roots, roots_named, named_counts}

-- ---- well-formed nodes

-- a row's numbers are of 32 bits
pub record Wide (r : Row) : Type 0 where
  pub kind : r.kind < 256 ^ 4
  pub low : r.low < 256 ^ 4
  pub high : r.high < 256 ^ 4
  pub properties : r.properties < 256 ^ 4
  pub children : r.children < 256 ^ 4

wide_hash : (r : Row) → Wide r → hash_of r < 256 ^ 8
wide_hash r w = omega (arith, w.low, w.high)

pub bytes_body : (s : List ℕ) (r : Row) → AreBytes s → AreBytes (body_of s r)
bytes_body s r h = bytes_take (r.end - r.start) (drop r.start s) (bytes_drop r.start s h)

pub under_well_formed : (s : List ℕ) (k : ℕ) (path : List ℕ) (rs : List Row) → Right k path rs → Distinct path → Each (Older k) path → k + length rs ≤ 1024 → Counts k rs
    → AreBytes s → Each Wide rs → Each (Fitting s) rs → length (nodes_bytes s k rs) ≤ 16777216 → (p : ℕ) → WellFormed (nodes_under s k rs p)
under_well_formed s k path [] w d o few c bytes wide fit short p = rw (nothing_under s k p) tt
under_well_formed s k path (r ∷ rs) w d o few c bytes wide fit short p =
    let body = body_of s r in
    let later = nodes_under s (suc k) rs in
    let long : length (nodes_bytes s k (r ∷ rs)) ≡ 24 + length body + length (nodes_bytes s (suc k) rs)
    = ap length (bytes_first s k r rs) ∙ simp (length-append, length_header) (omega arith) in
    let d' = distinct_onward k path r rs w (omega (arith, few)) d o in
    let o' = older_onward k path r rs w o in
    let ih = under_well_formed s (suc k) (onward k r w.1) rs w.3 d' o' (omega (arith, few)) c.1 bytes wide.1 fit.1 (omega (arith, long, short)) in
    let along = bytes_along_lem s (suc k) (onward k r w.1) rs w.3 d' o' (omega (arith, few)) c.1 in
    let own = bytes_body s r bytes in
    by_test (eqb r.parent p)
    (λ t. rw (under_own s k r rs p (eqb-true r.parent p t))
    (by_test (is_known r.kind)
    (λ u.
    let children : r.children ≡ count (later k) = c.0 u ∙ sym (count_under_lem s (suc k) rs k) in
    let below : length (nodes_bytes s (suc k) rs) ≡ length (encode (later k)) + length (bytes_along later (r.parent ∷ w.1))
    = ap length (rw u at along) ∙ length-append (encode (later k)) (bytes_along later (r.parent ∷ w.1)) in
    rw u (
      u,
      (wide.0.kind, omega (arith, long, short, below), wide_hash r wide.0, wide.0.properties, subst (λ n. n < 256 ^ 4) children wide.0.children),
      own,
      exactly_good r.properties (body_of s r) (bytes_body s r bytes) (fit.0.1 u),
      ih k,
      ih p,
    ))
    (λ u. rw u (
      u,
      (wide.0.kind, omega (arith, long, short), wide_hash r wide.0, wide.0.properties, wide.0.children),
      own,
      ih p,
    ))))
    (λ t. rw (under_other s k r rs p (eqb-false r.parent p t)) (ih p))

-- ---- bodies, where they are laid
pub laid_bodies : (s file pre : List ℕ) (k at : ℕ) (rs : List Row) → Each (Whole s) rs → file ≡ pre ++ nodes_bytes s k rs → at ≡ length pre
    → map (body_of file) (laid_out at rs) ≡ map (body_of s) rs
laid_bodies s file pre k at [] w e a = rw (none_laid at)
laid_bodies s file pre k at (r ∷ rs) w e a =
    let body = body_of s r in
    let hd = header r.kind (node_size s k r rs) (hash_of r) r.properties r.children in
    let rest = nodes_bytes s (suc k) rs in
    let e0 = e ∙ ap (λ z. pre ++ z) (bytes_first s k r rs) in
    let e1 : file ≡ (pre ++ hd) ++ (body ++ rest) = e0 ∙ simp append_assoc in
    let e2 : file ≡ ((pre ++ hd) ++ body) ++ rest = e0 ∙ simp append_assoc in
    let a1 : at + 24 ≡ length (pre ++ hd) = simp (length-append, length_header) (omega arith) in
    let a2 : at + own_bytes r ≡ length ((pre ++ hd) ++ body) = simp (length-append, length_header) (omega (arith, w.0)) in
    let stop : at + own_bytes r - (at + 24) ≡ at + 24 + length body - (at + 24) = omega (arith, w.0) in
    let first = ap (λ n. take n (drop (at + 24) file)) stop ∙ part file (pre ++ hd) body rest (at + 24) e1 a1 in
    let others = laid_bodies s file ((pre ++ hd) ++ body) (suc k) (at + own_bytes r) rs w.1 e2 a2 in
    rw (first_laid at r rs) (ap (λ z. z ∷ map (body_of file) (laid_out (at + own_bytes r) rs)) first ∙ ap (λ z. body ∷ z) others)

pub length_laid : (at : ℕ) (rs : List Row) → length (laid_out at rs) ≡ length rs
unfolding laid_out
length_laid at [] = refl
length_laid at (r ∷ rs) = ap suc (length_laid (at + own_bytes r) rs)

-- a row that is not outside has all of its body
pub fitting_inside : (s : List ℕ) (r : Row) → Fitting s r → InBytes s r
fitting_inside s r f = not_outside s r f.0

pub whole_body : (s : List ℕ) (r : Row) → InBytes s r → Whole s r
whole_body s r inside = length_body s r inside.1

roots_few : (rs : List Row) → roots rs ≤ length rs
unfolding roots
roots_few [] = omega arith
roots_few (r ∷ rs) = let ih = roots_few rs in by_test (eqb r.kind root) (λ t. rw t (omega (arith, ih))) (λ t. rw t (omega (arith, ih)))

-- ---- the whole plan
module _ (flags : ℕ) (s : List ℕ) (rs : List Row) (few : length rs ≤ 1024) (right : (plan_refusal s rs).number ≡ 0) where
  parts : Parents 0 [] rs × Each (Fitting s) rs × Named rs 0 rs
  parts = judged_parts s rs right

  all_few : 0 + length rs ≤ 1024
  all_few = omega (arith, few)

  the_path : Right 0 (no_parent ∷ []) rs
  the_path = parents_right 0 [] rs parts.0 tt all_few

  distinct : Distinct (no_parent ∷ [])
  distinct = (tt, tt)

  older : Each (Older 0) (no_parent ∷ [])
  older = (λ b. omega arith, tt)

  counts : Counts 0 rs
  counts = (named_counts rs 0 (no_parent ∷ []) rs the_path older all_few (λ j a b. refl)).0 parts.2

  nodes_bytes_lem : nodes_bytes s 0 rs ≡ encode (forest_of s rs)
  nodes_bytes_lem = bytes_along_lem s 0 (no_parent ∷ []) rs the_path distinct older all_few counts ∙ append-nil (encode (forest_of s rs))

  root_count : roots rs ≡ count (forest_of s rs)
  root_count = roots_named rs (parents_roots 0 [] rs parts.0 tt all_few) ∙ sym (count_under_lem s 0 rs no_parent)

  pub plan_bytes : file_bytes flags s rs ≡ file_of flags (forest_of s rs)
  unfolding file_bytes file_of
  plan_bytes = rw (root_count, nodes_bytes_lem)

  bodies_whole : Each (Whole s) rs
  bodies_whole = each_map (λ r h. whole_body s r (fitting_inside s r h)) rs parts.1

  pub plan_rows_lem : Each Low rs → rows_of (forest_of s rs) ≡ laid_out 16 rs
  plan_rows_lem low =
      sym (append-nil (rows_of (forest_of s rs)))
      ∙ rows_along_lem s 0 (no_parent ∷ []) rs the_path distinct older all_few counts ((each_both Low (Whole s) rs).0 (low, bodies_whole)) 16

  pub plan_bodies : map (body_of (file_bytes flags s rs)) (laid_out 16 rs) ≡ map (body_of s) rs
  unfolding file_bytes
  plan_bodies = laid_bodies s (file_bytes flags s rs) (file_header (roots rs) flags) 0 16 rs bodies_whole refl (sym (length_file_header (roots rs) flags))

  pub plan_few : Each Low rs → Few (forest_of s rs)
  plan_few low =
      let long = sym (length_rows (forest_of s rs) no_parent 0 16) ∙ ap length (plan_rows_lem low) ∙ length_laid 16 rs in
      omega (arith, long, few)

  pub plan_well_formed : flags < 256 ^ 4 → AreBytes s → Each Wide rs → length (file_bytes flags s rs) ≤ 16777216 → WellFormedFile flags (forest_of s rs)
  plan_well_formed fl bytes wide short = (
    fl,
    subst (λ n. n < 256 ^ 4) root_count (omega (arith, roots_few rs, few)),
    under_well_formed s 0 (no_parent ∷ []) rs the_path distinct older all_few counts bytes wide parts.1
        (omega (arith, short, length_file_bytes flags s rs)) no_parent,
  )
