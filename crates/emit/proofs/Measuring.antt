-- Sizes in one pass from the last row to the first: what the numbers tell when the rows from row i on are passed.
use Prim.Native.Nat.{ℕ, zero, suc, ◌+◌, ◌≤◌, ◌<◌}
use native.Mathlib.Numerals.{add-one}
use native.Mathlib.Omega.{arith}
use mathlib.Core.Path.{◌≡◌, refl, sym, ap, subst, ◌∙◌}
use mathlib.Core.List.{List, ◌∷◌}
use lib.Dec.{eqb}
use lib.ListN.{length, get_or, set, length-set}
use lib.Seq.{get_or-set_same, get_or-set_other}
use borrow.Author.Tests.{eq-eqb, ne_eqb, eqb-true, eqb-false}
use Rattle.base.proofs.Tests.{by_test}
use Rattle.kinds.specs.Kinds.{root}
use Rattle.table.specs.declared.Row.{Row}
use Rattle.table.specs.Table.{row_at, rows_at}
use Rattle.emit.specs.Emission.{sizes_under, node_size, nodes_bytes, roots}
use Rattle.emit.specs.Private.{Sized}
use Rattle.table.proofs.Rests.{rest, rest_all, rest_next, rest_none}
use Rattle.emit.proofs.Sizes.{own, owns, length_nodes_bytes, sized_none, sized_own, sized_other, under_owns, size_owns}

-- an earlier row's number tells the sizes under it so far, and a passed row's its size
abbrev pub Measuring : (zs s t : List ℕ) (n i : ℕ) → Type 0
Measuring zs s t n i =
    ((p : ℕ) → p < i → get_or zs p 0 ≡ sizes_under s p i (rest t n i))
    × ((p : ℕ) → i ≤ p → p < n → get_or zs p 0 ≡ node_size s p (row_at t p) (rest t n (suc p)))

-- ---- begun
module _ (s t : List ℕ) (n : ℕ) where
  pub measuring_begun : (zs : List ℕ) → ((p : ℕ) → get_or zs p 0 ≡ 0) → Measuring zs s t n n
  measuring_begun zs h =
      let none = rest_none t n n (omega arith) in
      (λ p b. h p ∙ rw none (sym (sized_none s p n)), λ p b d. absurd (omega arith))

  pub owns_begun : owns s (rest t n n) ≡ 0
  unfolding owns
  owns_begun = rw (rest_none t n n (omega arith))

pub roots_begun : (t : List ℕ) (n : ℕ) → roots (rest t n n) ≡ 0
unfolding roots
roots_begun t n = rw (rest_none t n n (omega arith))

-- ---- ended
module _ (s t : List ℕ) (n : ℕ) where
  pub measuring_ended : (zs : List ℕ) (i : ℕ) → i ≤ 0 → Measuring zs s t n i → Sized zs s t n
  measuring_ended zs i z m p b = m.1 p (omega arith) b ∙ rw (add-one p)

  pub owns_rest : (j : ℕ) → j ≤ n → owns s (rest t n j) ≤ owns s (rows_at t 0 n)
  unfolding owns
  owns_rest zero h = rw (rest_all t n) (omega arith)
  owns_rest (suc j) h = omega (arith, owns_rest j (omega arith), ap (owns s) (rest_next t n j (omega arith)))

  -- what is too much of the rest is too much of all
  pub rest_over : (j : ℕ) → j ≤ n → 16777216 < 16 + owns s (rest t n j) → 16777216 < 16 + length (nodes_bytes s 0 (rows_at t 0 n))
  rest_over j h o = omega (arith, owns_rest j h, length_nodes_bytes s 0 (rows_at t 0 n))

-- ---- the row in turn

-- it is row j of n, and has o own bytes; the rows from row i on, which is the next, are passed
pub record Turn (s t : List ℕ) (n : ℕ) (zs : List ℕ) (i j : ℕ) (r : Row) (o : ℕ) : Type 0 where
  pub next : i ≡ suc j
  pub here : j < n
  pub inside : j < length zs
  pub passed : Measuring zs s t n i
  pub row : r ≡ row_at t j
  pub bytes : o ≡ own s r

module _ {s t : List ℕ} {n : ℕ} {zs : List ℕ} {i j : ℕ} {r : Row} {o : ℕ} (x : Turn s t n zs i j r o) where
  abbrev later : List Row
  later = rest t n (suc j)

  measured : Measuring zs s t n (suc j)
  measured = subst (λ k. Measuring zs s t n k) x.next x.passed

  more : rest t n j ≡ r ∷ later
  more = rest_next t n j x.here ∙ ap (λ y. y ∷ later) (sym x.row)

  pub owns_more : owns s (rest t n j) ≡ o + owns s (rest t n i)
  unfolding owns
  owns_more = rw (more, x.bytes, x.next)

  pub root_more : r.kind ≡ root → roots (rest t n j) ≡ roots (rest t n i) + 1
  unfolding roots
  root_more k = rw (more, eq-eqb r.kind root k, x.next) (sym (add-one (roots later)))

  pub root_other : (r.kind ≡ root → ⊥) → roots (rest t n j) ≡ roots (rest t n i)
  unfolding roots
  root_other k = rw (more, ne_eqb r.kind root k, x.next)

  -- its size, which is put at its place
  abbrev size : ℕ
  size = o + get_or zs j 0

  abbrev put : List ℕ
  put = set zs j size

  size_is : size ≡ node_size s j r later
  size_is = omega (arith, measured.0 j (omega arith))

  pub size_fits : size ≤ owns s (rest t n j)
  size_fits = rw more (omega (arith, size_is, size_owns s j r later))

  put_passed : (p : ℕ) → j ≤ p → p < n → get_or put p 0 ≡ node_size s p (row_at t p) (rest t n (suc p))
  put_passed p a d =
      by_test
      (eqb p j)
      (λ q. rw (eqb-true p j q) (get_or-set_same zs j size 0 x.inside ∙ size_is ∙ ap (λ y. node_size s j y later) x.row))
      (λ q.
      let other = eqb-false p j q in
      get_or-set_other zs j p size 0 other ∙ measured.1 p (omega (arith, other)) d)

  put_before : (p : ℕ) → p < j → (r.parent ≡ p → ⊥) → get_or put p 0 ≡ sizes_under s p j (rest t n j)
  put_before p a k =
      get_or-set_other zs j p size 0 (λ q. omega arith) ∙ measured.0 p (omega arith) ∙ rw more (sym (sized_other s p j r later k))

  -- no earlier row is its parent
  pub measuring_top : (r.parent < j → ⊥) → {new : List ℕ} → new ≡ put → Measuring new s t n j
  measuring_top k g = rw g (λ p a. put_before p a (λ q. k (omega arith)), put_passed)

  -- its parent's number grows
  module _ (k : r.parent < j) where
    abbrev sum : ℕ
    sum = get_or put r.parent 0 + size

    sum_is : sum ≡ sizes_under s r.parent j (rest t n j)
    sum_is = rw more
        (omega (
          arith,
          sized_own s r.parent j r later refl,
          measured.0 r.parent (omega arith),
          size_is,
          get_or-set_other zs j r.parent size 0 (λ q. omega arith),
        ))

    pub sum_fits : sum ≤ owns s (rest t n j)
    sum_fits = omega (arith, sum_is, under_owns s r.parent j (rest t n j) k)

    parent_inside : r.parent < length put
    parent_inside = omega (arith, length-set zs j size)

    grown : Measuring (set put r.parent sum) s t n j
    grown = (
      λ p a.
          by_test
          (eqb p r.parent)
          (λ q. rw (eqb-true p r.parent q) (get_or-set_same put r.parent sum 0 parent_inside ∙ sum_is))
          (λ q.
          let other = eqb-false p r.parent q in
          get_or-set_other put r.parent p sum 0 other ∙ put_before p a (λ g. other (sym g))),
      λ p a d. get_or-set_other put r.parent p sum 0 (λ q. omega arith) ∙ put_passed p a d,
    )

    pub measuring_under : {new : List ℕ} → new ≡ set put r.parent sum → Measuring new s t n j
    measuring_under g = rw g grown
