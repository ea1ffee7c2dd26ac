-- Laws of sizes: the nodes' bytes are their own bytes together, and sizes under different parents do not pass them.
use Prim.Native.Nat.{ℕ, suc, ◌+◌, ◌≤◌, ◌<◌}
use native.Mathlib.Omega.{arith}
use mathlib.Core.Path.{◌≡◌, refl}
use mathlib.Core.Bool.{cond}
use mathlib.Core.List.{List, [], ◌∷◌, ◌++◌}
use lib.Dec.{eqb, ltb}
use lib.ListN.{length, length-append}
use borrow.Author.Tests.{eq-eqb, ne_eqb, eqb-true, eqb-false, lt-ltb, le-ltb, ltb-true}
use Rattle.base.proofs.Tests.{by_test}
use Rattle.table.specs.declared.Row.{Row}
use Rattle.format.specs.Forest.{header}
use Rattle.format.specs.Rows.{hash_of, body_of}
use Rattle.format.proofs.Headers.{length_header}
use Rattle.emit.specs.Emission.{sizes_under, node_size, nodes_bytes}

-- ---- own bytes: those of a node without its children
abbrev pub own : (s : List ℕ) → Row → ℕ
own s r = 24 + length (body_of s r)

-- of all rows together
unfoldable pub owns : (s : List ℕ) → List Row → ℕ
owns s [] = 0
owns s (r ∷ rs) = own s r + owns s rs

pub length_nodes_bytes : (s : List ℕ) (k : ℕ) (rs : List Row) → length (nodes_bytes s k rs) ≡ owns s rs
unfolding nodes_bytes owns
length_nodes_bytes s k [] = refl
length_nodes_bytes s k (r ∷ rs) =
    let h = header r.kind (node_size s k r rs) (hash_of r) r.properties r.children in
    let more = nodes_bytes s (suc k) rs in
    omega (
      arith,
      length-append h (body_of s r ++ more),
      length-append (body_of s r) more,
      length_header r.kind (node_size s k r rs) (hash_of r) r.properties r.children,
      length_nodes_bytes s (suc k) rs,
    )

-- ---- the sizes under a parent, of rows from row k on
pub sized_none : (s : List ℕ) (p k : ℕ) → sizes_under s p k [] ≡ 0
unfolding sizes_under
sized_none s p k = refl

pub sized_own : (s : List ℕ) (p k : ℕ) (r : Row) (rs : List Row) → r.parent ≡ p
    → sizes_under s p k (r ∷ rs) ≡ node_size s k r rs + sizes_under s p (suc k) rs
unfolding sizes_under
sized_own s p k r rs e = rw (eq-eqb r.parent p e)

pub sized_other : (s : List ℕ) (p k : ℕ) (r : Row) (rs : List Row) → (r.parent ≡ p → ⊥) → sizes_under s p k (r ∷ rs) ≡ sizes_under s p (suc k) rs
unfolding sizes_under
sized_other s p k r rs e = rw (ne_eqb r.parent p e) (omega arith)

-- the sizes under all parents before row m together
unfoldable below : (s : List ℕ) (m k : ℕ) → List Row → ℕ
below s m k [] = 0
below s m k (r ∷ rs) = let more = below s m (suc k) rs in cond (ltb r.parent m) (node_size s k r rs + more) more

-- parents before row m and a parent that is not are different
under_below : (s : List ℕ) (m p k : ℕ) (rs : List Row) → m ≤ p → sizes_under s p k rs + below s m k rs ≤ below s (suc p) k rs
unfolding below
under_below s m p k [] h = omega (arith, sized_none s p k)
under_below s m p k (r ∷ rs) h =
    let ih = under_below s m p (suc k) rs h in
    by_test
    (eqb r.parent p)
    (λ e.
    let q = eqb-true r.parent p e in
    rw (le-ltb r.parent m (omega arith), lt-ltb r.parent (suc p) (omega arith)) (omega (arith, ih, sized_own s p k r rs q)))
    (λ e.
    let q = eqb-false r.parent p e in
    let o = sized_other s p k r rs q in
    by_test
    (ltb r.parent m)
    (λ l. rw (l, lt-ltb r.parent (suc p) (omega (arith, ltb-true r.parent m l))) (omega (arith, ih, o)))
    (λ l. rw l
    (by_test (ltb r.parent (suc p)) (λ g. rw g (omega (arith, ih, o))) (λ g. rw g (omega (arith, ih, o))))))

below_owns : (s : List ℕ) (m k : ℕ) (rs : List Row) → m ≤ k → below s m k rs ≤ owns s rs
unfolding below owns
below_owns s m k [] h = omega arith
below_owns s m k (r ∷ rs) h =
    by_test
    (ltb r.parent m)
    (λ l. rw l (omega (arith, under_below s m k (suc k) rs h, below_owns s (suc k) (suc k) rs (omega arith))))
    (λ l. rw l (omega (arith, below_owns s m (suc k) rs (omega arith))))

-- so that no size passes the bytes of the rows
pub under_owns : (s : List ℕ) (p k : ℕ) (rs : List Row) → p < k → sizes_under s p k rs ≤ owns s rs
under_owns s p k rs h = omega (arith, under_below s 0 p k rs (omega arith), below_owns s (suc p) k rs h)

pub size_owns : (s : List ℕ) (k : ℕ) (r : Row) (rs : List Row) → node_size s k r rs ≤ owns s (r ∷ rs)
unfolding owns
size_owns s k r rs = omega (arith, under_owns s k (suc k) rs (omega arith))
