-- The nodes under a parent: how many they are, where there are none, and how long their bytes are.
use Prim.Native.Nat.{ℕ, suc}
use native.Mathlib.Omega.{arith}
use mathlib.Core.Path.{◌≡◌, refl, ap, ◌∙◌}
use mathlib.Core.List.{List, [], ◌∷◌, ◌++◌}
use lib.Dec.{eqb}
use lib.ListN.{length}
use borrow.Author.Tests.{eq-eqb, ne_eqb}
use Rattle.base.proofs.Tests.{by_test}
use Rattle.kinds.specs.Kinds.{is_known}
use Rattle.table.specs.declared.Row.{Row}
use Rattle.table.specs.Counts.{count_under}
use Rattle.format.specs.Forest.{Forest, end, known, unknown, count, encode, header}
use Rattle.plan.specs.Plan.{naming}
use Rattle.format.specs.Rows.{hash_of, body_of}
use Rattle.emit.specs.Emission.{sizes_under, node_size, nodes_bytes}
use Rattle.writer.specs.Forest.{node_of, nodes_under}

pub count_under_lem : (s : List ℕ) (k : ℕ) (rs : List Row) (p : ℕ) → count (nodes_under s k rs p) ≡ naming rs p
unfolding nodes_under count_under
count_under_lem s k [] p = refl
count_under_lem s k (r ∷ rs) p =
    by_test (eqb r.parent p)
    (λ t. rw t (by_test (is_known r.kind) (λ u. rw u (ap suc (count_under_lem s (suc k) rs p))) (λ u. rw u (ap suc (count_under_lem s (suc k) rs p)))))
    (λ t. rw t (count_under_lem s (suc k) rs p))

pub under_other : (s : List ℕ) (k : ℕ) (r : Row) (rs : List Row) (p : ℕ) → (r.parent ≡ p → ⊥) → nodes_under s k (r ∷ rs) p ≡ nodes_under s (suc k) rs p
unfolding nodes_under
under_other s k r rs p n = rw (ne_eqb r.parent p n)

pub under_own : (s : List ℕ) (k : ℕ) (r : Row) (rs : List Row) (p : ℕ) → r.parent ≡ p → nodes_under s k (r ∷ rs) p ≡ node_of s r (nodes_under s (suc k) rs k) (nodes_under s (suc k) rs p)
unfolding nodes_under
under_own s k r rs p e = rw (eq-eqb r.parent p e)

count_none : (f : Forest) → count f ≡ 0 → f ≡ end
count_none end e = refl
count_none (known k h p body kids next) e = absurd (omega (arith, e))
count_none (unknown k h p c rest next) e = absurd (omega (arith, e))

pub none_named : (s : List ℕ) (k : ℕ) (rs : List Row) (p : ℕ) → naming rs p ≡ 0 → nodes_under s k rs p ≡ end
none_named s k rs p e = count_none (nodes_under s k rs p) (count_under_lem s k rs p ∙ e)

-- the sizes of what is under a parent
pub size_none : (s : List ℕ) (k p : ℕ) → sizes_under s p k [] ≡ length (encode (nodes_under s k [] p))
unfolding sizes_under nodes_under
size_none s k p = refl

pub none_sized : (s : List ℕ) (k : ℕ) (rs : List Row) (p : ℕ) → naming rs p ≡ 0 → sizes_under s p k rs ≡ 0
unfolding count_under sizes_under
none_sized s k [] p e = refl
none_sized s k (r ∷ rs) p e =
    by_test (eqb r.parent p)
    (λ t. absurd (omega (arith, rw t at e)))
    (λ t. rw t (omega (arith, none_sized s (suc k) rs p (rw t at e))))

-- ---- the definitions, opened
pub nothing_under : (s : List ℕ) (k p : ℕ) → nodes_under s k [] p ≡ end
unfolding nodes_under
nothing_under s k p = refl

pub no_bytes : (s : List ℕ) (k : ℕ) → nodes_bytes s k [] ≡ []
unfolding nodes_bytes
no_bytes s k = refl

pub bytes_first : (s : List ℕ) (k : ℕ) (r : Row) (rs : List Row)
    → nodes_bytes s k (r ∷ rs) ≡ header r.kind (node_size s k r rs) (hash_of r) r.properties r.children ++ (body_of s r ++ nodes_bytes s (suc k) rs)
unfolding nodes_bytes
bytes_first s k r rs = refl
