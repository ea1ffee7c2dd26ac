-- Where the rows of a forest lie: their bodies within its bytes, one after the other; their parents among the rows.
use Rattle.std.specs.Prelude.{Option, None}
use Prim.Native.Nat.{ℕ, suc, ◌+◌, ◌≤◌, ◌<◌}
use native.Mathlib.Omega.{arith}
use mathlib.Core.Path.{◌≡◌, refl, sym, subst, ◌∙◌}
use mathlib.Core.Logic.{◌⊎◌, inl, inr}
use mathlib.Core.Bool.{Bool, true, false, cond}
use lib.ListN.{length, length-append}
use Rattle.kinds.specs.Kinds.{bone, parents_table, parents_in, parents_of, stands_at_top, may_stand}
use Rattle.table.specs.declared.Row.{Row}
use Rattle.table.specs.Table.{no_parent}
use Rattle.table.specs.Counts.{is_counted, count_under}
use Rattle.table.proofs.Counts.{counted_none}
use Rattle.format.specs.Forest.{Forest, end, known, unknown, nodes, encode}
use Rattle.format.specs.Rows.{rows}
use Rattle.base.specs.Lists.{Each}
use Rattle.format.specs.Layout.{Placed}
use Rattle.base.proofs.Lists.{each_append, each_map}
use Rattle.format.proofs.Headers.{length_header}

-- a body lies between two places, after its node's header
abbrev pub Lies : (from to : ℕ) → Row → Type 0
Lies from to r = (from + 24 ≤ r.start) × (r.start ≤ r.end) × (r.end ≤ to)

lies_in : (a b c d : ℕ) → a ≤ c → d ≤ b → (r : Row) → Lies c d r → Lies a b r
lies_in a b c d h k r l = (omega (arith, l.0), l.1, omega (arith, l.2))

pub rows_lie : (f : Forest) (parent row at : ℕ) → Each (Lies at (at + length (encode f))) (rows f parent row at)
rows_lie end parent row at = tt
rows_lie (known k h p body kids next) parent row at =
    let here : ℕ = at + 24 + length body in
    let size : length (encode (known k h p body kids next)) ≡ 24 + length body + length (encode kids) + length (encode next)
    = simp (length-append, length_header) (omega arith) in
    let a = each_map (lies_in at (at + length (encode (known k h p body kids next))) here (here + length (encode kids)) (omega arith) (omega (arith, size)))
    (rows kids row (suc row) here) (rows_lie kids row (suc row) here) in
    let there : ℕ = here + length (encode kids) in
    let b = each_map (lies_in at (at + length (encode (known k h p body kids next))) there (there + length (encode next)) (omega arith) (omega (arith, size)))
    (rows next parent (suc row + nodes kids) there) (rows_lie next parent (suc row + nodes kids) there) in
    ((omega arith, omega arith, omega (arith, size)), (each_append _ (rows kids row (suc row) here) (rows next parent (suc row + nodes kids) there)).1 (a, b))
rows_lie (unknown k h p c rest next) parent row at =
    let there : ℕ = at + 24 + length rest in
    let size : length (encode (unknown k h p c rest next)) ≡ 24 + length rest + length (encode next) = simp (length-append, length_header) (omega arith) in
    let b = each_map (lies_in at (at + length (encode (unknown k h p c rest next))) there (there + length (encode next)) (omega arith) (omega (arith, size)))
    (rows next parent (suc row) there) (rows_lie next parent (suc row) there) in
    ((omega arith, omega arith, omega (arith, size)), b)

-- a row's parent is the given one, or one of the rows
abbrev pub Under : (parent row n : ℕ) → Row → Type 0
Under parent row n r = (r.parent ≡ parent) ⊎ ((row ≤ r.parent) × (r.parent < row + n))

under_in : (parent row n row' n' : ℕ) → row ≤ row' → row' + n' ≤ row + n → (r : Row) → Under parent row' n' r → Under parent row n r
under_in parent row n row' n' a b r (inl h) = inl h
under_in parent row n row' n' a b r (inr h) = inr (omega (arith, h.0), omega (arith, h.1))

under_below : (parent row n n' : ℕ) → suc row + n' ≤ row + n → (r : Row) → Under row (suc row) n' r → Under parent row n r
under_below parent row n n' b r (inl h) = inr (omega (arith, h), omega (arith, h))
under_below parent row n n' b r (inr h) = inr (omega (arith, h.0), omega (arith, h.1))

pub rows_under : (f : Forest) (parent row at : ℕ) → Each (Under parent row (nodes f)) (rows f parent row at)
rows_under end parent row at = tt
rows_under (known k h p body kids next) parent row at =
    let here : ℕ = at + 24 + length body in
    let there : ℕ = here + length (encode kids) in
    let n = nodes (known k h p body kids next) in
    let a = each_map (under_below parent row n (nodes kids) (omega arith)) (rows kids row (suc row) here) (rows_under kids row (suc row) here) in
    let b = each_map (under_in parent row n (suc row + nodes kids) (nodes next) (omega arith) (omega arith))
    (rows next parent (suc row + nodes kids) there) (rows_under next parent (suc row + nodes kids) there) in
    (inl refl, (each_append _ (rows kids row (suc row) here) (rows next parent (suc row + nodes kids) there)).1 (a, b))
rows_under (unknown k h p c rest next) parent row at =
    let there : ℕ = at + 24 + length rest in
    let n = nodes (unknown k h p c rest next) in
    (inl refl, each_map (under_in parent row n (suc row) (nodes next) (omega arith) (omega arith)) (rows next parent (suc row) there) (rows_under next parent (suc row) there))

-- none of some nodes' rows is under a parent that is neither theirs nor one of them
pub rows_none : (which : Option ℕ) (f : Forest) (parent row at p : ℕ) → (parent ≡ p → ⊥) → (row ≤ p → row + nodes f ≤ p)
    → count_under which (rows f parent row at) p ≡ 0
rows_none which f parent row at p n o = counted_none which (rows f parent row at) p (each_map other (rows f parent row at) (rows_under f parent row at))
  where
    other : (r : Row) → Under parent row (nodes f) r → is_counted which r ≡ true → r.parent ≡ p → ⊥
    other r (inl e) c h = n (sym e ∙ h)
    other r (inr e) c h = omega (arith, e.0, e.1, h, o (omega (arith, e.0, h)))

-- no Bone stands at the top, so that each has a parent among the rows
not_top : (k : ℕ) → may_stand None k ≡ true → k ≡ bone → ⊥
unfolding may_stand stands_at_top parents_of parents_in parents_table
not_top k h e = not_false (rw e at h)
  where
    not_false : false ≡ true → ⊥
    not_false e = subst (λ (b : Bool). cond b ⊥ (Unit {0})) e tt

abbrev pub BoneUnder : (n : ℕ) → Row → Type 0
BoneUnder n r = r.kind ≡ bone → r.parent < n

pub bones_under_lem : (f : Forest) (row at : ℕ) → Placed None f → Each (BoneUnder (row + nodes f)) (rows f no_parent row at)
bones_under_lem end row at p = tt
bones_under_lem (known k h ps body kids next) row at p =
    let here : ℕ = at + 24 + length body in
    let there : ℕ = here + length (encode kids) in
    let a = each_map {Q = BoneUnder (row + nodes (known k h ps body kids next))} (λ r g b. by r g) (rows kids row (suc row) here) (rows_under kids row (suc row) here) in
    let b = each_map {Q = BoneUnder (row + nodes (known k h ps body kids next))} (λ r g e. omega (arith, g e)) (rows next no_parent (suc row + nodes kids) there) (bones_under_lem next (suc row + nodes kids) there p.2) in
    (λ e. absurd (not_top k p.0 e), (each_append _ (rows kids row (suc row) here) (rows next no_parent (suc row + nodes kids) there)).1 (a, b))
  where
    by : (r : Row) → Under row (suc row) (nodes kids) r → r.parent < row + nodes (known k h ps body kids next)
    by r (inl g) = omega (arith, g)
    by r (inr g) = omega (arith, g.1)
bones_under_lem (unknown k h ps c rest next) row at p =
    let there : ℕ = at + 24 + length rest in
    (λ e. absurd (not_top k p.0 e), each_map {Q = BoneUnder (row + nodes (unknown k h ps c rest next))} (λ r g e. omega (arith, g e)) (rows next no_parent (suc row) there) (bones_under_lem next (suc row) there p.1))
