-- No bytes are refused for depth (8): the kinds end before, and no other stage gives that number.
use Rattle.std.specs.Prelude.{Option, Some, None}
use Prim.Native.Nat.{ℕ, zero, suc, ◌+◌, ◌-◌, ◌≤◌}
use native.Mathlib.Omega.{arith}
use mathlib.Core.Path.{◌≡◌}
use mathlib.Core.Bool.{Bool, true, false, cond, not}
use mathlib.Core.List.{List}
use lib.Dec.{eqb, leb, ltb}
use lib.ListN.{length, drop}
use borrow.Author.Tests.{le-ltb}
use Rattle.le.specs.Le.{number_at}
use Rattle.base.proofs.Refusals.{by_refusal}
use Rattle.base.proofs.Tests.{by_test}
use Rattle.names.specs.Names.{size_ok, bytes_ok}
use Rattle.kinds.specs.Kinds.{is_known, may_stand}
use Rattle.table.specs.Table.{no_parent}
use Rattle.props.specs.Step.{Step}
use Rattle.props.specs.Step.{Past, Refused}
use Rattle.props.specs.Types.{element_size, no_such}
use Rattle.props.specs.Step.{length_ok, data_size, code_at, size_at, length_at, name_at, start_at, step_at}
use Rattle.body.specs.Body.{by_step, pass, properties}
use Rattle.walk.specs.declared.Header.{Header}
use Rattle.walk.specs.Walk.{Walked, after_rows, and_then, inside, node, children, children_at, header_at, ill_sized, too_many, node_refusal, is_cast, walk_of}
use Rattle.walk.specs.Statements.{NeverTooDeep}
use Rattle.walk.proofs.Outcomes.{Shallow, shallow_most, shallow_below}

abbrev Not8 : ℕ → Type 0
Not8 n = n ≡ 8 → ⊥

either : (b : Bool) (m n : ℕ) → Not8 m → Not8 n → Not8 (cond b m n)
either true m n p q = p
either false m n p q = q

none : Not8 0
none e = omega (arith, e)

ten : Not8 10
ten e = omega (arith, e)

eleven : Not8 11
eleven e = omega (arith, e)

-- ---- one property
abbrev OfStep : Step → Type 0
OfStep (Past p next) = Unit {0}
OfStep (Refused n) = Not8 n

step_by : (b : Bool) (n : ℕ) (next : Step) → Not8 n → OfStep next → OfStep (cond b (Refused n) next)
step_by true n next h p = h
step_by false n next h p = p

step_not : (s : List ℕ) (at : ℕ) → OfStep (step_at s at)
unfolding step_at
step_not s at =
    let size = element_size (code_at s at) in
    let rest = drop (start_at s at) s in
    step_by (ltb (length s - at) 8) 10 _ ten
    (step_by (no_such size) 11 _ eleven
    (step_by (not (size_ok (size_at s at))) 11 _ eleven
    (step_by (ltb (length s - at) (8 + size_at s at)) 10 _ ten
    (step_by (not (bytes_ok (name_at s at))) 11 _ eleven
    (step_by (not (length_ok size (length_at s at))) 11 _ eleven
    (step_by (ltb (length rest) (data_size size (length_at s at) rest)) 10 _ ten tt))))))

-- ---- a node's properties
pass_not : (s : List ℕ) (k at : ℕ) → Not8 (pass s k at).number
unfolding pass
pass_not s zero at = none
pass_not s (suc k) at = by (step_at s at) (step_not s at) (pass_not s k)
  where
    by : (w : Step) → OfStep w → ((next : ℕ) → Not8 (pass s k next).number) → Not8 (by_step at (pass s k) w).number
    by (Past q next) h ih = ih next.at
    by (Refused n) h ih = h

properties_not : (s : List ℕ) (k : ℕ) → Not8 (properties s k).number
unfolding properties
properties_not s k = by_test (ltb 64 k) (λ t. rw t (λ e. omega (arith, e))) (λ t. rw t (pass_not s k 0))

-- ---- walks
abbrev OfWalk : Walked → Type 0
OfWalk w = Not8 w.number

then_not : (w : Walked) (next : ℕ → ℕ → Walked) → OfWalk w → ((at n : ℕ) → OfWalk (next at n)) → OfWalk (and_then w next)
unfolding and_then
then_not w next h g = by_refusal OfWalk w.number w (after_rows w.rows (next w.at (length w.rows))) (λ r. h) (λ z. g w.at (length w.rows))

-- ---- a node's header
module _ (h : Header) (room : ℕ) (parent : Option ℕ) (row depth : ℕ) where
  refusal_not : depth ≤ 8 → Not8 (node_refusal h room parent row depth)
  unfolding node_refusal
  refusal_not d =
      rw (le-ltb 8 depth d)
      (either (ill_sized h.size room) 5 _ (λ e. omega (arith, e))
      (either (not (may_stand parent h.kind)) 6 _ (λ e. omega (arith, e))
      (either (leb 1024 row) 7 _ (λ e. omega (arith, e))
      (either (too_many h.kind h.properties) 9 0 (λ e. omega (arith, e)) none))))

  -- what is not refused stands where it may
  stands : node_refusal h room parent row depth ≡ 0 → may_stand parent h.kind ≡ true
  unfolding node_refusal
  stands e =
      by_test (ill_sized h.size room) (λ t. absurd (omega (arith, rw t at e)))
      (λ t. by_test (may_stand parent h.kind) (λ u. u) (λ u. absurd (omega (arith, rw (t, u) at e))))

-- ---- nodes
mutual
  unfolding node

  node_not : (n : ℕ) (parent : Option ℕ) (above depth at row : ℕ) (bs : List ℕ) → Shallow parent depth → OfWalk (node n parent above depth at row bs)
  node_not zero parent above depth at row bs d = λ e. omega (arith, e)
  node_not (suc n) parent above depth at row bs d =
      let h = header_at bs in
      let p = properties (inside h bs) h.properties in
      by_refusal OfWalk (node_refusal h (length bs) parent row depth) _ _ (λ r. refusal_not h (length bs) parent row depth (shallow_most parent depth d))
      (λ right. by_test (is_known h.kind)
      (λ t. rw t
      (by_refusal OfWalk p.number _ _ (λ r. properties_not (inside h bs) h.properties)
      (λ good. children_not n (Some h.kind) row (depth + 1) h.children (at + 24 + p.at) (row + 1) (drop p.at (inside h bs))
      (shallow_below parent h.kind depth t (stands h (length bs) parent row depth right) d))))
      (λ t. rw t none))

  children_not : (n : ℕ) (parent : Option ℕ) (above depth count at row : ℕ) (bs : List ℕ) → Shallow parent depth
      → OfWalk (children n parent above depth count at row bs)
  children_not zero parent above depth count at row bs d = λ e. omega (arith, e)
  children_not (suc n) parent above depth zero at row bs d = by_test (ltb 0 (length bs)) (λ t. rw t (λ e. omega (arith, e))) (λ t. rw t none)
  children_not (suc n) parent above depth (suc k) at row bs d =
      then_not (node n parent above depth at row bs) _ (node_not n parent above depth at row bs d)
      (λ next m. children_not n parent above depth k next (row + m) (drop (next - at) bs) d)

pub never_too_deep : NeverTooDeep
unfolding walk_of children_at
never_too_deep s =
    by_test (is_cast s)
    (λ t. by_test (eqb (number_at 4 s 4) 1)
    (λ u. rw (t, u)
    (children_not _ None no_parent 1 (number_at 4 s 8) 16 0 (drop 16 s) (omega arith)))
    (λ u. rw (t, u) (λ e. omega (arith, e))))
    (λ t. rw t (λ e. omega (arith, e)))
