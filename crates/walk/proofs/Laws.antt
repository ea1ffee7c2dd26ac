-- The walk's own laws: its bound never speaks; and what each case of a node comes to.
use Rattle.std.specs.Prelude.{Option, Some}
use Prim.Native.Nat.{ℕ, zero, suc, ◌+◌, ◌-◌, ◌≤◌, ◌<◌}
use native.Mathlib.Omega.{arith}
use mathlib.Core.Path.{◌≡◌, refl, ap, sym, ◌∙◌}
use mathlib.Core.Bool.{true, false}
use mathlib.Core.List.{List, [], ◌∷◌}
use lib.Dec.{ltb}
use lib.ListN.{length, drop, length-drop, length-take}
use borrow.Author.Tests.{lt-ltb, le-ltb, ltb-true, ltb-false}
use Rattle.base.specs.Refusals.{refused_or}
use Rattle.base.proofs.Refusals.{goes_on, is_refused, by_refusal}
use Rattle.base.proofs.Tests.{by_test}
use Rattle.kinds.specs.Kinds.{is_known}
use Rattle.body.specs.Body.{PropertyWalk, properties}
use Rattle.walk.specs.declared.Header.{Header}
use Rattle.walk.specs.Walk.{Walked, refused_walk, walked_to, after_rows, and_then, inside, node, children, node_at, children_at, header_at, node_refusal, row_of_header, limited}
use Rattle.walk.specs.Statements.{Unbounded, Limited}
use Rattle.walk.proofs.Cases.{passes}

-- ---- a walk that is not refused goes onward, and a node takes some of the bytes
abbrev Onward : ℕ → Walked → Type 0
Onward at w = w.number ≡ 0 → at ≤ w.at

then_onward : (at : ℕ) (w : Walked) (next : ℕ → ℕ → Walked) → Onward at w → (w.number ≡ 0 → Onward w.at (next w.at (length w.rows))) → Onward at (and_then w next)
unfolding and_then
then_onward at w next h g =
    by_refusal (Onward at) w.number w (after_rows w.rows (next w.at (length w.rows))) (λ z. h) (λ e z. omega (arith, h e, g e z))

mutual
  unfolding node

  node_onward : (n : ℕ) (parent : Option ℕ) (above depth at row : ℕ) (bs : List ℕ) → Onward (at + 24) (node n parent above depth at row bs)
  node_onward zero parent above depth at row bs = λ z. absurd (omega (arith, z))
  node_onward (suc n) parent above depth at row bs =
      let h = header_at bs in
      let p = properties (inside h bs) h.properties in
      by_refusal (Onward (at + 24)) (node_refusal h (length bs) parent row depth) _ _ (λ r z. absurd (r z))
      (λ right. by_test (is_known h.kind)
      (λ t. rw t
      (by_refusal (Onward (at + 24)) p.number _ _ (λ r z. absurd (r z))
      (λ good z. omega (arith, children_onward n (Some h.kind) row (depth + 1) h.children (at + 24 + p.at) (row + 1) (drop p.at (inside h bs)) z))))
      (λ t. rw t (λ z. omega (arith, (passes h (length bs) parent row depth right).own))))

  children_onward : (n : ℕ) (parent : Option ℕ) (above depth count at row : ℕ) (bs : List ℕ) → Onward at (children n parent above depth count at row bs)
  children_onward zero parent above depth count at row bs = λ z. absurd (omega (arith, z))
  children_onward (suc n) parent above depth zero at row bs = by_test (ltb 0 (length bs)) (λ t. rw t (λ z. absurd (omega (arith, z)))) (λ t. rw t (λ z. omega arith))
  children_onward (suc n) parent above depth (suc k) at row bs =
      then_onward at (node n parent above depth at row bs) _ (λ z. omega (arith, node_onward n parent above depth at row bs z))
      (λ e. children_onward n parent above depth k _ _ _)

-- ---- any bound will do that is greater than the number of bytes; for a node, also one that is equal to it
-- under 24 bytes
no_header : (n : ℕ) (parent : Option ℕ) (above depth at row : ℕ) (bs : List ℕ) → length bs < 24 → node n parent above depth at row bs ≡ refused_walk 5 at
unfolding node node_refusal
no_header zero parent above depth at row bs l = refl
no_header (suc n) parent above depth at row bs l = rw (lt-ltb (length bs) 24 l)

some_bytes : (n : ℕ) (parent : Option ℕ) (above depth at row : ℕ) (bs : List ℕ) → (node n parent above depth at row bs).number ≡ 0 → 24 ≤ length bs
some_bytes n parent above depth at row bs z =
    by_test (ltb (length bs) 24)
    (λ t. absurd (omega (arith, sym (ap (λ w. w.number) (no_header n parent above depth at row bs (ltb-true _ _ t))) ∙ z))) (ltb-false _ _)

-- what follows the properties of a node is shorter than it
length_below : (h : Header) (bs : List ℕ) (p : ℕ) → length (drop p (inside h bs)) ≤ length bs - 24
length_below h bs p = simp (length-drop, length-take) (omega arith)

then_same : (w : Walked) (f g : ℕ → ℕ → Walked) → (w.number ≡ 0 → f w.at (length w.rows) ≡ g w.at (length w.rows)) → and_then w f ≡ and_then w g
unfolding and_then
then_same w f g = by w.number
  where
    by : (n : ℕ) {x y : Walked} → (n ≡ 0 → x ≡ y) → refused_or n w (after_rows w.rows x) ≡ refused_or n w (after_rows w.rows y)
    by zero e = ap (after_rows w.rows) (e refl)
    by (suc n) e = refl

mutual
  unfolding node

  node_same : (n m : ℕ) (parent : Option ℕ) (above depth at row : ℕ) (bs : List ℕ) → length bs ≤ n → length bs ≤ m
      → node n parent above depth at row bs ≡ node m parent above depth at row bs
  node_same zero m parent above depth at row bs l k = sym (no_header m parent above depth at row bs (omega arith))
  node_same (suc n) zero parent above depth at row bs l k = no_header (suc n) parent above depth at row bs (omega arith)
  node_same (suc n) (suc m) parent above depth at row bs l k =
      let h = header_at bs in
      let p = properties (inside h bs) h.properties in
      by_test (ltb (length bs) 24)
      (λ t. no_header (suc n) parent above depth at row bs (ltb-true _ _ t) ∙ sym (no_header (suc m) parent above depth at row bs (ltb-true _ _ t)))
      (λ t. let short = length_below h bs p.at in
      rw (children_same n m (Some h.kind) row (depth + 1) h.children (at + 24 + p.at) (row + 1) (drop p.at (inside h bs))
      (omega (arith, short, ltb-false (length bs) 24 t)) (omega (arith, short, ltb-false (length bs) 24 t))))

  children_same : (n m : ℕ) (parent : Option ℕ) (above depth count at row : ℕ) (bs : List ℕ) → length bs < n → length bs < m
      → children n parent above depth count at row bs ≡ children m parent above depth count at row bs
  children_same zero m parent above depth count at row bs l k = absurd (omega arith)
  children_same (suc n) zero parent above depth count at row bs l k = absurd (omega arith)
  children_same (suc n) (suc m) parent above depth zero at row bs l k = refl
  children_same (suc n) (suc m) parent above depth (suc c) at row bs l k =
      let w = node m parent above depth at row bs in
      rw (node_same n m parent above depth at row bs (omega arith) (omega arith))
      (then_same w _ _ (λ z.
      let on = node_onward m parent above depth at row bs z in
      let left = length-drop (w.at - at) bs in
      let some = some_bytes m parent above depth at row bs z in
      children_same n m parent above depth c w.at (row + length w.rows) (drop (w.at - at) bs) (omega (arith, on, left, some)) (omega (arith, on, left, some))))

pub unbounded : Unbounded
unfolding node_at children_at
unbounded n parent above depth count at row bs l = (
  node_same n (suc (length bs)) parent above depth at row bs (omega arith) (omega arith),
  children_same n (suc (length bs)) parent above depth count at row bs l (omega arith),
)

pub limited_is : Limited
unfolding limited
limited_is s = (λ h. rw (le-ltb 16777216 (length s) h), λ h. rw (lt-ltb 16777216 (length s) h))

-- ---- the cases of a node: no header, or this one
pub node_short : (parent : Option ℕ) (above depth at row : ℕ) (bs : List ℕ) → length bs < 24 → node_at parent above depth at row bs ≡ refused_walk 5 at
unfolding node_at
node_short parent above depth at row bs = no_header (suc (length bs)) parent above depth at row bs

module _ (parent : Option ℕ) (above depth at row : ℕ) (bs : List ℕ) {h : Header} (is : header_at bs ≡ h) where
  pub node_refused : {n : ℕ} → node_refusal h (length bs) parent row depth ≡ n → (n ≡ 0 → ⊥) → node_at parent above depth at row bs ≡ refused_walk n at
  unfolding node_at node
  node_refused {n} e z = rw (is, e) (is_refused n _ _ z)

  module _ (right : node_refusal h (length bs) parent row depth ≡ 0) where
    pub node_unknown : is_known h.kind ≡ false
        → node_at parent above depth at row bs ≡ after_rows (row_of_header h above (at + 24) (at + h.size) ∷ []) (walked_to (at + h.size))
    unfolding node_at node
    node_unknown e = rw (is, right, e)

    -- known, and refused for its properties; or with its children
    module _ (known : is_known h.kind ≡ true) where
      abbrev p : PropertyWalk
      p = properties (inside h bs) h.properties

      pub node_bad : {n : ℕ} → p.number ≡ n → (n ≡ 0 → ⊥) → node_at parent above depth at row bs ≡ refused_walk n (at + 24 + p.at)
      unfolding node_at node
      node_bad {n} e z = rw (is, right, known, e) (is_refused n _ _ z)

      pub node_passed : p.number ≡ 0 → node_at parent above depth at row bs
          ≡ after_rows (row_of_header h above (at + 24) (at + 24 + p.at) ∷ [])
          (children_at (Some h.kind) row (depth + 1) h.children (at + 24 + p.at) (row + 1) (drop p.at (inside h bs)))
      unfolding node_at node
      node_passed e =
          let room = passes h (length bs) parent row depth right in
          rw (is, right, known, e)
          (ap (after_rows (row_of_header h above (at + 24) (at + 24 + p.at) ∷ []))
          (unbounded (length bs) (Some h.kind) row (depth + 1) h.children (at + 24 + p.at) (row + 1) (drop p.at (inside h bs))
          (omega (arith, room.own, room.within, length_below h bs p.at))).1)

-- ---- the cases of a list of nodes
module _ (parent : Option ℕ) (above depth at row : ℕ) (bs : List ℕ) where
  -- none are left
  pub list_over : 0 < length bs → children_at parent above depth 0 at row bs ≡ refused_walk 12 at
  unfolding children_at children
  list_over h = rw (lt-ltb 0 (length bs) h)

  pub list_done : length bs ≤ 0 → children_at parent above depth 0 at row bs ≡ walked_to at
  unfolding children_at children
  list_done h = rw (le-ltb 0 (length bs) h)

  module _ (k : ℕ) where
    abbrev others : ℕ → ℕ → Walked
    others next rows = children_at parent above depth k next (row + rows) (drop (next - at) bs)

    list_is : children_at parent above depth (suc k) at row bs ≡ and_then (node_at parent above depth at row bs) others
    unfolding node_at children_at children
    list_is =
        children_same (suc (length bs)) (suc (suc (length bs))) parent above depth (suc k) at row bs (omega arith) (omega arith)
        ∙ then_same (node_at parent above depth at row bs) _ _ (λ z.
        let w = node_at parent above depth at row bs in
        (unbounded (suc (length bs)) parent above depth k w.at (row + length w.rows) (drop (w.at - at) bs) (omega (arith, length-drop (w.at - at) bs))).1)

    -- the first is refused, and with it all
    pub list_refused : ((node_at parent above depth at row bs).number ≡ 0 → ⊥) → children_at parent above depth (suc k) at row bs
        ≡ node_at parent above depth at row bs
    unfolding and_then
    list_refused h = list_is ∙ is_refused (node_at parent above depth at row bs).number _ _ h

    -- the first is done, and the others come after its rows
    pub list_next : {w : Walked} → node_at parent above depth at row bs ≡ w → w.number ≡ 0
        → children_at parent above depth (suc k) at row bs
        ≡ after_rows w.rows (children_at parent above depth k w.at (row + length w.rows) (drop (w.at - at) bs))
    unfolding and_then
    list_next {w} e h = list_is ∙ rw e (goes_on w.number _ _ h)

    pub list_first : (children_at parent above depth (suc k) at row bs).number ≡ 0 → (node_at parent above depth at row bs).number ≡ 0
    unfolding and_then
    list_first e =
        let w = node_at parent above depth at row bs in
        by_refusal (λ v. v.number ≡ 0 → w.number ≡ 0) w.number w _ (λ r z. absurd (r z)) (λ z v. z) (sym (ap (λ v. v.number) list_is) ∙ e)
