-- The cases of the lookup by a row; and what it finds lies within the bytes.
use mathlib.Core.Path.{◌≡◌, refl, sym, ap, subst}
use mathlib.Core.Bool.{Bool, true, false, cond, not}
use mathlib.Core.List.{List}
use Prim.Native.Nat.{ℕ, ◌+◌, ◌≤◌}
use native.Mathlib.Omega.{arith}
use lib.ListN.{length}
use Rattle.table.specs.declared.Row.{Row}
use Rattle.table.specs.Table.{has_row, row_at}
use Rattle.format.specs.Rows.{body_of, outside}
use Rattle.format.proofs.Rows.{not_outside, length_body}
use Rattle.lookup.specs.Lookup.{Found}
use Rattle.lookup.specs.Lookup.{At, Refused}
use Rattle.lookup.specs.Lookup.{in_body, shifted, lookup_of, FoundWithin, number_of, part_of}
use Rattle.lookup.proofs.Laws.{body_within}

module _ (bs t : List ℕ) (row : ℕ) (name : List ℕ) where
  pub no_row_lem : has_row t row ≡ false → Refused 40 ≡ lookup_of bs t row name
  unfolding lookup_of
  no_row_lem e = rw e

  module _ (has : has_row t row ≡ true) {r : Row} (e : r ≡ row_at t row) where
    pub beyond : outside (length bs) r ≡ true → Refused 41 ≡ lookup_of bs t row name
    unfolding lookup_of
    beyond o = rw (has, sym e, o)

    pub inside : outside (length bs) r ≡ false → shifted r.start (in_body (body_of bs r) r.properties name) ≡ lookup_of bs t row name
    unfolding lookup_of
    inside o = rw (has, sym e, o)

shifted_within : (n from size : ℕ) → from + size ≤ n → (f : Found) → FoundWithin size f → FoundWithin n (shifted from f)
shifted_within n from size h (At start end) p = (omega (arith, p.0), omega (arith, h, p.1))
shifted_within n from size h (Refused k) p = tt

module _ (bs t : List ℕ) (row : ℕ) (name : List ℕ) where
  within_by : (r : Row) (x y : Bool) → outside (length bs) r ≡ y
      → FoundWithin (length bs) (cond x (Refused 40) (cond y (Refused 41) (shifted r.start (in_body (body_of bs r) r.properties name))))
  within_by r true y e = tt
  within_by r false true e = tt
  within_by r false false e =
      let body = body_of bs r in
      let in_order = not_outside bs r e in
      let fits : r.start + length body ≤ length bs = omega (arith, length_body bs r in_order.1, in_order.0, in_order.1) in
      shifted_within (length bs) r.start (length body) fits (in_body body r.properties name) (body_within body name r.properties)

  found_within : FoundWithin (length bs) (lookup_of bs t row name)
  unfolding lookup_of
  found_within = let r = row_at t row in within_by r (not (has_row t row)) (outside (length bs) r) refl

  -- an answer, with that
  pub told : {f : Found} → f ≡ lookup_of bs t row name
      → (f ≡ lookup_of bs t row name)
      × (FoundWithin (length bs) f
      × ((number_of f ≡ number_of (lookup_of bs t row name))
      × (part_of bs f ≡ part_of bs (lookup_of bs t row name))))
  told e = (e, (subst (FoundWithin (length bs)) (sym e) found_within, (ap number_of e, ap (part_of bs) e)))
