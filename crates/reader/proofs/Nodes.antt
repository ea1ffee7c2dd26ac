-- What holds of each row of a forest holds of each of its known nodes: a row tells the body of its node, and the Bones
-- beside it.
use Prim.Native.Nat.{ℕ, suc, ◌+◌}
use native.Mathlib.Omega.{arith}
use mathlib.Core.Path.{◌≡◌}
use mathlib.Core.Logic.{inl, ◌↔◌}
use mathlib.Core.Bool.{true, false}
use mathlib.Core.List.{List, ◌++◌}
use lib.ListN.{length}
use Rattle.kinds.specs.Kinds.{is_known}
use Rattle.table.specs.declared.Row.{Row}
use Rattle.format.specs.Forest.{Forest, end, known, unknown, count, nodes, encode}
use Rattle.format.specs.Rows.{node_row, rows, body_of}
use Rattle.base.specs.Lists.{Each}
use Rattle.format.specs.Layout.{GoodBody, WellFormed}
use Rattle.base.proofs.Lists.{each_append}
use Rattle.valid.specs.Valid.{bones, EachKnown}
use Rattle.reader.specs.Reading.{bones_under}
use Rattle.reader.proofs.Parts.{Lie, known_parts, after_unknown}
use Rattle.reader.proofs.Counts.{Outside, Inside, bones_below, inside_below, inside_beside, outside_beside, inside_next, outside_next}

module _ (s : List ℕ) (all : List Row) (Q : Row → Type 0) (P : (beside kind count : ℕ) (body : List ℕ) → Type 0) where
  -- what a known and an unknown node's row say
  abbrev pub KnownRow : Type 0
  KnownRow = (r : Row) (beside : ℕ) (body : List ℕ) → GoodBody r.properties body → body_of s r ≡ body → bones_under all r.parent ≡ beside
      → is_known r.kind ≡ true → (Q r ↔ P beside r.kind r.properties body)

  abbrev pub UnknownRow : Type 0
  UnknownRow = (r : Row) → is_known r.kind ≡ false → Q r

  module _ (known_row : KnownRow) (unknown_row : UnknownRow) where
    pub each_known : (f : Forest) (post : List ℕ) (parent row at beside : ℕ) → WellFormed f → Lie s f post at
        → bones_under all parent ≡ beside
        → Inside all (rows f parent row at) row (nodes f)
        → Outside parent row (nodes f)
        → (Each Q (rows f parent row at) ↔ EachKnown P beside f)
    each_known end post parent row at beside well lie b inside out = (λ h. tt, λ h. tt)
    each_known (known k h ps body kids next) post parent row at beside well lie b inside out =
        let here : ℕ = at + 24 + length body in
        let r : Row = node_row k h parent (at + 24) here ps (count kids) in
        let below = rows kids row (suc row) here in
        let next-rows = rows next parent (suc row + nodes kids) (here + length (encode kids)) in
        let parts = known_parts s post at k h ps body kids next lie in
        let ih-kids = each_known kids (encode next ++ post) row (suc row) here (bones kids) well.4 parts.below
        (bones_below all k h ps body kids next parent row at out inside) (inside_below all k h ps body kids next parent row at out inside) (inl (omega arith)) in
        let ih-next = each_known next post parent (suc row + nodes kids) (here + length (encode kids)) beside well.5 parts.beside b
        (inside_beside all k h ps body kids next parent row at out inside) (outside_beside all k h ps body kids next parent row at out inside) in
        let node = known_row r beside body well.3 parts.body_here b well.0 in
        let both = each_append Q below next-rows in (
          λ q. let rest = both.0 q.1 in (node.0 q.0, ih-kids.0 rest.0, ih-next.0 rest.1),
          λ q. (node.1 q.0, both.1 (ih-kids.1 q.1, ih-next.1 q.2)),
        )
    each_known (unknown k h ps c rest next) post parent row at beside well lie b inside out =
        let ih = each_known next post parent (suc row) (at + 24 + length rest) beside well.3 (after_unknown s post at k h ps c rest next lie) b
        (inside_next all k h ps c rest next parent row at out inside) (outside_next all k h ps c rest next parent row at out inside) in
        (λ q. ih.0 q.1, λ q. (unknown_row (node_row k h parent (at + 24) (at + 24 + length rest) ps c) well.0, ih.1 q))
