-- `listing::put_node_lines`: the lines of the earlier rows were put.
use Prim.Native.Nat.{ℕ, ◌+◌}
use native.Mathlib.Omega.{arith}
use mathlib.Core.Path.{◌≡◌, ap}
use mathlib.Core.List.{List, ◌++◌}
use lib.ListN.{length}
use Rattle.listing.specs.declared.TextLine.TheVariants.{Node}
use Rattle.listing.specs.Listing.{text_of}
use Rattle.listing.proofs.Laws.{passed_room, passed_more, passed_all}
use Rattle.listing.proofs.Whole.{nodes_from, nodes_all, nodes_more, nodes_none}
use Rattle.listing.proofs.put_node_lines.Goals as goal
use Rattle.listing.proofs.put_node_lines.Goals.{After-row_at-row}

-- at a turn of the loop, the line of the row comes next
module _ (c : After-row_at-row) where
  abbrev line : List ℕ
  line = text_of (Node c.loop-index.index c.row_at-row.result)

  abbrev later : List ℕ
  later = nodes_from c.args.table.now c.args.nodes (c.loop-index.index + 1)

  next_line : nodes_from c.args.table.now c.args.nodes c.loop-index.index ≡ line ++ later
  next_line = nodes_more c.args.table.now c.args.nodes c.loop-index.index c.loop-index-test.true c.row_at-row.ensures

pub put_line-next-requires : goal.put_line-next-requires
put_line-next-requires c =
    let r = (goal.at.put_line-next-requires c).After-row_at-row in
    let a = c.args in
    let all = ap length (nodes_all a.table.now a.nodes) in
    passed_room a.out.now a.at (nodes_from a.table.now a.nodes 0) c.loop-index.invariant (omega (arith, all, c.requires)) (line r) (later r) (next_line r)

pub loop-index-preserved : goal.loop-index-preserved
loop-index-preserved c =
    let r = (goal.at.loop-index-preserved c).After-row_at-row in
    let a = c.args in
    passed_more a.out.now a.at (nodes_from a.table.now a.nodes 0) c.loop-index.invariant (line r) (later r) (next_line r) c.put_line-next.ensures

pub returns : goal.returns
returns c =
    let a = c.args in
    let none = nodes_none a.table.now a.nodes c.loop-index.index c.loop-index-test.false in
    rw (← nodes_all a.table.now a.nodes) (passed_all a.out.now a.at (nodes_from a.table.now a.nodes 0) c.loop-index.invariant none)
