-- `listing::nodes_size`: what was added, and what the lines of the later rows add.
use Prim.Native.Nat.{◌+◌}
use native.Mathlib.Omega.{arith}
use mathlib.Core.Path.{ap, ◌∙◌}
use lib.ListN.{length, length-append}
use Rattle.listing.specs.declared.TextLine.TheVariants.{Node}
use Rattle.listing.specs.Listing.{text_of}
use Rattle.listing.proofs.Whole.{nodes_from, nodes_all, nodes_more, nodes_none}
use Rattle.listing.proofs.nodes_size.Goals as goal

pub loop-index-preserved : goal.loop-index-preserved
loop-index-preserved c =
    let a = c.args in
    let i = c.loop-index.index in
    let r = c.row_at-row.result in
    let more = ap length (nodes_more a.table.now a.nodes i c.loop-index-test.true c.row_at-row.ensures)
    ∙ length-append (text_of (Node i r)) (nodes_from a.table.now a.nodes (i + 1)) in
    (omega (arith, c.size-sum.ensures.1), omega (arith, more, c.size-sum.ensures.0, c.loop-index.invariant.1))

pub returns : goal.returns
returns c =
    let a = c.args in
    let none = ap length (nodes_none a.table.now a.nodes c.loop-index.index c.loop-index-test.false) in
    (omega (arith, none, c.loop-index.invariant.1, ap length (nodes_all a.table.now a.nodes)), omega arith)
