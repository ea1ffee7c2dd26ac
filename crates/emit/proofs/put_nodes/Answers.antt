-- `emit::put_nodes`: what is put, with the rest after it, is all nodes.
use Rattle.std.proofs.Common.{arith, ap, sym, ◌∙◌}
use Rattle.std.proofs.lemmas.List.Edits.{sets}
use Rattle.emit.proofs.Nodes.{nodes_none, length_more, nodes_more}
use Rattle.emit.proofs.put_nodes.Goals as goal

pub put_node-at-requires : goal.put_node-at-requires
put_node-at-requires c =
    let l = c.loop-i in
    let a = c.args in
    let here = c.loop-i-test.true in
    omega (arith, length_more a.source.now a.plan.now a.rows l.i here c.row_at-row.ensures (c.requires.sizes l.i here))

pub loop-i-preserved : goal.loop-i-preserved
loop-i-preserved c =
    let l = c.loop-i in
    let a = c.args in
    let here = c.loop-i-test.true in
    let size = c.requires.sizes l.i here in
    let e = c.put_node-at.ensures in (
      omega (arith, length_more a.source.now a.plan.now a.rows l.i here c.row_at-row.ensures size),
      nodes_more a.source.now a.plan.now a.rows l.i here c.row_at-row.ensures size l.out l.at e.output e.place ∙ l.invariant.1,
    )

pub returns : goal.returns
returns c =
    let l = c.loop-i in
    let a = c.args in
    sym (ap (sets l.out l.at) (nodes_none a.source.now a.plan.now a.rows l.i c.loop-i-test.false)) ∙ l.invariant.1
