-- `emit::put_node`: the header, and the body after it.
use native.Mathlib.Omega.{arith}
use Rattle.emit.proofs.Nodes.{part_put, node_put}
use Rattle.emit.proofs.put_node.Goals as goal

pub returns : goal.returns
returns c =
    let a = c.args in
    let head = part_put a.out.now a.at a.row a.size (omega (arith, c.requires)) c.put_header.ensures in
    let all = node_put a.source.now a.out.now a.at a.row a.size head c.body_of-body.ensures c.put_bytes.ensures in record { place = all.0; output = all.1 }
