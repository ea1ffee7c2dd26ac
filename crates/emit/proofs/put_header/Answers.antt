-- `emit::put_header`: its six numbers, one after the other.
use Prim.Native.Nat.{◌<◌}
use native.Mathlib.Omega.{arith}
use Rattle.emit.proofs.Headers.{header_put}
use Rattle.emit.proofs.put_header.Goals as goal

pub returns : goal.returns
returns c =
    let low : c.args.row.low < 4294967296 = omega (arith, c.well_formed.1.0) in
    header_put c.args.out.now c.args.row c.args.size low c.write.ensures c.write-2.ensures c.write-3.ensures
    c.write-4.ensures c.write-5.ensures c.write-6.ensures
