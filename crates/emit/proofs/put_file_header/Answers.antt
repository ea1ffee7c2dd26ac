-- `emit::put_file_header`: its four numbers, one after the other.
use Rattle.emit.proofs.Headers.{file_header_put}
use Rattle.emit.proofs.put_file_header.Goals as goal

pub returns : goal.returns
returns c =
    file_header_put c.args.out.now c.args.roots c.args.flags c.write.ensures c.write-2.ensures c.write-3.ensures
    c.write-4.ensures
