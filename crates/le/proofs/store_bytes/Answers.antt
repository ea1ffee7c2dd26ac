-- `le::store_bytes`: as many bytes as are stored have room.
use Rattle.le.proofs.Puts.{put_first}
use Rattle.le.proofs.store_bytes.Goals as goal

pub returns-in-Some : goal.returns-in-Some
returns-in-Some g c = put_first c.args.out.now c.args.bytes.now g.row.N c.told-bytes c.in-Some.ensures.cases.enough
