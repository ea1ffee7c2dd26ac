-- `walk::header_at`: six numbers, as the definition has them.
use Rattle.walk.specs.Walk.{header_at}
use Rattle.walk.proofs.header_at.Goals as goal

pub returns : goal.returns
unfolding header_at
returns c =
    rw (
      c.read.ensures,
      c.read-2.ensures,
      c.read-3.ensures,
      c.read-4.ensures,
      c.read-5.ensures,
      c.read-6.ensures,
    )
