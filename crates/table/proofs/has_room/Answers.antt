-- `table::has_room`: the test is the definition's.
use mathlib.Core.Path.{refl}
use Rattle.table.specs.Table.{has_room}
use Rattle.table.proofs.has_room.Goals as goal

pub returns : goal.returns
unfolding has_room
returns c = refl
