-- `read` of a `u8`: a byte is the number of width 1.
use mathlib.Core.Path.{sym}
use Rattle.le.proofs.Laws.{number_at_byte}
use Rattle.faces.proofs.tally.U8Value.read.Goals as goal

pub returns : goal.returns
returns c = sym (number_at_byte _ _)
