-- `le::u32::first`: the library's number of 4 bytes.
use mathlib.Core.Path.{◌∙◌}
use Rattle.le.proofs.Laws.{from_bytes}
use Rattle.le.proofs.U32Number.first.Goals as goal

pub returns : goal.returns
returns c = c.from_le_bytes.ensures ∙ from_bytes 3 c.first_bytes.result ∙ c.first_bytes.ensures
