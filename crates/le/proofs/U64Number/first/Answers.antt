-- `le::u64::first`: the library's number of 8 bytes.
use mathlib.Core.Path.{◌∙◌}
use Rattle.le.proofs.Laws.{from_bytes}
use Rattle.le.proofs.U64Number.first.Goals as goal

pub returns : goal.returns
returns c = c.from_le_bytes.ensures ∙ from_bytes 7 c.first_bytes.result ∙ c.first_bytes.ensures
