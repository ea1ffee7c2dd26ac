-- `le::u16::first`: the library's number of 2 bytes.
use native.Mathlib.Omega.{arith}
use mathlib.Core.Path.{◌∙◌}
use Rattle.le.proofs.Laws.{from_bytes}
use Rattle.le.proofs.U16Number.first.Goals as goal

pub returns : goal.returns
returns c = omega (arith, c.from_le_bytes.ensures ∙ from_bytes 1 c.first_bytes.result ∙ c.first_bytes.ensures)
