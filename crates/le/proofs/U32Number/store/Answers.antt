-- `le::u32::store`: the library's 4 bytes of a number.
use native.Mathlib.Omega.{arith}
use mathlib.Core.Path.{ap, ◌∙◌}
use lib.Seq.{sets}
use Rattle.le.specs.Le.{le}
use Rattle.le.proofs.Laws.{to_bytes}
use Rattle.le.proofs.U32Number.store.Goals as goal

pub returns : goal.returns
returns c = c.store_bytes.ensures ∙ ap (sets c.args.out.now 0) (c.to_le_bytes.ensures ∙ to_bytes 4 _ ∙ ap (le 4) (omega arith))
