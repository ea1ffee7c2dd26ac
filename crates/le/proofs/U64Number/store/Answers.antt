-- `le::u64::store`: the library's 8 bytes of a number.
use mathlib.Core.Path.{ap, ◌∙◌}
use lib.Seq.{sets}
use Rattle.le.proofs.Laws.{to_bytes}
use Rattle.le.proofs.U64Number.store.Goals as goal

pub returns : goal.returns
returns c = c.store_bytes.ensures ∙ ap (sets c.args.out.now 0) (c.to_le_bytes.ensures ∙ to_bytes 8 c.args.self)
