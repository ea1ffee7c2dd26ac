-- `judge::valued::is_parent`: by comparisons of the unsigned number.
use Rattle.std.proofs.Common.{arith}
use Rattle.judge.proofs.Faults.{parent}
use Rattle.judge.proofs.valued.is_parent.Goals as goal

pub returns : goal.returns
returns c = parent c.args.p c.args.bones (omega arith)
