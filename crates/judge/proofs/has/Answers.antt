-- `judge::has`: the search gives a place before the end.
use Rattle.std.proofs.Common.{ltb, length, ap}
use Rattle.judge.proofs.has.Goals as goal

pub returns : goal.returns
returns c = ap (λ i. ltb i (length c.args.starts.now)) c.first_named.ensures.result
