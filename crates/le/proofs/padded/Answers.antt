-- `le::padded`: the same bytes, place by place.
use native.Mathlib.Omega.{arith}
use Rattle.le.proofs.Laws.{number_at_same}
use Rattle.le.proofs.padded.Goals as goal

pub returns : goal.returns
returns g c = number_at_same g.row.N c.loop-i.all c.args.bytes.now (λ k h. c.loop-i.invariant.1 k (omega (arith, h)))
