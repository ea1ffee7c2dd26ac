-- `body::seek`: what the rest answers is what the whole answers.
use Rattle.std.proofs.Common.{◌≡◌}
use Rattle.body.specs.Body.{sought}
use Rattle.body.proofs.seek.Given as goal

abbrev pub invariant-loop-left : goal.invariant-loop-left
invariant-loop-left l = sought l.body l.name l.left l.at ≡ sought l.body l.name l.count 0
