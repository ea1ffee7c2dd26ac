-- `judge::typed::has_key`: what was found and what the keys from the index on say is what all say.
use Rattle.std.proofs.Common.{◌≡◌, ◌||◌, drop}
use Rattle.judge.specs.Private.{has_key}
use Rattle.judge.proofs.typed.has_key.Given as goal

abbrev pub invariant-loop-k : goal.invariant-loop-k
invariant-loop-k l = (l.any || has_key (drop l.k-index l.keys) l.key) ≡ has_key l.keys l.key
