-- `body::index_of`: the array so far, and the starts of the rest, are the index of the whole.
use Rattle.std.proofs.Common.{◌≡◌, ◌-◌}
use Rattle.body.specs.Body.{pass, properties, index_of}
use Rattle.body.proofs.Laws.{index_from}
use Rattle.body.proofs.index_of.Given as goal

abbrev pub invariant-loop-i : goal.invariant-loop-i
invariant-loop-i l = index_from l.starts l.i (pass l.body (l.count - l.i) l.at) ≡ index_of (properties l.body l.count)
