-- `judge::typed::key_of`: what the letters after i numbers of eight add to the sum is what all but the last give.
use Rattle.std.proofs.Common.{◌≡◌, ◌-◌, ◌*◌, ◌/◌, length}
use Rattle.judge.specs.Typed.{key_from}
use Rattle.judge.proofs.Typing.{key_left}
use Rattle.judge.proofs.typed.key_of.Given as goal

abbrev pub invariant-loop-i : goal.invariant-loop-i
invariant-loop-i l = key_left l.name l.key (8 * l.i) ≡ key_from ((length l.name - 1) / 8) 0 l.name
