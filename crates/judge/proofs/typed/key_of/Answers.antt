-- `judge::typed::key_of`: what the letters after i numbers of eight add to the sum is what all but the last give.
use Rattle.std.proofs.Common.{◌≡◌, ◌+◌, ◌-◌, ◌*◌, ap, ◌∙◌, arith}
use Rattle.le.specs.Le.{number_at}
use Rattle.le.proofs.Laws.{number_at_part}
use Rattle.judge.proofs.Typing.{key_step, key_done}
use Rattle.judge.proofs.typed.key_of.Goals as goal

pub loop-i-preserved : goal.loop-i-preserved
loop-i-preserved c =
    let name = c.args.name.now in
    let l = c.loop-i in
    let at = 8 * l.i in
    let next : 8 * (l.i + 1) ≡ at + 8 = omega arith in
    rw next
    (key_step name l.key at (omega arith) (c.read-eight.ensures ∙ number_at_part 8 (at + 8 - at) name at 0 (omega arith) ∙ ap (number_at 8 name) (omega arith))
    ∙ l.invariant)

pub returns : goal.returns
returns c = key_done c.args.name.now c.loop-i.key (8 * c.loop-i.i) (omega arith) c.loop-i.invariant c.requires
