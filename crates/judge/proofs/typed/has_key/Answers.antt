-- `judge::typed::has_key`: what was found and what the keys from the index on say is what all say.
use Rattle.std.proofs.Common.{◌∙◌}
use Rattle.judge.proofs.Typing.{key_next, key_ended}
use Rattle.judge.proofs.typed.has_key.Goals as goal

pub loop-k-preserved : goal.loop-k-preserved
loop-k-preserved c =
    let a = c.args in
    let l = c.loop-k in
    key_next a.keys.now a.key l.k-index l.any c.loop-k-test.true ∙ l.invariant

pub returns : goal.returns
returns c =
    let a = c.args in
    let l = c.loop-k in
    key_ended a.keys.now a.key l.k-index l.any c.loop-k-test.false ∙ l.invariant
