-- `vectors::writes::parts`: what is refused, or what is emitted.
use mathlib.Core.Path.{ap, ◌∙◌}
use mathlib.Core.List.{[], ◌∷◌}
use Rattle.emit.specs.Emission.{written_told}
use Rattle.vectors.specs.Answers.{answered}
use Rattle.vectors.specs.Writes.{written_numbers, parts_numbers, parts_output}
use Rattle.vectors.proofs.Answers.{put_after}
use Rattle.vectors.proofs.Reasons.{reason_eqb}
use Rattle.vectors.proofs.writes.parts.Goals as goal

pub returns-in-Ok-clause-result : goal.returns-in-Ok-clause-result
unfolding parts_numbers
returns-in-Ok-clause-result c =
    rw (← c.in-Ok.ensures.result)
    (put_after (written_numbers (written_told c.emit.result)) c.with_written.ensures c.of.ensures
    ∙ ap (λ w. answered (0 ∷ 0 ∷ written_numbers w)) c.emit.ensures.result)

pub returns-in-Ok-clause-output : goal.returns-in-Ok-clause-output
unfolding parts_output
returns-in-Ok-clause-output c = rw (← c.in-Ok.ensures.result) c.emit.ensures.output

pub returns-in-Err-clause-result : goal.returns-in-Err-clause-result
unfolding parts_numbers
returns-in-Err-clause-result c =
    let why = c.in-Err.refusal in
    rw (← c.in-Err.ensures.result, reason_eqb why.reason)
    (put_after (0 ∷ []) c.push.ensures (put_after (0 ∷ 0 ∷ []) c.extend.ensures c.of-in-Err.ensures)
    ∙ ap (λ n. answered (n ∷ why.place ∷ 0 ∷ 0 ∷ 0 ∷ [])) c.number.ensures)

pub returns-in-Err-clause-output : goal.returns-in-Err-clause-output
unfolding parts_output
returns-in-Err-clause-output c = rw (← c.in-Err.ensures.result, reason_eqb c.in-Err.refusal.reason)
