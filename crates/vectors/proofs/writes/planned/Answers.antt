-- `vectors::writes::planned`: the writer, or its parts.
use mathlib.Core.Path.{ap, ◌∙◌}
use borrow.Author.Tests.{eq-eqb, ne_eqb}
use Rattle.emit.specs.Emission.{written_told}
use Rattle.vectors.specs.Answers.{answered}
use Rattle.vectors.specs.Writes.{written_numbers, plan_numbers, plan_output}
use Rattle.vectors.proofs.Answers.{put_after}
use Rattle.vectors.proofs.writes.planned.Goals as goal

pub returns-then-f-eq34-clause-result : goal.returns-then-f-eq34-clause-result
unfolding plan_numbers
returns-then-f-eq34-clause-result c =
    rw (eq-eqb _ _ c.if-f-eq34.true)
    (put_after (written_numbers (written_told c.write.result)) c.with_written.ensures c.none.ensures
    ∙ ap (λ w. answered (written_numbers w)) c.write.ensures.result)

pub returns-then-f-eq34-clause-output : goal.returns-then-f-eq34-clause-output
unfolding plan_output
returns-then-f-eq34-clause-output c = rw (eq-eqb _ _ c.if-f-eq34.true) c.write.ensures.output

pub returns-clause-result : goal.returns-clause-result
unfolding plan_numbers
returns-clause-result c = rw (ne_eqb _ _ c.if-f-eq34.false) c.parts.ensures.result

pub returns-clause-output : goal.returns-clause-output
unfolding plan_output
returns-clause-output c = rw (ne_eqb _ _ c.if-f-eq34.false) c.parts.ensures.output
