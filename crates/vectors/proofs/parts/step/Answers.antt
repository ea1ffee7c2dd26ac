-- `vectors::parts::step`: past a property, or refused.
use mathlib.Core.Path.{ap, ◌∙◌}
use mathlib.Core.List.{[], ◌∷◌}
use Rattle.vectors.specs.Answers.{answered}
use Rattle.vectors.specs.Parts.{step_line}
use Rattle.vectors.proofs.parts.step.Goals as goal

pub returns-in-Ok : goal.returns-in-Ok
unfolding step_line
returns-in-Ok c = c.of.ensures ∙ ap (λ s. answered (step_line s)) c.in-Ok.ensures.result

pub returns-in-Err : goal.returns-in-Err
unfolding step_line
returns-in-Err c =
    c.of-in-Err.ensures
    ∙ ap (λ n. answered (n ∷ 0 ∷ 0 ∷ 0 ∷ [])) c.number.ensures
    ∙ ap (λ s. answered (step_line s)) c.in-Err.ensures.result
