-- `vectors::parts::element`: each case of a size.
use mathlib.Core.Path.{ap, ◌∙◌}
use Rattle.vectors.specs.Answers.{answered}
use Rattle.vectors.specs.Parts.{size_line}
use Rattle.vectors.proofs.parts.element.Goals as goal

pub returns-in-Some-Bytes : goal.returns-in-Some-Bytes
unfolding size_line
returns-in-Some-Bytes c =
    let size = rw c.in-Some-Bytes.field-0-is at c.in-Some-Bytes.ensures.result in
    c.of.ensures ∙ ap (λ s. answered (size_line s)) size

pub returns-in-Some-Text : goal.returns-in-Some-Text
unfolding size_line
returns-in-Some-Text c =
    let size = rw c.in-Some-Text.field-0-is at c.in-Some-Text.ensures.result in
    c.of-in-Some-Text.ensures ∙ ap (λ s. answered (size_line s)) size

pub returns-in-None : goal.returns-in-None
unfolding size_line
returns-in-None c = c.of-in-None.ensures ∙ ap (λ s. answered (size_line s)) c.in-None.ensures.result
