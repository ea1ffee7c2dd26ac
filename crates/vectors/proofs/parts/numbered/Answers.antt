-- `vectors::parts::numbered`: each case of a numeral.
use mathlib.Core.Path.{ap, ◌∙◌}
use Rattle.vectors.specs.Answers.{answered}
use Rattle.vectors.specs.Parts.{numeral_line}
use Rattle.vectors.proofs.parts.numbered.Goals as goal

pub returns-in-Some : goal.returns-in-Some
unfolding numeral_line
returns-in-Some c = c.of.ensures ∙ ap (λ n. answered (numeral_line n)) c.in-Some.ensures.result

pub returns-in-None : goal.returns-in-None
unfolding numeral_line
returns-in-None c = c.of-in-None.ensures ∙ ap (λ n. answered (numeral_line n)) c.in-None.ensures.result
