-- `vectors::answer::Answer::of`: after none.
use mathlib.Core.List.{[]}
use Rattle.vectors.proofs.Answers.{joined}
use Rattle.vectors.proofs.answer.Answer.of.Goals as goal

pub returns : goal.returns
returns c = joined [] c.args.numbers.now c.extend.ensures c.none.ensures
