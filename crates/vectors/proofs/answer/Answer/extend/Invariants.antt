-- `vectors::answer::Answer::extend`: the answer so far, with the numbers that are left, is the whole.
use mathlib.Core.Path.{◌≡◌}
use lib.ListN.{drop}
use Rattle.vectors.specs.Answers.{extended}
use Rattle.vectors.proofs.answer.Answer.extend.Given as goal

abbrev pub invariant-loop-n : goal.invariant-loop-n
invariant-loop-n l = extended l.answer (drop l.n-index l.numbers) ≡ extended l.initial.answer l.numbers
