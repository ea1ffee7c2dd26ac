-- `vectors::leaves::run`: each function by its number.
use native.Mathlib.Omega.{arith}
use mathlib.Core.Path.{ap, ◌∙◌}
use mathlib.Core.List.{[], ◌∷◌}
use borrow.Author.Tests.{ne_eqb}
use Rattle.vectors.specs.Answers.{answered}
use Rattle.vectors.specs.Leaves.{leaf_line}
use Rattle.vectors.proofs.leaves.run.Goals as goal

pub returns-in-1 : goal.returns-in-1
unfolding leaf_line
returns-in-1 c = rw c.in-1.is (c.of.ensures ∙ ap (λ n. answered (n ∷ [])) c.read.ensures)

pub returns-in-2 : goal.returns-in-2
unfolding leaf_line
returns-in-2 c = rw c.in-2.is (c.of-in-2.ensures ∙ ap (λ n. answered (n ∷ [])) c.read-in-2.ensures)

pub returns-in-3 : goal.returns-in-3
unfolding leaf_line
returns-in-3 c = rw c.in-3.is (c.of-in-3.ensures ∙ ap (λ n. answered (n ∷ [])) c.read-in-3.ensures)

pub returns-in-7 : goal.returns-in-7
unfolding leaf_line
returns-in-7 c = rw c.in-7.is (c.of-in-7.ensures ∙ ap (λ n. answered (n ∷ [])) c.number_at.ensures)

pub returns-in_default : goal.returns-in_default
unfolding leaf_line
returns-in_default c =
    let f = c.args.f.function in
    simp (ne_eqb f 1 (omega arith), ne_eqb f 2 (omega arith), ne_eqb f 3 (omega arith), ne_eqb f 7 (omega arith)) c.written.ensures
