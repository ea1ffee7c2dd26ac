-- `vectors::trims::run`: a table that is too long is not lent.
use mathlib.Core.Path.{ap, ◌∙◌}
use lib.ListN.{length, take}
use borrow.Author.Tests.{lt-ltb, le-ltb}
use Rattle.removal.specs.Trimmer.{trimmed_output}
use Rattle.vectors.specs.Answers.{answered}
use Rattle.vectors.specs.Trims.{trim_numbers, trim_line, trim_output}
use Rattle.vectors.proofs.Lent.{taken_space}
use Rattle.vectors.proofs.trims.run.Goals as goal

pub returns-then-n-gt8300-clause-result : goal.returns-then-n-gt8300-clause-result
unfolding trim_line
returns-then-n-gt8300-clause-result c = rw (← c.read-n.ensures, lt-ltb _ _ c.if-n-gt8300.true) c.none.ensures

pub returns-then-n-gt8300-clause-output : goal.returns-then-n-gt8300-clause-output
unfolding trim_output
returns-then-n-gt8300-clause-output c = rw (← c.read-n.ensures, lt-ltb _ _ c.if-n-gt8300.true)

pub returns-clause-result : goal.returns-clause-result
unfolding trim_line
returns-clause-result c =
    let a = c.args in
    let n = c.read-n.result in
    let table = ap (take n) c.space-space.ensures ∙ taken_space n a.f.seed c.if-n-gt8300.false in
    rw (← c.read-n.ensures, le-ltb _ _ c.if-n-gt8300.false)
    (c.lent.ensures.result ∙ ap (λ t. answered (trim_numbers a.file.now a.f.x t (length a.out.now))) table)

pub returns-clause-output : goal.returns-clause-output
unfolding trim_output
returns-clause-output c =
    let a = c.args in
    let n = c.read-n.result in
    let table = ap (take n) c.space-space.ensures ∙ taken_space n a.f.seed c.if-n-gt8300.false in
    rw (← c.read-n.ensures, le-ltb _ _ c.if-n-gt8300.false)
    (c.lent.ensures.output ∙ ap (λ t. trimmed_output a.file.now a.f.x t a.out.now) table)
