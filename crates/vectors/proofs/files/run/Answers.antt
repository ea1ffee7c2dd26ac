-- `vectors::files::run`: a table that is too long is not lent.
use mathlib.Core.Path.{ap, ◌∙◌}
use lib.ListN.{take}
use borrow.Author.Tests.{lt-ltb, le-ltb}
use Rattle.vectors.specs.Answers.{answered}
use Rattle.vectors.specs.Files.{into_table, file_line}
use Rattle.vectors.proofs.Lent.{taken_space}
use Rattle.vectors.proofs.files.run.Goals as goal

pub returns-then-n-gt8300 : goal.returns-then-n-gt8300
unfolding file_line
returns-then-n-gt8300 c = rw (lt-ltb _ _ c.if-n-gt8300.true) c.none.ensures

pub returns : goal.returns
unfolding file_line
returns c =
    let a = c.args in
    rw (le-ltb _ _ c.if-n-gt8300.false)
    (c.lent.ensures
    ∙ ap (λ t. answered (into_table a.f.function a.file.now t)) (ap (take a.f.y) c.space-space.ensures ∙ taken_space a.f.y a.f.seed c.if-n-gt8300.false))
