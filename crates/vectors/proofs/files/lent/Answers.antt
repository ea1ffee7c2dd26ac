-- `vectors::files::lent`: the answer's numbers, and the checksum of the table.
use mathlib.Core.Path.{ap, ◌∙◌}
use mathlib.Core.List.{[], ◌∷◌}
use Rattle.vectors.specs.Answers.{extended}
use Rattle.vectors.specs.Buffers.{checksum}
use Rattle.vectors.specs.Files.{file_numbers, file_table, into_table}
use Rattle.vectors.proofs.Answers.{joined}
use Rattle.vectors.proofs.Lent.{plain}
use Rattle.vectors.proofs.files.lent.Goals as goal

pub returns : goal.returns
unfolding into_table
returns c =
    let a = c.args in
    joined (file_numbers a.function a.file.now a.table.now) (checksum (file_table a.function a.file.now a.table.now) ∷ [])
    (c.push.ensures ∙ ap (λ n. extended c.passed-answer.result (n ∷ [])) ((c.checksum.ensures ∙ plain _) ∙ ap checksum c.passed-answer.ensures.table))
    c.passed-answer.ensures.result
