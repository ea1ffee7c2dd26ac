-- `vectors::trims::lent`: the answer's numbers, and the checksum of the table.
use mathlib.Core.Path.{ap, ◌∙◌}
use mathlib.Core.List.{[], ◌∷◌}
use lib.ListN.{length}
use Rattle.emit.specs.Emission.{written_told}
use Rattle.removal.specs.Trimmer.{trimmed_of, trimmed_table}
use Rattle.vectors.specs.Answers.{answered, extended}
use Rattle.vectors.specs.Buffers.{checksum}
use Rattle.vectors.specs.Writes.{written_numbers}
use Rattle.vectors.specs.Trims.{trim_numbers}
use Rattle.vectors.proofs.Answers.{put_after, joined}
use Rattle.vectors.proofs.Lent.{plain}
use Rattle.vectors.proofs.trims.lent.Goals as goal

pub returns-clause-result : goal.returns-clause-result
unfolding trim_numbers
returns-clause-result c =
    let a = c.args in
    let room = length a.out.now in
    let e = c.trim-written.ensures in
    joined (written_numbers (trimmed_of a.file.now a.row a.table.now room)) (checksum (trimmed_table a.file.now a.row a.table.now room) ∷ [])
    (c.push.ensures ∙ ap (λ n. extended c.with_written.result (n ∷ [])) ((c.checksum.ensures ∙ plain _) ∙ ap checksum e.table))
    (put_after (written_numbers (written_told c.trim-written.result)) c.with_written.ensures c.none.ensures
    ∙ ap (λ w. answered (written_numbers w)) e.result)
