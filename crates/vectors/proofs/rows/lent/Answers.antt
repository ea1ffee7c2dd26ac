-- `vectors::rows::lent`: the table as it is read, with the row put, and cleared.
use mathlib.Core.Path.{ap, ◌∙◌}
use mathlib.Core.List.{[], ◌∷◌}
use lib.ListN.{length}
use Rattle.table.specs.Table.{cleared, with_row}
use Rattle.vectors.specs.Answers.{answered, extended}
use Rattle.vectors.specs.Buffers.{numbers_in, checksum}
use Rattle.vectors.specs.Rows.{row_in, seen_numbers, row_table}
use Rattle.vectors.proofs.Answers.{joined}
use Rattle.vectors.proofs.Lent.{plain}
use Rattle.vectors.proofs.rows.lent.Goals as goal

pub returns : goal.returns
unfolding row_table
returns c =
    let a = c.args in
    let k = a.row in
    let t = numbers_in a.numbers.now (length a.table.now) in
    let new = with_row t k (row_in a.fields.now) in
    let read = c.numbers.ensures in
    let put = c.put_row.ensures ∙ ap (λ t. with_row t k c.parsed.result) read ∙ ap (with_row t k) c.parsed.ensures in
    let seen = c.seen-seen.result in
    joined (seen_numbers t k) (checksum new ∷ checksum (cleared new) ∷ [])
    (c.extend.ensures
    ∙ ap (λ n. extended seen (n ∷ c.checksum.result ∷ [])) ((c.checksum-put.ensures ∙ plain _) ∙ ap checksum put)
    ∙ ap (λ n. extended seen (checksum new ∷ n ∷ [])) ((c.checksum.ensures ∙ plain _) ∙ ap checksum (c.clear.ensures ∙ ap cleared put)))
    (c.seen-seen.ensures ∙ ap (λ t. answered (seen_numbers t k)) read)
