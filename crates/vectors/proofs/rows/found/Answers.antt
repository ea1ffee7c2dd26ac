-- `vectors::rows::found`: where the data lies, and its checksum.
use mathlib.Core.Path.{ap, ◌∙◌}
use mathlib.Core.List.{[], ◌∷◌}
use Rattle.lookup.specs.Lookup.{lookup_of, part_of}
use Rattle.vectors.specs.Answers.{answered, extended}
use Rattle.vectors.specs.Buffers.{checksum}
use Rattle.vectors.specs.Rows.{found_numbers, lookup_numbers}
use Rattle.vectors.proofs.Answers.{joined}
use Rattle.vectors.proofs.Lent.{plain}
use Rattle.vectors.proofs.rows.found.Goals as goal

pub returns : goal.returns
unfolding lookup_numbers
returns c =
    let a = c.args in
    let there = lookup_of a.bytes.now a.table.now a.row a.name.now in
    joined (found_numbers there) (checksum (part_of a.bytes.now there) ∷ [])
    (c.push.ensures ∙ ap (λ n. extended c.place-place.result (n ∷ [])) ((c.checksum.ensures ∙ plain _) ∙ ap checksum c.«data».ensures))
    (c.place-place.ensures ∙ ap (λ f. answered (found_numbers f)) c.find.ensures.result)
