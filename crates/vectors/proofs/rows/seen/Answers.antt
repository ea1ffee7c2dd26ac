-- `vectors::rows::seen`: the row's numbers between two truths.
use mathlib.Core.Path.{ap, ◌∙◌}
use mathlib.Core.List.{[], ◌∷◌, ◌++◌}
use Rattle.table.specs.Table.{fields, has_row, row_at}
use Rattle.vectors.specs.Answers.{answered, bit}
use Rattle.vectors.specs.Rows.{seen_numbers}
use Rattle.vectors.proofs.Answers.{put_after}
use Rattle.vectors.proofs.rows.seen.Goals as goal

pub returns : goal.returns
unfolding seen_numbers
returns c =
    let t = c.args.table.now in
    let k = c.args.row in
    let r = c.row_at-r.result in
    let b = c.bit.result in
    put_after (b ∷ []) c.push.ensures
    (put_after (r.start ∷ r.end ∷ r.properties ∷ r.children ∷ []) c.extend-2.ensures
    (put_after (r.kind ∷ r.low ∷ r.high ∷ r.parent ∷ []) c.extend.ensures c.truth-there.ensures))
    ∙ ap (λ h. answered (bit h ∷ (fields r ++ (b ∷ [])))) c.has_row.ensures
    ∙ ap (λ r. answered (bit (has_row t k) ∷ (fields r ++ (b ∷ [])))) c.row_at-r.ensures
    ∙ ap (λ b. answered (bit (has_row t k) ∷ (fields (row_at t k) ++ (b ∷ [])))) (c.bit.ensures ∙ ap bit c.has_room.ensures)
