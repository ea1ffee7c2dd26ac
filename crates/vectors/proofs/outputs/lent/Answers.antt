-- `vectors::outputs::lent`: the answer's numbers, and the checksum of the output.
use mathlib.Core.Path.{ap, ◌∙◌}
use mathlib.Core.List.{[], ◌∷◌}
use lib.ListN.{length}
use Rattle.vectors.specs.Answers.{answered, extended}
use Rattle.vectors.specs.Buffers.{filling, checksum}
use Rattle.vectors.specs.Outputs.{put_numbers, put_output, into_output}
use Rattle.vectors.proofs.Answers.{joined}
use Rattle.vectors.proofs.Lent.{plain}
use Rattle.vectors.proofs.outputs.lent.Goals as goal

pub returns : goal.returns
unfolding into_output
returns c =
    let a = c.args in
    let filled = c.fill.ensures in
    let out = filling a.f.seed (length a.out.now) in
    joined (put_numbers a.f a.first.now a.second.now out) (checksum (put_output a.f a.first.now a.second.now out) ∷ [])
    (c.push.ensures
    ∙ ap (λ n. extended c.put-answer.result (n ∷ []))
    ((c.checksum.ensures ∙ plain _) ∙ ap checksum (c.put-answer.ensures.output ∙ ap (put_output a.f a.first.now a.second.now) filled)))
    (c.put-answer.ensures.result ∙ ap (λ o. answered (put_numbers a.f a.first.now a.second.now o)) filled)
