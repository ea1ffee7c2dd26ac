-- `vectors::parts::index`: the index and the walk's end, and the checksum of the places.
use mathlib.Core.Path.{ap, ◌∙◌}
use mathlib.Core.List.{[], ◌∷◌}
use Rattle.body.specs.Body.{Index, Passed, properties, index_of, passed_told}
use Rattle.vectors.specs.declared.answer.Answer.{Answer}
use Rattle.vectors.specs.Answers.{answered}
use Rattle.vectors.specs.Buffers.{checksum}
use Rattle.vectors.specs.Parts.{index_numbers}
use Rattle.vectors.proofs.Lent.{plain}
use Rattle.vectors.proofs.parts.index.Goals as goal

-- the answer of an index, and of the walk's end
unfoldable told : Index → Passed → Answer
told i p = answered (i.number ∷ i.count ∷ p.number ∷ p.at ∷ checksum i.starts ∷ [])

pub returns : goal.returns
unfolding index_numbers told
returns c =
    let w = properties c.args.body.now c.args.count in
    let p = c.ended-number.ensures in
    simp (c.stopped.ensures, p.number, p.place, c.checksum.ensures, plain) at c.of.ensures
    ∙ ap (λ i. told i (passed_told c.pass.result)) c.index_of-index.ensures.result
    ∙ ap (told (index_of w)) c.pass.ensures
