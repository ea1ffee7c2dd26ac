-- `vectors::reads::shown`: a refusal's numbers.
use mathlib.Core.Path.{ap, sym, ◌∙◌}
use mathlib.Core.List.{[], ◌∷◌}
use Rattle.reader.specs.Reading.{reading_told}
use Rattle.vectors.specs.Answers.{answered}
use Rattle.vectors.specs.Files.{reading_numbers}
use Rattle.vectors.proofs.Answers.{put_after}
use Rattle.vectors.proofs.reads.shown.Goals as goal

pub returns-in-Err : goal.returns-in-Err
unfolding reading_numbers
returns-in-Err c =
    put_after (0 ∷ []) c.push.ensures
    (put_after (0 ∷ 0 ∷ 0 ∷ 0 ∷ []) c.extend.ensures c.of.ensures)
    ∙ ap (λ n. answered (n ∷ c.in-Err.refusal.place ∷ 0 ∷ 0 ∷ 0 ∷ 0 ∷ 0 ∷ 0 ∷ 0 ∷ [])) c.number-number.ensures
    ∙ ap (λ r. answered (reading_numbers (reading_told r))) (sym c.in-Err.is)
