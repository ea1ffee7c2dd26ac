-- `vectors::rows::place`: where the data lies, or zeros.
use mathlib.Core.Path.{ap, sym, ◌∙◌}
use mathlib.Core.List.{[], ◌∷◌}
use Rattle.lookup.specs.Lookup.{found_told}
use Rattle.vectors.specs.Answers.{answered}
use Rattle.vectors.specs.Rows.{places_of, found_numbers}
use Rattle.vectors.proofs.rows.place.Goals as goal

pub returns-in-Ok : goal.returns-in-Ok
unfolding places_of
returns-in-Ok c = c.of.ensures ∙ ap (λ f. answered (found_numbers (found_told f))) (sym c.in-Ok.is)

pub returns-in-Err : goal.returns-in-Err
unfolding places_of
returns-in-Err c =
    c.of-in-Err.ensures
    ∙ ap (λ n. answered (n ∷ 0 ∷ 0 ∷ 0 ∷ [])) c.number.ensures
    ∙ ap (λ f. answered (found_numbers (found_told f))) (sym c.in-Err.is)
