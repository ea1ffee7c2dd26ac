-- `judge::properties::value_at`: a width of at most four is read whole.
use native.Mathlib.Nat.{min-eq_left}
use Rattle.std.proofs.Common.{ap, ◌∙◌}
use Rattle.le.specs.Le.{number_at}
use Rattle.faces.specs.Faces.{width_of}
use Rattle.judge.proofs.properties.value_at.Goals as goal

pub returns : goal.returns
returns c =
    let a = c.args in
    c.number_at.ensures
    ∙ ap (λ n. number_at n c.rest_at.result.now 0) (min-eq_left c.width_of-width.ensures.bound ∙ c.width_of-width.ensures.result)
    ∙ ap (λ d. number_at (width_of a.code) d 0) c.rest_at.ensures
