-- `judge::valued::is_bone`: the number at the start of the data.
use Rattle.std.proofs.Common.{ap, ◌∙◌}
use Rattle.le.specs.Le.{number_at}
use Rattle.judge.specs.Valued.{signed, parent_ok}
use Rattle.judge.proofs.valued.is_bone.Goals as goal

pub returns : goal.returns
returns c =
    let a = c.args in
    c.is_parent.ensures
    ∙ ap (λ p. parent_ok (signed p) a.bones) (c.read.ensures ∙ ap (λ d. number_at 4 d 0) c.rest_at.ensures)
