-- `props::rest_at`: from the data's start on, or nothing where that is past the end.
use mathlib.Core.Path.{ap, ◌∙◌}
use lib.ListN.{drop}
use Rattle.le.proofs.Laws.{rest_drop}
use Rattle.props.proofs.Laws.{drop_data_at}
use Rattle.props.proofs.rest_at.Goals as goal

pub returns : goal.returns
returns c =
    let a = c.args in
    rest_drop a.body.now c.data_at-start.result ∙ ap (λ k. drop k a.body.now) c.data_at-start.ensures.result ∙ drop_data_at a.body.now a.at
