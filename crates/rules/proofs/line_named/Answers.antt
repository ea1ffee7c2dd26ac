-- `rules::line_named`: the place of the first that has the name.
use mathlib.Core.Path.{sym, ap, ◌∙◌}
use Rattle.std.proofs.Common.{length}
use Rattle.std.specs.Option.{unwrap_or}
use Rattle.rules.proofs.Laws.{is_place}
use Rattle.rules.proofs.line_named.Goals as goal

pub returns : goal.returns
returns c =
    let a = c.args in
    c.unwrap_or.ensures ∙ ap (λ o. unwrap_or o (length a.lines.now)) c.position.ensures ∙ sym (is_place a.name.now a.lines.now)
