-- `reader::unjudged::is_judged`: of an unknown node, of one with properties, and of one without.
use mathlib.Core.Path.{sym, ◌∙◌}
use Rattle.reader.proofs.Bare.{unknown_unjudged, properties_judged, required_judged}
use Rattle.reader.proofs.unjudged.is_judged.Goals as goal

pub returns-then-not-known : goal.returns-then-not-known
returns-then-not-known c =
    unknown_unjudged c.args.row (sym c.requires ∙ c.if-not-known.true)

pub returns-then-row-ne0 : goal.returns-then-row-ne0
returns-then-row-ne0 c =
    properties_judged c.args.row (sym c.requires ∙ c.if-not-known.false) c.if-row-ne0.true

pub returns : goal.returns
returns c =
    required_judged c.args.row (sym c.requires ∙ c.if-not-known.false) c.if-row-ne0.false c.required_of.ensures
