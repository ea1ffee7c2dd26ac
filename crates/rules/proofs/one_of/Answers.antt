-- `rules::one_of`: any of the strings of the set.
use mathlib.Core.Path.{sym, ap, ◌∙◌}
use Rattle.rules.specs.Rules.{is_one_of}
use Rattle.rules.proofs.Laws.{is_any}
use Rattle.rules.proofs.one_of.Goals as goal

pub returns : goal.returns
returns c =
    let bytes = c.args.bytes.now in
    c.some_stands.ensures ∙ sym (is_any (λ s. s.now) c.strings_of.result.now bytes) ∙ ap (λ set. is_one_of set bytes) c.strings_of.ensures
