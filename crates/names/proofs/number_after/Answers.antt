-- `names::number_after`: a name shorter than the prefix, another prefix, or the number after the prefix.
use mathlib.Core.Path.{sym, ◌∙◌}
use lib.Seq.{length-take-le}
use Rattle.base.proofs.Answers.{told}
use Rattle.names.specs.Names.{numeral_numbers}
use Rattle.names.proofs.Laws.{numbered_short, numbered_other, numbered_by}
use Rattle.names.proofs.number_after.Goals as goal

pub returns-then-name-n : goal.returns-then-name-n
returns-then-name-n c =
    let both = told numeral_numbers (sym (numbered_short _ _ c.if-name-n.true)) in
    record { result = both.0; numbers = both.1 }

pub slice_bounds-same-end : goal.slice_bounds-same-end
slice_bounds-same-end c = sym (length-take-le _ c.args.name.now c.if-name-n.false)

pub returns-then-not-same : goal.returns-then-not-same
returns-then-not-same c =
    let both = told numeral_numbers (sym (numbered_other _ _ (sym c.same.ensures ∙ c.if-not-same.true))) in
    record { result = both.0; numbers = both.1 }

pub returns : goal.returns
returns c =
    let both = told numeral_numbers (c.number.ensures ∙ sym (numbered_by _ _ (sym c.same.ensures ∙ c.if-not-same.false))) in
    record { result = both.0; numbers = both.1 }
