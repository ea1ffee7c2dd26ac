-- `listing::parent_size`.
use mathlib.Core.Path.{sym, ap, ◌∙◌}
use lib.ListN.{length}
use native.Mathlib.Omega.{arith}
use Rattle.text.specs.Text.{decimal_size}
use Rattle.text.proofs.Laws.{length_digits}
use Rattle.base.specs.Letters.{letters}
use Rattle.listing.proofs.Laws.{parent_none, parent_some}
use Rattle.listing.proofs.parent_size.Goals as goal

pub returns-then-parent-eq-NO_PARENT : goal.returns-then-parent-eq-NO_PARENT
unfolding letters
returns-then-parent-eq-NO_PARENT c = (sym (ap length (parent_none c.args.parent c.if-parent-eq-NO_PARENT.true)), omega arith)

pub returns : goal.returns
returns c =
    let p = c.args.parent in
    let e = ap length (parent_some p c.if-parent-eq-NO_PARENT.false) ∙ length_digits 10 (decimal_size p) p in
    (c.decimal_size.ensures.result ∙ sym e, c.decimal_size.ensures.bound)
