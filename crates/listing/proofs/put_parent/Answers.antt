-- `listing::put_parent`.
use mathlib.Core.List.{◌++◌}
use Rattle.text.specs.Text.{decimal}
use Rattle.base.specs.Letters.{letters}
use Rattle.listing.proofs.Laws.{puts_first, parent_none, parent_some}
use Rattle.listing.proofs.put_parent.Goals as goal

pub returns-then-parent-eq-NO_PARENT : goal.returns-then-parent-eq-NO_PARENT
unfolding letters
returns-then-parent-eq-NO_PARENT c =
    let e = parent_none c.args.parent c.if-parent-eq-NO_PARENT.true in
    rw e (puts_first c.args.out.now c.args.at (letters " parent -") (rw e at c.requires) (c.put.ensures.place, c.put.ensures.output))

pub returns : goal.returns
unfolding letters
returns c =
    let e = parent_some c.args.parent c.if-parent-eq-NO_PARENT.false in
    rw e (puts_first c.args.out.now c.args.at (letters " parent " ++ decimal c.args.parent) (rw e at c.requires) (c.put_decimal.ensures.place, c.put_decimal.ensures.output))
