-- `props::has_zero`: any by any, from the first to the last.
use mathlib.Core.Path.{◌∙◌}
use mathlib.Core.Bool.{false, ◌||◌}
use Rattle.std.proofs.Common.{rules, tests}
use Rattle.std.proofs.lemmas.Iterator.{YieldsList-from_slice}
use Rattle.std.proofs.lemmas.Iterator.Consumers.{fold_from_yields_List}
use Rattle.props.proofs.Laws.{is_zero, any_from}
use Rattle.props.proofs.has_zero.Goals as goal

pub returns : goal.returns
returns c =
    fold_from_yields_List _ (λ any b. any || is_zero b) false c.fold.result c.fold.ensures.ran (YieldsList-from_slice c.args.block.now cc) (λ a x b q k. search (rules, tests))
    ∙ any_from false c.args.block.now
