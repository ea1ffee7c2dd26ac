-- `names::block_ok`: the fold over the bytes.
use mathlib.Core.Bool.{true, ◌&&◌}
use mathlib.Core.Path.{◌∙◌}
use Rattle.std.proofs.Common.{rules}
use Rattle.std.proofs.lemmas.Iterator.{YieldsList-from_slice}
use Rattle.std.proofs.lemmas.Iterator.Consumers.{fold_from_yields_List}
use Rattle.names.specs.Names.{byte_ok}
use Rattle.names.proofs.Laws.{bytes_folded}
use Rattle.names.proofs.block_ok.Goals as goal

pub returns : goal.returns
returns c =
    let l = c.args.block.now in
    fold_from_yields_List _ (λ ok b. ok && byte_ok b) true c.fold.result c.fold.ensures.ran (YieldsList-from_slice l cc) (λ ok b r q k. search rules) ∙ bytes_folded true l
