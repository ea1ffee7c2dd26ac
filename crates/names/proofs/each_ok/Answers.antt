-- `names::each_ok`: what `all` says of the bytes.
use mathlib.Core.Path.{◌∙◌}
use Rattle.std.proofs.Common.{rules, tests}
use Rattle.std.proofs.lemmas.Iterator.{YieldsList-from_slice}
use Rattle.std.proofs.lemmas.Iterator.Search.{all_from_yields_List}
use Rattle.names.specs.Names.{byte_ok}
use Rattle.names.proofs.Laws.{bytes_all}
use Rattle.names.proofs.each_ok.Goals as goal

pub returns : goal.returns
returns c =
    let l = c.args.name.now in
    all_from_yields_List byte_ok _ _ c.all.result c.all.ensures.ran (YieldsList-from_slice l cc) (λ x b q k. search (rules, tests)) ∙ bytes_all l
