-- `body::first_named`: where the first property of the name is found.
use Rattle.std.proofs.Common.{rules, ◌∙◌}
use Rattle.std.proofs.lemmas.Iterator.{YieldsList-from_slice}
use Rattle.std.proofs.lemmas.Iterator.Search.{position_from_yields_List}
use borrow.Author.Tests.{tests}
use Rattle.names.specs.Names.{same}
use Rattle.props.specs.Step.{name_at}
use Rattle.body.proofs.Laws.{found_first}
use Rattle.body.proofs.first_named.Goals as goal

pub returns-clause-result : goal.returns-clause-result
returns-clause-result c =
    let a = c.args in
    c.unwrap_or.ensures
    ∙ found_first a.body.now a.name.now a.starts.now
    (position_from_yields_List (λ at. same (name_at a.body.now at) a.name.now) _ _ c.position.result c.position.ensures.ran (YieldsList-from_slice a.starts.now cc) (λ x b q k. search (rules, tests)))
