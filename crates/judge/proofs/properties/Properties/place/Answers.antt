-- `judge::properties::Properties::place`: where the number is found first, there its property starts.
use Rattle.std.proofs.Common.{◌≡◌, None, Some, eqb, rules, sym, ap, get_or, ◌∙◌}
use Rattle.std.specs.Option.{option_map}
use Rattle.std.proofs.lemmas.Iterator.{YieldsList-from_slice}
use Rattle.std.proofs.lemmas.Iterator.Search.{position_from_yields_List}
use borrow.Author.Tests.{tests}
use Rattle.judge.specs.Private.{place_found}
use Rattle.judge.proofs.Named.{at_first}
use Rattle.judge.proofs.properties.Properties.place.Goals as goal
use Rattle.judge.proofs.properties.Properties.place.Goals.{After-position}

found : (c : After-position) → let p = c.args.self.now in option_map (λ i. get_or p.starts.now i 0) c.position.result ≡ place_found p.starts.now p.numbers.now c.args.line
found c =
    let p = c.args.self.now in
    at_first c.args.line p.starts.now p.numbers.now
    (position_from_yields_List (λ n. eqb n c.args.line) _ _ c.position.result c.position.ensures.ran (YieldsList-from_slice p.numbers.now cc) (λ x b q k. search (rules, tests)))

pub returns-in_err-i : goal.returns-in_err-i
returns-in_err-i c =
    let none : c.position.result ≡ None = search rules in
    let told : c.from_residual.result ≡ None = search rules in
    told ∙ ap (option_map (λ i. get_or c.args.self.now.starts.now i 0)) (sym none) ∙ found (goal.at.returns-in_err-i c).After-position

pub returns : goal.returns
returns c =
    let some : c.position.result ≡ Some c.in_ok-i.i = search rules in
    ap (option_map (λ i. get_or c.args.self.now.starts.now i 0)) (sym some) ∙ found (goal.at.returns c).After-position
