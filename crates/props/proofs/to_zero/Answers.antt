-- `props::to_zero`: the zero is the first from the clear place on.
use native.Mathlib.Omega.{arith}
use mathlib.Core.Path.{◌≡◌, ap, ◌∙◌}
use Rattle.std.proofs.Common.{rules, tests}
use Rattle.std.specs.List.{position_or_len}
use Rattle.std.proofs.lemmas.Iterator.{YieldsList-from_slice}
use Rattle.std.proofs.lemmas.Iterator.Search.{position_from_yields_List}
use Rattle.le.proofs.Laws.{rest, rest_drop}
use Rattle.props.specs.Step.{to_zero}
use Rattle.props.proofs.Laws.{is_zero, place_or_len, to_zero_found}
use Rattle.props.proofs.to_zero.Goals as goal

pub returns : goal.returns
returns c =
    let s = c.args.bytes.now in
    let clear = c.clear_of_zeros-clear.result in
    let place : c.unwrap_or.result ≡ position_or_len is_zero (rest s clear)
    = c.unwrap_or.ensures
    ∙ place_or_len is_zero (rest s clear)
    (position_from_yields_List is_zero _ _ c.position.result c.position.ensures.ran (YieldsList-from_slice (rest s clear) cc) (λ x b q k. search (rules, tests))) in
    omega (arith, place, to_zero_found (rest s clear), ap to_zero (rest_drop s clear), c.clear_of_zeros-clear.ensures.1)
