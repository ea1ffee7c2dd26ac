-- `props::clear_of_zeros`: the blocks before the first that has a zero are passed whole.
use Prim.Native.Nat.{◌/◌}
use native.Mathlib.Omega.{arith}
use mathlib.Core.Path.{◌≡◌, ap, ◌∙◌}
use lib.ListN.{length}
use Rattle.std.proofs.Common.{rules, tests}
use Rattle.std.specs.List.{position_or_len}
use Rattle.std.proofs.lemmas.Iterator.{YieldsList-from_slice}
use Rattle.std.proofs.lemmas.Iterator.Search.{position_from_yields_List}
use Rattle.props.proofs.Laws.{has_zero, place_or_len, blocks_clear}
use Rattle.props.proofs.clear_of_zeros.Goals as goal

pub returns : goal.returns
returns c =
    let s = c.args.bytes.now in
    let blocks = c.as_chunks.result.0.now in
    let place : c.unwrap_or.result ≡ position_or_len has_zero blocks
    = c.unwrap_or.ensures
    ∙ place_or_len has_zero blocks
    (position_from_yields_List has_zero _ _ c.position.result c.position.ensures.ran (YieldsList-from_slice blocks cc) (λ x b q k. search (rules, tests))) in
    let all = blocks_clear (length s / 64) s (omega arith) (place ∙ ap (position_or_len has_zero) c.as_chunks.ensures.front) in
    (omega (arith, all.0), all.1)
