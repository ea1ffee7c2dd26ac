-- `vectors::buffers::checksum`: each number is taken in turn.
use mathlib.Core.Path.{◌≡◌, ◌∙◌}
use borrow.Author.Rules.{rules}
use Rattle.std.specs.List.{fold}
use Rattle.std.proofs.iter.runs.Made.{chains}
use Rattle.vectors.specs.Buffers.{taking, checksum}
use Rattle.vectors.proofs.Lent.{folded}
use Rattle.vectors.proofs.buffers.checksum.Goals as goal

pub returns : goal.returns
unfolding checksum
returns g c =
    let ns = c.args.numbers.now in
    let value = g.T.Number.value in
    let e : c.fold.result ≡ fold (λ s x. taking s (value x)) 2166136261 ns = search (rules, chains) in
    e ∙ folded value 2166136261 ns
