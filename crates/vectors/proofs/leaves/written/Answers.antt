-- `vectors::leaves::written`: an output that is too long is not lent.
use mathlib.Core.Path.{ap, ◌∙◌}
use mathlib.Core.List.{[], ◌∷◌}
use lib.Seq.{length-take-le}
use borrow.Author.Tests.{lt-ltb, le-ltb}
use borrow.Author.Rules.{rules}
use Rattle.vectors.specs.Answers.{answered}
use Rattle.vectors.specs.Buffers.{filling, checksum}
use Rattle.vectors.specs.Leaves.{stored, written_line}
use Rattle.vectors.proofs.leaves.written.Goals as goal

pub returns-then-len-gt4096 : goal.returns-then-len-gt4096
unfolding written_line
returns-then-len-gt4096 c = rw (lt-ltb _ _ c.if-len-gt4096.true) c.none.ensures

pub returns : goal.returns
unfolding written_line
returns c =
    let f = c.args.f in
    rw (le-ltb _ _ c.if-len-gt4096.false)
    (c.lent.ensures
    ∙ ap (λ n. answered (checksum (stored f.function f.x f.y (filling f.seed n)) ∷ []))
    (length-take-le c.args.len c.buffer-space.result (search rules)))
