-- `vectors::outputs::run`: an output that is too long is not lent.
use mathlib.Core.Path.{ap, ◌∙◌}
use lib.Seq.{length-take-le}
use borrow.Author.Tests.{lt-ltb, le-ltb}
use borrow.Author.Rules.{rules}
use Rattle.vectors.specs.Answers.{answered}
use Rattle.vectors.specs.Buffers.{filling}
use Rattle.vectors.specs.Outputs.{into_output, output_line}
use Rattle.vectors.proofs.outputs.run.Goals as goal

pub returns-then-n-gt98304 : goal.returns-then-n-gt98304
unfolding output_line
returns-then-n-gt98304 c = rw (lt-ltb _ _ c.if-n-gt98304.true) c.none.ensures

pub returns : goal.returns
unfolding output_line
returns c =
    let a = c.args in
    rw (le-ltb _ _ c.if-n-gt98304.false)
    (c.lent.ensures
    ∙ ap (λ n. answered (into_output a.f a.first.now a.second.now (filling a.f.seed n))) (length-take-le a.f.y c.space-space.result (search rules)))
