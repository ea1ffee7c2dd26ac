-- `vectors::writes::run`: a plan that is too long is not lent.
use mathlib.Core.Path.{ap, ◌∙◌}
use lib.ListN.{length}
use lib.Seq.{length-take-le}
use borrow.Author.Tests.{lt-ltb, le-ltb}
use borrow.Author.Rules.{rules}
use Prim.Native.Nat.{◌/◌}
use Rattle.vectors.specs.Answers.{answered}
use Rattle.vectors.specs.Buffers.{numbers_in}
use Rattle.vectors.specs.Writes.{plan_numbers, plan_output, write_numbers, write_output}
use Rattle.vectors.proofs.writes.run.Goals as goal

pub returns-then-n-gt8300-clause-result : goal.returns-then-n-gt8300-clause-result
unfolding write_numbers
returns-then-n-gt8300-clause-result c = rw (lt-ltb _ _ c.if-n-gt8300.true) c.none.ensures

pub returns-then-n-gt8300-clause-output : goal.returns-then-n-gt8300-clause-output
unfolding write_output
returns-then-n-gt8300-clause-output c = rw (lt-ltb _ _ c.if-n-gt8300.true)

pub returns-clause-result : goal.returns-clause-result
unfolding write_numbers
returns-clause-result c =
    let a = c.args in
    let s = a.numbers.now in
    let n = length-take-le (length s / 4) c.space-space.result (search rules) in
    rw (le-ltb _ _ c.if-n-gt8300.false)
    (c.lent.ensures.result ∙ ap (λ n. answered (plan_numbers a.f a.source.now (numbers_in s n) (length a.out.now))) n)

pub returns-clause-output : goal.returns-clause-output
unfolding write_output
returns-clause-output c =
    let a = c.args in
    let s = a.numbers.now in
    let n = length-take-le (length s / 4) c.space-space.result (search rules) in
    rw (le-ltb _ _ c.if-n-gt8300.false)
    (c.lent.ensures.output ∙ ap (λ n. plan_output a.f a.source.now (numbers_in s n) a.out.now) n)
