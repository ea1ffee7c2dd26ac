-- `vectors::outputs::put`: each function by its range.
use borrow.Author.Tests.{lt-ltb, le-ltb}
use Rattle.vectors.specs.Outputs.{put_numbers, put_output}
use Rattle.vectors.proofs.outputs.put.Goals as goal

pub returns-then-f-lt34-clause-result : goal.returns-then-f-lt34-clause-result
unfolding put_numbers
returns-then-f-lt34-clause-result c = rw (lt-ltb _ _ c.if-f-lt34.true) c.run.ensures.result

pub returns-then-f-lt34-clause-output : goal.returns-then-f-lt34-clause-output
unfolding put_output
returns-then-f-lt34-clause-output c = rw (lt-ltb _ _ c.if-f-lt34.true) c.run.ensures.output

pub returns-then-f-lt36-clause-result : goal.returns-then-f-lt36-clause-result
unfolding put_numbers
returns-then-f-lt36-clause-result c =
    rw (le-ltb _ _ c.if-f-lt34.false, lt-ltb _ _ c.if-f-lt36.true) c.run-then-f-lt36.ensures.result

pub returns-then-f-lt36-clause-output : goal.returns-then-f-lt36-clause-output
unfolding put_output
returns-then-f-lt36-clause-output c =
    rw (le-ltb _ _ c.if-f-lt34.false, lt-ltb _ _ c.if-f-lt36.true) c.run-then-f-lt36.ensures.output

pub returns-clause-result : goal.returns-clause-result
unfolding put_numbers
returns-clause-result c =
    rw (le-ltb _ _ c.if-f-lt34.false, le-ltb _ _ c.if-f-lt36.false) c.run-2.ensures.result

pub returns-clause-output : goal.returns-clause-output
unfolding put_output
returns-clause-output c =
    rw (le-ltb _ _ c.if-f-lt34.false, le-ltb _ _ c.if-f-lt36.false) c.run-2.ensures.output
