-- `vectors::cases::run`: each function by its range.
use borrow.Author.Tests.{lt-ltb, le-ltb}
use Rattle.vectors.specs.Cases.{answer_line}
use Rattle.vectors.proofs.cases.run.Goals as goal

pub returns-then-f-lt10 : goal.returns-then-f-lt10
unfolding answer_line
returns-then-f-lt10 c = rw (lt-ltb _ _ c.if-f-lt10.true) c.run.ensures

pub returns-then-f-lt19 : goal.returns-then-f-lt19
unfolding answer_line
returns-then-f-lt19 c = rw (le-ltb _ _ c.if-f-lt10.false, lt-ltb _ _ c.if-f-lt19.true) c.run-then-f-lt19.ensures

pub returns-then-f-lt30 : goal.returns-then-f-lt30
unfolding answer_line
returns-then-f-lt30 c =
    rw (le-ltb _ _ c.if-f-lt10.false, le-ltb _ _ c.if-f-lt19.false, lt-ltb _ _ c.if-f-lt30.true) c.run-then-f-lt30.ensures

pub returns-then-f-lt32 : goal.returns-then-f-lt32
unfolding answer_line
returns-then-f-lt32 c =
    rw (le-ltb _ _ c.if-f-lt10.false, le-ltb _ _ c.if-f-lt19.false, le-ltb _ _ c.if-f-lt30.false, lt-ltb _ _ c.if-f-lt32.true) c.run-then-f-lt32.ensures

pub returns-then-f-lt37 : goal.returns-then-f-lt37
unfolding answer_line
returns-then-f-lt37 c =
    rw (le-ltb _ _ c.if-f-lt10.false, le-ltb _ _ c.if-f-lt19.false, le-ltb _ _ c.if-f-lt30.false, le-ltb _ _ c.if-f-lt32.false, lt-ltb _ _ c.if-f-lt37.true) c.run-then-f-lt37.ensures

pub returns : goal.returns
unfolding answer_line
returns c =
    rw (le-ltb _ _ c.if-f-lt10.false, le-ltb _ _ c.if-f-lt19.false, le-ltb _ _ c.if-f-lt30.false, le-ltb _ _ c.if-f-lt32.false, le-ltb _ _ c.if-f-lt37.false) c.none.ensures
