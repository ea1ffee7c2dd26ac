-- `vectors::leaves::store`: each width by its function.
use borrow.Author.Tests.{eq-eqb, ne_eqb}
use Rattle.vectors.specs.Leaves.{stored}
use Rattle.vectors.proofs.leaves.store.Goals as goal

pub returns-then-function-eq4 : goal.returns-then-function-eq4
unfolding stored
returns-then-function-eq4 c =
    rw (eq-eqb _ _ c.if-function-eq4.true) c.write.ensures

pub returns-then-function-eq5 : goal.returns-then-function-eq5
unfolding stored
returns-then-function-eq5 c =
    rw (ne_eqb _ _ c.if-function-eq4.false, eq-eqb _ _ c.if-function-eq5.true) c.write-then-function-eq5.ensures

pub returns : goal.returns
unfolding stored
returns c =
    rw (ne_eqb _ _ c.if-function-eq4.false, ne_eqb _ _ c.if-function-eq5.false) c.write-2.ensures
