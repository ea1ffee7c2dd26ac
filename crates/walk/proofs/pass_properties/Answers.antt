-- `walk::pass_properties`: none, too many, or a walk over them.
use native.Mathlib.Omega.{arith}
use mathlib.Core.Path.{ap}
use Rattle.body.proofs.Places.{properties_end}
use Rattle.walk.proofs.Nodes.{passed_none, passed_many, passed_few}
use Rattle.walk.proofs.pass_properties.Goals as goal

pub returns-then-count-eq0 : goal.returns-then-count-eq0
returns-then-count-eq0 c = passed_none _ _ c.if-count-eq0.true

pub returns-then-count-gt-MOST_PROPERTIES : goal.returns-then-count-gt-MOST_PROPERTIES
returns-then-count-gt-MOST_PROPERTIES c = rw c.at.ensures (passed_many _ _ c.if-count-gt-MOST_PROPERTIES.true)

pub overflow_add-result : goal.overflow_add-result
overflow_add-result c =
    let a = c.args in
    omega (arith, ap (λ q. q.at) c.in-Ok.ensures, properties_end a.inside.now a.count)

pub overflow_add-start-in-Err : goal.overflow_add-start-in-Err
overflow_add-start-in-Err c =
    let a = c.args in
    omega (arith, ap (λ q. q.at) c.in-Err.ensures, properties_end a.inside.now a.count)

pub returns-in-Ok : goal.returns-in-Ok
returns-in-Ok c = passed_few _ _ c.if-count-gt-MOST_PROPERTIES.false c.in-Ok.ensures

pub returns-in-Err : goal.returns-in-Err
returns-in-Err c = rw c.at-in-Err.ensures (passed_few _ _ c.if-count-gt-MOST_PROPERTIES.false c.in-Err.ensures)
