-- `vectors::rows::query`: a table that is too long is not lent, nor one that the block does not have.
use lib.Seq.{length-take-le}
use borrow.Author.Tests.{lt-ltb, le-ltb}
use borrow.Author.Rules.{rules}
use Prim.Native.Nat.{◌*◌}
use Rattle.le.proofs.Laws.{rest_drop}
use Rattle.vectors.specs.Rows.{query_line}
use Rattle.vectors.proofs.rows.query.Goals as goal

pub returns-then-n-gt8300 : goal.returns-then-n-gt8300
unfolding query_line
returns-then-n-gt8300 c = rw (lt-ltb _ _ c.if-n-gt8300.true) c.none.ensures

pub returns-then-second-end : goal.returns-then-second-end
unfolding query_line
returns-then-second-end c = rw (le-ltb _ _ c.if-n-gt8300.false, lt-ltb _ _ c.if-second-end.true) c.none-then-second-end.ensures

pub returns : goal.returns
unfolding query_line
returns c =
    let a = c.args in
    rw (le-ltb _ _ c.if-n-gt8300.false, le-ltb _ _ c.if-second-end.false)
    (rw (length-take-le a.n c.space-space.result (search rules), rest_drop a.second.now (a.n * 4)) at c.lookup.ensures)
