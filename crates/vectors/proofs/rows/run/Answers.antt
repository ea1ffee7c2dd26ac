-- `vectors::rows::run`: the table, or the lookup.
use borrow.Author.Tests.{eq-eqb, ne_eqb}
use Rattle.vectors.specs.Rows.{row_line}
use Rattle.vectors.proofs.rows.run.Goals as goal

pub returns-then-f-eq19 : goal.returns-then-f-eq19
unfolding row_line
returns-then-f-eq19 c = rw (eq-eqb _ _ c.if-f-eq19.true) c.table.ensures

pub returns : goal.returns
unfolding row_line
returns c = rw (ne_eqb _ _ c.if-f-eq19.false) c.query.ensures
