-- `vectors::files::passed`: the walk, or the reading.
use borrow.Author.Tests.{eq-eqb, ne_eqb}
use Rattle.vectors.specs.Files.{file_numbers, file_table}
use Rattle.vectors.proofs.files.passed.Goals as goal

pub returns-then-function-eq30-clause-result : goal.returns-then-function-eq30-clause-result
unfolding file_numbers
returns-then-function-eq30-clause-result c = rw (eq-eqb _ _ c.if-function-eq30.true) c.run.ensures.result

pub returns-then-function-eq30-clause-table : goal.returns-then-function-eq30-clause-table
unfolding file_table
returns-then-function-eq30-clause-table c = rw (eq-eqb _ _ c.if-function-eq30.true) c.run.ensures.table

pub returns-clause-result : goal.returns-clause-result
unfolding file_numbers
returns-clause-result c = rw (ne_eqb _ _ c.if-function-eq30.false) c.run-2.ensures.result

pub returns-clause-table : goal.returns-clause-table
unfolding file_table
returns-clause-table c = rw (ne_eqb _ _ c.if-function-eq30.false) c.run-2.ensures.table
