-- `vectors::rows::table`: a table that is too long is not lent.
use mathlib.Core.Path.{ap, ◌∙◌}
use lib.ListN.{length}
use lib.Seq.{length-take-le}
use borrow.Author.Tests.{lt-ltb, le-ltb}
use borrow.Author.Rules.{rules}
use Prim.Native.Nat.{◌/◌}
use Rattle.vectors.specs.Answers.{answered}
use Rattle.vectors.specs.Buffers.{numbers_in}
use Rattle.vectors.specs.Rows.{row_in, row_table, table_line}
use Rattle.vectors.proofs.rows.table.Goals as goal

pub returns-then-n-gt8300 : goal.returns-then-n-gt8300
unfolding table_line
returns-then-n-gt8300 c = rw (lt-ltb _ _ c.if-n-gt8300.true) c.none.ensures

pub returns : goal.returns
unfolding table_line
returns c =
    let a = c.args in
    rw (le-ltb _ _ c.if-n-gt8300.false)
    (c.lent.ensures
    ∙ ap (λ n. answered (row_table (numbers_in a.numbers.now n) a.row (row_in a.fields.now))) (length-take-le (length a.numbers.now / 4) c.space-space.result (search rules)))
