-- `table::put_row`: both sides of the definition's test.
use mathlib.Core.Path.{sym, ◌∙◌}
use Rattle.table.proofs.Rows.{has_row_fits, with_row_in, with_row_out}
use Rattle.table.proofs.put_row.Goals as goal

pub write_row-requires : goal.write_row-requires
write_row-requires c = has_row_fits _ _ (sym c.has_row.ensures ∙ c.if-has_row.true)

pub returns-then-has_row : goal.returns-then-has_row
returns-then-has_row c =
    let a = c.args in
    c.write_row.ensures ∙ sym (with_row_in a.table.now a.row a.r (sym c.has_row.ensures ∙ c.if-has_row.true))

pub returns-else-has_row : goal.returns-else-has_row
returns-else-has_row c =
    let a = c.args in
    sym (with_row_out a.table.now a.row a.r (sym c.has_row.ensures ∙ c.if-has_row.false))
