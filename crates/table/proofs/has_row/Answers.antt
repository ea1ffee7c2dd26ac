-- `table::has_row`: the row is among the whole rows of eight.
use Rattle.table.proofs.Rows.{has_row_rows}
use Rattle.table.proofs.has_row.Goals as goal

pub returns : goal.returns
returns c = has_row_rows c.args.table.now c.args.row
