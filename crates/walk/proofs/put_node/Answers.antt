-- `walk::put_node`: the row of the header, put.
use mathlib.Core.Path.{ap, ◌∙◌}
use Rattle.table.specs.Table.{with_row}
use Rattle.walk.proofs.Nodes.{row_is}
use Rattle.walk.proofs.put_node.Goals as goal

pub returns : goal.returns
returns c =
    c.put_row.ensures ∙ ap (with_row _ _) (row_is _ c.requires.0 _ _ _ c.read.ensures c.read-2.ensures)
