-- `vectors::walks::walked`: a refused file's rows are cleared.
use mathlib.Core.Path.{ap, ◌∙◌}
use Rattle.table.specs.Table.{cleared}
use Rattle.vectors.specs.Files.{walked_table}
use Rattle.vectors.proofs.Reasons.{reason_eqb}
use Rattle.vectors.proofs.walks.walked.Goals as goal

pub returns-in-Ok-clause-table : goal.returns-in-Ok-clause-table
unfolding walked_table
returns-in-Ok-clause-table c = rw (← c.in-Ok.ensures.result) c.in-Ok.ensures.table

pub returns-in-Err-clause-table : goal.returns-in-Err-clause-table
unfolding walked_table
returns-in-Err-clause-table c =
    rw (← c.in-Err.ensures.result, reason_eqb c.in-Err.refusal.reason) (c.clear.ensures ∙ ap cleared c.in-Err.ensures.table)
