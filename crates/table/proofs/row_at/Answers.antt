-- `table::row_at`: the chunk of the row, where there is one.
use native.Mathlib.Omega.{arith}
use mathlib.Core.Path.{ap, ◌∙◌}
use mathlib.Core.List.{[]}
use lib.ListN.{get_or}
use Rattle.table.proofs.Rows.{row_at_chunk, row_at_none}
use Rattle.table.proofs.row_at.Goals as goal

pub returns-in-Some : goal.returns-in-Some
returns-in-Some c =
    let a = c.args in
    let there = c.in-Some.ensures.lookup.3 in
    row_at_chunk a.table.now a.row (omega (arith, there.0, c.as_chunks.ensures.front_len)) (there.1 [] ∙ ap (λ l. get_or l a.row []) c.as_chunks.ensures.front)

pub returns-in-None : goal.returns-in-None
returns-in-None c =
    c.blank.ensures ∙ row_at_none c.args.table.now c.args.row (omega (arith, c.in-None.ensures.lookup.3, c.as_chunks.ensures.front_len))
