-- `vectors::walks::run`: a table without room is left.
use mathlib.Core.Path.{ap, sym, ◌≡◌, ◌∙◌}
use mathlib.Core.Bool.{true, false}
use Rattle.table.specs.Table.{has_room}
use Rattle.vectors.specs.Files.{walk_numbers, walked_table, walk_table}
use Rattle.vectors.proofs.walks.run.Goals as goal

pub returns-then-not-has_room-clause-result : goal.returns-then-not-has_room-clause-result
unfolding walk_numbers
returns-then-not-has_room-clause-result c =
    let room : has_room c.args.table.now ≡ false = sym c.has_room.ensures ∙ c.if-not-has_room.true in
    rw room c.of.ensures

pub returns-then-not-has_room-clause-table : goal.returns-then-not-has_room-clause-table
unfolding walk_table
returns-then-not-has_room-clause-table c =
    let room : has_room c.args.table.now ≡ false = sym c.has_room.ensures ∙ c.if-not-has_room.true in
    rw room

pub returns-clause-result : goal.returns-clause-result
unfolding walk_numbers
returns-clause-result c =
    let room : has_room c.args.table.now ≡ true = sym c.has_room.ensures ∙ c.if-not-has_room.false in
    rw room c.walked.ensures.result

pub returns-clause-table : goal.returns-clause-table
unfolding walk_table
returns-clause-table c =
    let room : has_room c.args.table.now ≡ true = sym c.has_room.ensures ∙ c.if-not-has_room.false in
    rw room (c.walked.ensures.table ∙ ap (walked_table c.args.file.now) c.clear.ensures)
