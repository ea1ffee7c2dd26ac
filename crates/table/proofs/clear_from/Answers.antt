-- `table::clear_from`: both sides of the definition's test; zeros are filled into the part from the row on.
use Rattle.table.proofs.ClearingFrom.{clears, cleared_from_in, cleared_from_out}
use Rattle.table.proofs.clear_from.Goals as goal

pub slice_bounds-fill-end : goal.slice_bounds-fill-end
slice_bounds-fill-end c = (clears _ _ c.has_room.ensures c.if-row-has_room.true).1

pub returns-then-row-has_room : goal.returns-then-row-has_room
returns-then-row-has_room c =
    cleared_from_in c.args.row c.args.table.now c.has_room.ensures c.if-row-has_room.true (c.fill.ensures.after (λ y e. e))

pub returns-else-row-has_room : goal.returns-else-row-has_room
returns-else-row-has_room c = cleared_from_out _ _ c.has_room.ensures c.if-row-has_room.false
