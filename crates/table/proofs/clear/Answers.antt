-- `table::clear`: both sides of the definition's test.
use Prim.Native.Nat.{ℕ}
use native.Mathlib.Omega.{arith}
use mathlib.Core.Path.{sym, ◌∙◌}
use lib.ListN.{length-take}
use Rattle.table.proofs.Clearing.{has_room_fits, zeroed_filled, cleared_in, cleared_out}
use Rattle.table.proofs.clear.Goals as goal

pub slice_bounds-fill-end : goal.slice_bounds-fill-end
slice_bounds-fill-end c = omega (arith, has_room_fits c.args.table.now (sym c.has_room.ensures ∙ c.if-has_room.true))

pub slice_bounds-fill-end-then-has_room : goal.slice_bounds-fill-end-then-has_room
slice_bounds-fill-end-then-has_room c = omega (arith, length-take {A = ℕ}, has_room_fits c.args.table.now (sym c.has_room.ensures ∙ c.if-has_room.true))

pub returns-then-has_room : goal.returns-then-has_room
returns-then-has_room c =
    let t = c.args.table.now in
    let room = sym c.has_room.ensures ∙ c.if-has_room.true in
    zeroed_filled 8192 t (has_room_fits t room) (c.fill.ensures.after (λ y e. e)) ∙ sym (cleared_in t room)

pub returns-else-has_room : goal.returns-else-has_room
returns-else-has_room c = sym (cleared_out c.args.table.now (sym c.has_room.ensures ∙ c.if-has_room.false))
