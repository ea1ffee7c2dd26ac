-- `listing::put_node_line`: the parts of the line, one after the other.
use mathlib.Core.List.{List, ◌++◌}
use Prim.Native.Nat.{ℕ, ◌+◌, ◌≤◌}
use lib.ListN.{length}
use Rattle.text.specs.Text.{hexadecimal}
use Rattle.base.specs.Letters.{letters}
use Rattle.format.specs.Rows.{own_bytes}
use Rattle.listing.specs.Listing.{parent_text, labelled, text_of, newline, words_of}
use Rattle.listing.specs.Private.{Puts}
use Rattle.listing.proofs.Laws.{front, puts_first, puts_then, puts_both, room_after}
use Rattle.listing.proofs.put_node_line.Goals as goal
use Rattle.listing.proofs.put_node_line.Goals.{After-put_hexadecimal-b}

module _ (c : After-put_hexadecimal-b) where
  abbrev out : List ℕ
  out = c.args.out.now

  abbrev at : ℕ
  at = c.args.at

  abbrev t1 : List ℕ
  t1 = labelled "row " c.args.index

  abbrev t2 : List ℕ
  t2 = letters " kind " ++ hexadecimal c.args.row.kind

  abbrev t3 : List ℕ
  t3 = letters " parent " ++ parent_text c.args.row.parent

  abbrev t4 : List ℕ
  t4 = labelled " own " (own_bytes c.args.row)

  room4 : at + length (t1 ++ t2 ++ t3 ++ t4) ≤ length out
  unfolding words_of text_of
  room4 = front out at (t1 ++ t2 ++ t3 ++ t4) newline c.requires

  room3 : at + length (t1 ++ t2 ++ t3) ≤ length out
  room3 = front out at (t1 ++ t2 ++ t3) t4 room4

  first_two : Puts out at (t1 ++ t2) c.put_hexadecimal-b.result c.put_hexadecimal-b.new.out
  unfolding letters
  first_two =
      let room2 = front out at (t1 ++ t2) t3 room3 in
      puts_then out at t1 t2 room2 (puts_first out at t1 (front out at t1 t2 room2) (c.put_decimal-a.ensures.place, c.put_decimal-a.ensures.output)) (c.put_hexadecimal-b.ensures.place, c.put_hexadecimal-b.ensures.output)

pub put_parent-c-requires : goal.put_parent-c-requires
put_parent-c-requires c = let h = (goal.at.put_parent-c-requires c).After-put_hexadecimal-b in room_after (out h) (at h) (t1 h ++ t2 h) (t3 h) (room3 h) (first_two h)

pub returns : goal.returns
unfolding words_of text_of letters
returns c =
    let h = (goal.at.returns c).After-put_hexadecimal-b in
    let own = c.own_bytes-own.ensures.result in
    let three = puts_both (out h) (at h) (t1 h ++ t2 h) (t3 h) (first_two h) c.put_parent-c.ensures in
    let four = puts_then (out h) (at h) (t1 h ++ t2 h ++ t3 h) (t4 h) (room4 h) three (rw own at c.put_decimal-d.ensures.place, rw own at c.put_decimal-d.ensures.output) in
    puts_then (out h) (at h) (t1 h ++ t2 h ++ t3 h ++ t4 h) newline c.requires four (c.put.ensures.place, c.put.ensures.output)
