-- `listing::put_pair`.
use mathlib.Core.List.{◌++◌}
use Rattle.text.specs.Text.{decimal}
use Rattle.base.specs.Letters.{letters}
use Rattle.listing.specs.Listing.{newline}
use Rattle.listing.proofs.Laws.{front, puts_first, puts_then}
use Rattle.listing.proofs.put_pair.Goals as goal

pub returns : goal.returns
unfolding letters
returns c =
    let out = c.args.out.now in
    let at = c.args.at in
    let t1 = c.args.a.now ++ decimal c.args.m in
    let t2 = c.args.b.now ++ decimal c.args.n in
    let room2 = front out at (t1 ++ t2) newline c.requires in
    let p1 = puts_first out at t1 (front out at t1 t2 room2) (c.put_decimal-next.ensures.place, c.put_decimal-next.ensures.output) in
    let p2 = puts_then out at t1 t2 room2 p1 (c.put_decimal-last.ensures.place, c.put_decimal-last.ensures.output) in
    puts_then out at (t1 ++ t2) newline c.requires p2 (c.put.ensures.place, c.put.ensures.output)
