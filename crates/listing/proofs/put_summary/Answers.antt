-- `listing::put_summary`.
use mathlib.Core.List.{◌++◌}
use Rattle.base.specs.Letters.{letters}
use Rattle.listing.specs.Listing.{labelled, text_of, newline, words_of}
use Rattle.listing.proofs.Laws.{front, puts_first, puts_then}
use Rattle.listing.proofs.put_summary.Goals as goal

pub returns : goal.returns
unfolding words_of text_of letters
returns c =
    let out = c.args.out.now in
    let at = c.args.at in
    let t1 = labelled "cast 1 flags " c.args.flags in
    let t2 = labelled " nodes " c.args.nodes in
    let t3 = labelled " bytes " c.args.bytes in
    let room3 = front out at (t1 ++ t2 ++ t3) newline c.requires in
    let room2 = front out at (t1 ++ t2) t3 room3 in
    let p1 = puts_first out at t1 (front out at t1 t2 room2) (c.put_decimal-a.ensures.place, c.put_decimal-a.ensures.output) in
    let p2 = puts_then out at t1 t2 room2 p1 (c.put_decimal-b.ensures.place, c.put_decimal-b.ensures.output) in
    let p3 = puts_then out at (t1 ++ t2) t3 room3 p2 (c.put_decimal-c.ensures.place, c.put_decimal-c.ensures.output) in
    puts_then out at (t1 ++ t2 ++ t3) newline c.requires p3 (c.put.ensures.place, c.put.ensures.output)
