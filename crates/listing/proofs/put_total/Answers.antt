-- `listing::put_total`.
use Rattle.base.specs.Letters.{letters}
use Rattle.listing.specs.Listing.{labelled, text_of, newline, words_of}
use Rattle.listing.proofs.Laws.{front, puts_first, puts_then}
use Rattle.listing.proofs.put_total.Goals as goal

pub returns : goal.returns
unfolding words_of text_of letters
returns c =
    let out = c.args.out.now in
    let at = c.args.at in
    let t = labelled "total " c.args.bytes in
    let p = puts_first out at t (front out at t newline c.requires) (c.put_decimal-a.ensures.place, c.put_decimal-a.ensures.output) in
    puts_then out at t newline c.requires p (c.put.ensures.place, c.put.ensures.output)
