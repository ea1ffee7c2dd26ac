-- `listing::put`: a line that has room is put.
use native.Mathlib.Omega.{arith}
use Rattle.text.proofs.Laws.{put_short}
use Rattle.listing.specs.Listing.{text_of}
use Rattle.listing.proofs.Laws.{puts_written}
use Rattle.listing.proofs.put.Goals as goal

pub returns-then-out-size : goal.returns-then-out-size
returns-then-out-size c =
    let kept = put_short c.args.out.now 0 (text_of c.args.line) (omega (arith, c.size.ensures.0)) in
    record { length = kept.0; output = kept.1 }

pub returns : goal.returns
returns c =
    let written = puts_written c.args.out.now 0 (text_of c.args.line) (omega (arith, c.size.ensures.0)) c.put_line.ensures in
    record { length = written.0; output = written.1 }
