-- `listing::list_read`: the buffer has room for any listing.
use native.Mathlib.Omega.{arith}
use mathlib.Core.Path.{◌≡◌, ◌∙◌}
use Prim.Native.Nat.{◌+◌, ◌≤◌}
use lib.ListN.{length, take}
use Rattle.std.proofs.lemmas.Grind.{common_steps}
use Rattle.le.proofs.Laws.{bytes_take}
use Rattle.text.proofs.Laws.{after_put, written_put, after_within}
use Rattle.listing.specs.Listing.{listing_of}
use Rattle.listing.proofs.Statements.{no_longer}
use Rattle.listing.proofs.list_read.Goals as goal

pub returns : goal.returns
returns c =
    let a = c.args in
    let first = take a.n a.read.now in
    let text = listing_of first in
    let out = a.out.now in
    let same : take c.min.result a.read.now ≡ first = grind (arith, common_steps, c.min.ensures, c.told-read) in
    let p = rw same at c.list.ensures in
    let room : 0 + length text ≤ length out = omega (arith, no_longer first (bytes_take a.n a.read.now (λ i. omega (arith, c.fits-read i)))) in
    record {
      length = p.length ∙ after_put out 0 text room ∙ omega arith;
      output = p.output ∙ written_put out 0 text room;
      within = after_within out 0 text (omega arith) (p.length, p.output);
    }
