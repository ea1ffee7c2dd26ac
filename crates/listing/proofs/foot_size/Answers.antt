-- `listing::foot_size`.
use native.Mathlib.Omega.{arith}
use Rattle.listing.proofs.Whole.{foot_length}
use Rattle.listing.proofs.foot_size.Goals as goal

pub returns : goal.returns
returns c =
    let a = c.args in
    (omega (arith, foot_length a.triangles a.degenerate a.total, c.size-3.ensures.0, c.size-2.ensures.0, c.size.ensures.0), omega arith)
