-- `le::copy_to`: few at once; of many, those up to the next multiple of 16, and then the others.
use native.Mathlib.Omega.{arith}
use Rattle.le.proofs.Puts.{put_two}
use Rattle.le.proofs.copy_to.Goals as goal

pub returns : goal.returns
returns c =
    let a = c.args in
    put_two a.out.now a.bytes.now a.n _ (omega (arith, c.if-n-lt256.false)) c.requires.0 c.copy-2.ensures c.copy-3.ensures
