-- `text::write_digits`: the digits from `i` on are written, and `rest` has those before them.
use Rattle.text.specs.Text.{digits}
use Rattle.text.proofs.Laws.{stored_none, stored_one}
use Rattle.text.proofs.write_digits.Goals as goal

pub loop-i-init : goal.loop-i-init
loop-i-init c =
    let a = c.args in
    stored_none a.out.now a.at a.base a.k a.n

pub loop-i-preserved : goal.loop-i-preserved
loop-i-preserved c =
    let l = c.loop-i in
    let a = c.args in
    rw c.glyph.ensures (stored_one a.out.now a.at a.base (digits a.base a.k a.n) l.out l.i l.rest c.loop-i-test.true l.invariant)
