-- `text::put_number`: the label is written where digits have room after it, and then the digits.
use native.Mathlib.Omega.{arith}
use mathlib.Core.List.{◌++◌}
use lib.ListN.{length-append}
use Rattle.text.specs.Text.{digits}
use Rattle.text.proofs.Laws.{put_outside, put_short, length_digits, label_digits}
use Rattle.text.proofs.put_number.Goals as goal

pub returns-then-out-at : goal.returns-then-out-at
returns-then-out-at c =
    let a = c.args in
    let both = put_outside a.out.now a.at (a.label.now ++ digits a.base a.k a.n) c.if-out-at.true in
    record { place = both.0; output = both.1 }

pub returns-then-room-k : goal.returns-then-room-k
returns-then-room-k c =
    let a = c.args in
    let all = a.label.now ++ digits a.base a.k a.n in
    let both = put_short a.out.now a.at all (omega (arith, length-append a.label.now (digits a.base a.k a.n), length_digits a.base a.k a.n)) in
    record { place = both.0; output = both.1 }

pub returns-then-room-k-2 : goal.returns-then-room-k-2
returns-then-room-k-2 c =
    let a = c.args in
    let all = a.label.now ++ digits a.base a.k a.n in
    let both = put_short a.out.now a.at all (omega (arith, length-append a.label.now (digits a.base a.k a.n), length_digits a.base a.k a.n)) in
    record { place = both.0; output = both.1 }

pub returns : goal.returns
returns c =
    let a = c.args in
    let d = digits a.base a.k a.n in
    let both = label_digits a.out.now a.at a.label.now d a.k (length_digits a.base a.k a.n) (omega arith) c.put_bytes.ensures c.write_digits.ensures in
    record { place = both.0; output = both.1 }
