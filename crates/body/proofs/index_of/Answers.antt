-- `body::index_of`: the array so far, and the starts of the rest, are the index of the whole.
use Rattle.std.proofs.Common.{◌≡◌, ◌+◌, ◌-◌, arith, sym, ap, ◌∙◌}
use native.Mathlib.Nat.{sub-zero}
use Rattle.body.specs.Body.{pass, index_of}
use Rattle.body.proofs.Laws.{many, few, done, passed, refused, index_from, index_whole, index_after, index_stop}
use Rattle.body.proofs.index_of.Goals as goal

pub returns-then-count-gt-MOST_PROPERTIES-clause-result : goal.returns-then-count-gt-MOST_PROPERTIES-clause-result
returns-then-count-gt-MOST_PROPERTIES-clause-result c =
    let a = c.args in
    ap index_of (many a.body.now a.count c.if-count-gt-MOST_PROPERTIES.true)

pub loop-i-init : goal.loop-i-init
loop-i-init c =
    let a = c.args in
    rw (sub-zero a.count) (index_whole (pass a.body.now a.count 0) ∙ ap index_of (few a.body.now a.count c.if-count-gt-MOST_PROPERTIES.false))

pub loop-i-preserved : goal.loop-i-preserved
loop-i-preserved c =
    let s = c.args.body.now in
    let l = c.loop-i in
    let k = c.args.count - l.i in
    let next : c.args.count - (l.i + 1) ≡ k - 1 = omega arith in
    rw next
    (sym (ap (index_from l.starts l.i) (passed s k l.at (omega arith) (sym c.in-Ok.ensures.result)) ∙ index_after l.starts l.i l.at (pass s (k - 1) c.in-Ok.passed.next.at))
    ∙ l.invariant)

pub returns-in-Err-clause-result : goal.returns-in-Err-clause-result
returns-in-Err-clause-result c =
    let s = c.args.body.now in
    let l = c.loop-i in
    sym (ap (index_from l.starts l.i) (refused s (c.args.count - l.i) l.at (omega arith) (sym c.in-Err.ensures.result)) ∙ index_stop l.starts l.i _ l.at)
    ∙ l.invariant

pub returns-clause-result : goal.returns-clause-result
returns-clause-result c =
    let s = c.args.body.now in
    let l = c.loop-i in
    let all : l.i ≡ c.args.count = omega arith in
    rw all at (sym (ap (index_from l.starts l.i) (done s (c.args.count - l.i) l.at (omega arith)) ∙ index_stop l.starts l.i 0 l.at) ∙ l.invariant)
