-- `body::exact`: the walk ends, at the end; or it is refused.
use mathlib.Core.Path.{sym, ap, ◌∙◌}
use mathlib.Core.Bool.{◌&&◌}
use lib.Dec.{eqb}
use lib.ListN.{length}
use borrow.Author.Tests.{ne_eqb}
use Rattle.base.proofs.Refusals.{numbered}
use Rattle.body.specs.Body.{Passed}
use Rattle.body.specs.Body.{exactly}
use Rattle.body.proofs.exact.Goals as goal

pub returns-in-Ok : goal.returns-in-Ok
unfolding exactly
returns-in-Ok c =
    let a = c.args in
    ap (λ (p : Passed). eqb p.number 0 && eqb p.at (length a.body.now)) c.in-Ok.ensures

pub returns-in-Err : goal.returns-in-Err
unfolding exactly
returns-in-Err c =
    let a = c.args in
    let r = c.in-Err.field-0 in
    ap (λ b. b && eqb r.place (length a.body.now)) (sym (ne_eqb _ 0 (numbered r.reason)))
    ∙ ap (λ (p : Passed). eqb p.number 0 && eqb p.at (length a.body.now)) c.in-Err.ensures
