-- `body::pass`: none, too many, or a search for the empty name.
use native.Mathlib.Omega.{arith}
use mathlib.Core.Path.{◌≡◌, sym, ap, ◌∙◌}
use mathlib.Core.List.{[]}
use Rattle.std.specs.Prelude.{Result, Ok, Err}
use Rattle.std.proofs.lemmas.Result.{err_from_is_err_and}
use Rattle.base.specs.declared.Refusal.{Refusal}
use Rattle.body.specs.declared.Sought.{Sought}
use Rattle.body.specs.Body.{properties, end_of, passed_told, sought, sought_told}
use Rattle.body.proofs.Laws.{many, few, done}
use Rattle.body.proofs.Search.{sought_end, sought_all}
use Rattle.body.proofs.pass.Goals as goal
use Rattle.body.proofs.pass.Goals.{After-seek}

-- the search ends as the walk does
ended : (c : After-seek) (r : Result Sought Refusal) → sought_told r ≡ sought c.args.body.now [] c.args.count 0
    → sought_end (sought_told r) ≡ end_of (properties c.args.body.now c.args.count)
ended c r e =
    let a = c.args in
    ap sought_end e ∙ sought_all a.body.now a.count 0 ∙ ap end_of (few a.body.now a.count c.if-count-gt-MOST_PROPERTIES.false)

pub returns-then-count-eq0 : goal.returns-then-count-eq0
returns-then-count-eq0 c =
    let a = c.args in
    ap end_of (sym (done a.body.now a.count 0 (omega (arith, c.if-count-eq0.true))) ∙ few a.body.now a.count (omega (arith, c.if-count-eq0.true)))

pub returns-then-count-gt-MOST_PROPERTIES : goal.returns-then-count-gt-MOST_PROPERTIES
returns-then-count-gt-MOST_PROPERTIES c =
    let a = c.args in
    ap (λ r. passed_told (Err r)) c.at.ensures ∙ ap end_of (many a.body.now a.count c.if-count-gt-MOST_PROPERTIES.true)

pub returns-in-Found : goal.returns-in-Found
returns-in-Found c = ap (λ s. sought_end (sought_told (Ok s))) (sym c.in-Found.is) ∙ ended (goal.at.returns-in-Found c).After-seek (Ok c.in_ok-end.field-0) c.in_ok-end.ensures.result

pub returns-in-Nowhere : goal.returns-in-Nowhere
returns-in-Nowhere c =
    ap (λ s. sought_end (sought_told (Ok s))) (sym c.in-Nowhere.is) ∙ ended (goal.at.returns-in-Nowhere c).After-seek (Ok c.in_ok-end.field-0) c.in_ok-end.ensures.result

pub returns-in_err-end : goal.returns-in_err-end
returns-in_err-end c =
    let p = err_from_is_err_and c.from_residual.result c.from_residual.ensures.1 in
    rw (p.1, p.2) (ended (goal.at.returns-in_err-end c).After-seek (Err c.in_err-end.field-0.0) c.in_err-end.ensures.result)
