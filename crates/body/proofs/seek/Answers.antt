-- `body::seek`: what the rest answers is what the whole answers.
use Rattle.std.proofs.Common.{◌≡◌, ◌≤◌, length, Ok, Err, sym, ap, ◌∙◌, rules}
use Rattle.std.proofs.lemmas.Result.{err_from_is_err_and, MatchResult-weaker}
use Rattle.base.specs.Refusals.{reason_number}
use Rattle.base.proofs.Answers.{told}
use Rattle.names.specs.Names.{same}
use Rattle.props.specs.Step.{Past}
use Rattle.props.specs.Step.{step_at, name_at}
use Rattle.body.specs.Body.{RefusedAt, sought_numbers}
use Rattle.body.proofs.Search.{passed_within, passed_name, stepped_at, sought_done, sought_refused, sought_here, sought_later}
use Rattle.body.proofs.seek.Goals as goal
use Rattle.body.proofs.seek.Goals.{After-same, In_ok-passed}

-- past a property
stepped : (c : In_ok-passed) → step_at c.args.body.now c.loop-left.at ≡ Past c.in_ok-passed.passed.offsets c.in_ok-passed.passed.next
stepped c = stepped_at c.args.body.now c.loop-left.at c.step.result (Ok c.in_ok-passed.passed) c.step.ensures.result c.in_ok-passed.ensures.cases

within : (c : In_ok-passed) → let p = c.in_ok-passed.passed in
    (p.offsets.name ≤ p.offsets.start) × (p.offsets.start ≤ length c.args.body.now) × (p.next.at ≤ length c.args.body.now)
within c = passed_within c.args.body.now c.loop-left.at (stepped c)

-- the name that was compared is the property's
named : (c : After-same) → same (name_at c.args.body.now c.loop-left.at) c.args.name.now ≡ c.same.result
named c =
    ap (λ n. same n c.args.name.now) (sym (passed_name c.args.body.now c.loop-left.at (stepped (goal.at.After-same c).In_ok-passed)))
    ∙ sym c.same.ensures

pub slice_bounds-same-count : goal.slice_bounds-same-count
slice_bounds-same-count c = (within (goal.at.slice_bounds-same-count c).In_ok-passed).0

pub slice_bounds-same-start : goal.slice_bounds-same-start
slice_bounds-same-start c = (within (goal.at.slice_bounds-same-start c).In_ok-passed).0

pub slice_bounds-same-end : goal.slice_bounds-same-end
slice_bounds-same-end c = (within (goal.at.slice_bounds-same-end c).In_ok-passed).1

pub returns-then-same : goal.returns-then-same
returns-then-same c =
    let a = c.args in
    let l = c.loop-left in
    let at = goal.at.returns-then-same c in
    let all = told sought_numbers
    (sought_here a.body.now a.name.now l.left l.at c.loop-left-test.true (stepped at.In_ok-passed) (named at.After-same ∙ c.if-same.true) ∙ l.invariant) in
    record { result = all.0; numbers = all.1 }

pub loop-left-preserved : goal.loop-left-preserved
loop-left-preserved c =
    let a = c.args in
    let l = c.loop-left in
    let at = goal.at.loop-left-preserved c in
    sought_later a.body.now a.name.now l.left l.at c.loop-left-test.true (stepped at.In_ok-passed) (named at.After-same ∙ c.if-same.false) ∙ l.invariant

pub returns-in_err-passed : goal.returns-in_err-passed
returns-in_err-passed c =
    let a = c.args in
    let l = c.loop-left in
    let p = err_from_is_err_and c.from_residual.result c.from_residual.ensures.1 in
    let at = stepped_at a.body.now l.at c.step.result (Err c.in_err-passed.field-0.0) c.step.ensures.result
    (MatchResult-weaker c.step.result c.in_err-passed.ensures.cases (λ p e. e) (λ why e. search rules)) in
    let all = told sought_numbers
    (ap (RefusedAt (reason_number c.in_err-passed.field-0.0.reason)) at.1 ∙ sought_refused a.body.now a.name.now l.left l.at c.loop-left-test.true at.0 ∙ l.invariant) in
    rw (p.1, p.2) (record { result = all.0; numbers = all.1 })

pub returns : goal.returns
returns c =
    let a = c.args in
    let all = told sought_numbers (sought_done a.body.now a.name.now c.loop-left.left c.loop-left.at c.loop-left-test.false ∙ c.loop-left.invariant) in
    record { result = all.0; numbers = all.1 }
