-- `writer::write`: 20, then what judging says, then what emitting says.
use native.Mathlib.Omega.{arith}
use mathlib.Core.Path.{refl, ap, sym, ◌∙◌}
use Rattle.std.proofs.lemmas.Result.{err_from_is_err_and}
use Rattle.base.proofs.Refusals.{numbered}
use Rattle.base.specs.Refusals.{reason_number, refusal_in}
use Rattle.base.specs.declared.Refusal.{Refusal as CodeRefusal}
use Rattle.emit.specs.Emission.{refused_writing}
use Rattle.writer.proofs.Writing.{no_plan_lem, bad_row, emitted}
use Rattle.writer.proofs.write.Goals as goal

pub returns-then-not-is_plan : goal.returns-then-not-is_plan
returns-then-not-is_plan c =
    let a = c.args in
    let all =
    no_plan_lem a.plan.now a.source.now a.flags a.out.now (sym c.is_plan.ensures ∙ c.if-not-is_plan.true)
    (ap (λ (r : CodeRefusal). refused_writing (reason_number r.reason) r.place) c.at.ensures) in
    record { result = all.0; output = all.1; place = rw c.at.ensures (omega arith) }

pub returns-in_err-judged : goal.returns-in_err-judged
returns-in_err-judged c =
    let a = c.args in
    let r = c.in_err-judged.field-0.0 in
    let p = err_from_is_err_and c.from_residual.result c.from_residual.ensures.1 in
    let all =
    bad_row a.plan.now a.source.now a.flags a.out.now (sym c.is_plan.ensures ∙ c.if-not-is_plan.false) (omega (arith, c.row_count-rows.ensures)) (ap refusal_in (sym c.in_err-judged.was) ∙ c.check-judged.ensures.result)
    (numbered r.reason) refl in
    record { result = rw (p.1, p.2) all.0; output = all.1; place = rw (p.1, p.2) (rw c.in_err-judged.was at c.check-judged.ensures.bound) }

pub returns : goal.returns
returns c =
    let a = c.args in
    let all =
    emitted a.plan.now a.source.now a.flags a.out.now (sym c.is_plan.ensures ∙ c.if-not-is_plan.false) (omega (arith, c.row_count-rows.ensures)) (ap refusal_in (sym c.in_ok-judged.was) ∙ c.check-judged.ensures.result)
    refl c.row_count-rows.ensures c.emit.ensures.result c.emit.ensures.output in
    record { result = all.0; output = all.1; place = omega (arith, c.emit.ensures.place) }
