-- `judge::typed::last_letters`: what stands before the name is shifted out.
use Rattle.std.proofs.Common.{◌+◌, ◌-◌, ◌≤◌, length, ap, ◌∙◌, arith}
use Rattle.le.specs.Le.{number_at}
use Rattle.le.proofs.Laws.{number_at_part}
use Rattle.judge.proofs.Typing.{name_within, no_letters, some_letters, short_letters}
use Rattle.judge.proofs.typed.last_letters.Goals as goal
use Rattle.judge.proofs.typed.last_letters.Goals.{Else-n-gt8}

pub returns-then-n-eq0 : goal.returns-then-n-eq0
returns-then-n-eq0 c = no_letters c.args.name.now c.if-n-eq0.true

pub returns-then-n-gt8 : goal.returns-then-n-gt8
returns-then-n-gt8 c = some_letters c.args.name.now c.read.ensures

-- a name that has letters lies in the body
inside : (c : Else-n-gt8) → let a = c.args in a.at + length a.name.now + 8 ≤ length a.body.now
inside c =
    let a = c.args in
    omega (arith, name_within a.body.now a.at c.requires, c.if-n-eq0.false)

pub overflow_add-from : goal.overflow_add-from
overflow_add-from c = omega (arith, inside (goal.at.overflow_add-from c).Else-n-gt8)

pub overflow_add-end : goal.overflow_add-end
overflow_add-end c = omega (arith, inside (goal.at.overflow_add-end c).Else-n-gt8)

pub slice_bounds-read-count : goal.slice_bounds-read-count
slice_bounds-read-count c = omega (arith, inside (goal.at.slice_bounds-read-count c).Else-n-gt8)

pub slice_bounds-read-start : goal.slice_bounds-read-start
slice_bounds-read-start c = omega (arith, inside (goal.at.slice_bounds-read-start c).Else-n-gt8)

pub slice_bounds-read-end : goal.slice_bounds-read-end
slice_bounds-read-end c = omega (arith, inside (goal.at.slice_bounds-read-end c).Else-n-gt8)

pub returns : goal.returns
returns c =
    let a = c.args in
    let from = a.at + length a.name.now in
    short_letters a.body.now a.at c.requires (λ i. omega (arith, c.type_inv.body i)) (omega (arith, c.if-n-gt8.false))
    (c.read-2.ensures ∙ number_at_part 8 (from + 8 - from) a.body.now from 0 (omega arith) ∙ ap (number_at 8 a.body.now) (omega arith))
