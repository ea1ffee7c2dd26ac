-- `vectors::parts::run`: each function by its number.
use native.Mathlib.Omega.{arith}
use mathlib.Core.Path.{ap, ◌∙◌}
use mathlib.Core.List.{[], ◌∷◌}
use borrow.Author.Tests.{ne_eqb}
use Prim.Native.Nat.{◌%◌}
use Rattle.kinds.specs.Kinds.{may_stand}
use Rattle.vectors.specs.Answers.{answered, bit}
use Rattle.vectors.specs.Parts.{part_line}
use Rattle.vectors.proofs.parts.run.Goals as goal

pub returns-in-10 : goal.returns-in-10
unfolding part_line
returns-in-10 c = rw c.in-10.is c.element.ensures

pub returns-in-11 : goal.returns-in-11
unfolding part_line
returns-in-11 c = rw c.in-11.is c.name.ensures

pub returns-in-12 : goal.returns-in-12
unfolding part_line
returns-in-12 c = rw c.in-12.is (c.truth.ensures ∙ ap (λ b. answered (bit b ∷ [])) c.same.ensures)

pub returns-in-13 : goal.returns-in-13
unfolding part_line
returns-in-13 c = rw c.in-13.is c.numbered.ensures

pub returns-in-14 : goal.returns-in-14
unfolding part_line
returns-in-14 c = rw c.in-14.is (c.truth-in-14.ensures ∙ ap (λ b. answered (bit b ∷ [])) c.known.ensures)

pub returns-in-15 : goal.returns-in-15
unfolding part_line
returns-in-15 c =
    rw c.in-15.is (c.truth-in-15.ensures ∙ ap (λ b. answered (bit b ∷ [])) (c.may_stand.ensures ∙ ap (λ p. may_stand p (c.args.f.y % 4294967296)) c.above.ensures))

pub returns-in-16 : goal.returns-in-16
unfolding part_line
returns-in-16 c = rw c.in-16.is c.step.ensures

pub returns-in-17 : goal.returns-in-17
unfolding part_line
returns-in-17 c = rw c.in-17.is c.index.ensures

pub returns-in_default : goal.returns-in_default
unfolding part_line
returns-in_default c =
    let f = c.args.f.function in
    simp (ne_eqb f 10 (omega arith), ne_eqb f 11 (omega arith), ne_eqb f 12 (omega arith), ne_eqb f 13 (omega arith), ne_eqb f 14 (omega arith), ne_eqb f 15 (omega arith), ne_eqb f 16 (omega arith), ne_eqb f 17 (omega arith))
    (c.truth-in_default.ensures ∙ ap (λ b. answered (bit b ∷ [])) c.exact.ensures)
