-- `rules::has_name`: another first letter, the same letter alone, or the name as it stands, or with a number.
use native.Mathlib.Omega.{arith}
use mathlib.Core.Path.{sym, ◌∙◌}
use borrow.Author.Tests.{eqb-true}
use Rattle.std.proofs.Common.{rules}
use Rattle.rules.specs.Packing.{line_of}
use Rattle.rules.proofs.Names.{lists_other, lists_letter}
use Rattle.rules.proofs.has_name.Goals as goal
use Rattle.rules.proofs.has_name.Goals.{else-not-is_empty-via-then-not-is_empty+else-own-letter, else-not-is_empty-via-else-not-is_empty}

pub returns-then-own-letter : goal.returns-then-own-letter
returns-then-own-letter c =
    let a = c.args in
    sym (lists_other a.name.now (line_of a.line.now) (search rules) (λ e. c.if-own-letter.true (e ∙ sym c.requires)))

pub returns-then-not-line : goal.returns-then-not-line
returns-then-not-line c =
    let a = c.args in
    let one = c.if-own-eq1.true in
    elim c.else-not-is_empty.branch [
      | else-not-is_empty-via-then-not-is_empty+else-own-letter w ↦
          sym (lists_letter a.name.now (line_of a.line.now) one (omega (arith, c.if-name-eq1.true)) c.if-not-line.true (w.if-own-letter.false ∙ c.requires))
      | else-not-is_empty-via-else-not-is_empty w ↦ absurd (omega (arith, one, eqb-true _ 0 (sym c.is_empty.ensures ∙ w.if-not-is_empty.false)))
    ]
