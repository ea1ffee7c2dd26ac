-- `vectors::listings::line`: each line by its number.
use native.Mathlib.Omega.{arith}
use Rattle.std.proofs.lemmas.Bool.Decides.{nat_tests}
use mathlib.Core.Path.{ap, sym}
use Rattle.vectors.specs.Listings.{line_in}
use Rattle.vectors.proofs.listings.line.Goals as goal

pub returns-in-0 : goal.returns-in-0
unfolding line_in
returns-in-0 c =
    let a = c.args in
    rw (c.read.ensures, c.read-in-0.ensures, c.read-in-0-2.ensures)
    (ap (λ k. line_in k a.block.now a.fields.now) (sym c.in-0.is))

pub returns-in-1 : goal.returns-in-1
unfolding line_in
returns-in-1 c =
    let a = c.args in
    rw (c.read-in-1.ensures, c.parsed.ensures)
    (ap (λ k. line_in k a.block.now a.fields.now) (sym c.in-1.is))

pub returns-in-2 : goal.returns-in-2
unfolding line_in
returns-in-2 c =
    let a = c.args in
    ap (λ k. line_in k a.block.now a.fields.now) (sym c.in-2.is)

pub returns-in-3 : goal.returns-in-3
unfolding line_in
returns-in-3 c =
    let a = c.args in
    rw (c.read-in-3.ensures, c.read-in-3-2.ensures)
    (ap (λ k. line_in k a.block.now a.fields.now) (sym c.in-3.is))

pub returns-in-4 : goal.returns-in-4
unfolding line_in
returns-in-4 c =
    let a = c.args in
    rw c.read-in-4.ensures
    (ap (λ k. line_in k a.block.now a.fields.now) (sym c.in-4.is))

pub returns-in-5 : goal.returns-in-5
unfolding line_in
returns-in-5 c =
    let a = c.args in
    rw (c.read-in-5.ensures, c.read-in-5-2.ensures)
    (ap (λ k. line_in k a.block.now a.fields.now) (sym c.in-5.is))

pub returns-in_default : goal.returns-in_default
unfolding line_in
returns-in_default c = grind (arith, nat_tests)
