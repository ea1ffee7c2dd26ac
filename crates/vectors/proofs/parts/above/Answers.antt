-- `vectors::parts::above`: a parent is one more than its kind, and none is 0.
use Prim.Native.Nat.{ℕ, ◌-◌, ◌%◌, ◌≤◌}
use native.Mathlib.Omega.{arith}
use mathlib.Core.Path.{◌≡◌, ap}
use borrow.Author.Tests.{eq-eqb, ne_eqb}
use Rattle.std.specs.Prelude.{Some}
use Rattle.vectors.specs.Parts.{parent_of}
use Rattle.vectors.proofs.parts.above.Goals as goal

pub returns-in_err-kind : goal.returns-in_err-kind
unfolding parent_of
returns-in_err-kind c =
    let none : c.args.parent ≡ 0 = omega (arith, c.in_err-kind.ensures) in
    rw (eq-eqb _ _ none) c.from_residual.ensures

pub returns : goal.returns
unfolding parent_of
returns c =
    let there : (1 ≤ c.args.parent) × (c.in_ok-kind.kind ≡ c.args.parent - 1) = c.in_ok-kind.ensures in
    rw (ne_eqb c.args.parent 0 (omega arith)) (ap (λ (k : ℕ). Some (k % 4294967296)) there.1)
