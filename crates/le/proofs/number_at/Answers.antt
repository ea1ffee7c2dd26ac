-- `le::number_at`: fewer than four bytes are the remainder of the four that are read.
use mathlib.Core.Path.{◌≡◌, refl, sym, ap, ◌∙◌}
use Prim.Native.Nat.{ℕ, min, ◌+◌, ◌%◌, ◌^◌}
use native.Mathlib.Omega.{arith}
use Rattle.le.specs.Le.{val, number_at}
use Rattle.le.proofs.Laws.{number_at_short}
use Rattle.le.proofs.number_at.Goals as goal
use Rattle.le.proofs.number_at.Goals.{After-read-four}

-- as many bytes as the match found
width : (c : After-read-four) (w : ℕ) → c.args.width ≡ w
    → number_at (min w 4) c.args.bytes.now c.args.at
    ≡ number_at (min c.args.width 4) c.args.bytes.now c.args.at
width c w e = let a = c.args in ap (λ n. number_at (min n 4) a.bytes.now a.at) (sym e)

remainder : (c : After-read-four) (w v : ℕ) → w + v ≡ 4
    → c.read-four.result % 256 ^ w ≡ number_at w c.args.bytes.now c.args.at
remainder c w v e =
    let a = c.args in
    ap (λ n. n % 256 ^ w) (c.read-four.ensures ∙ ap (λ n. number_at n a.bytes.now a.at) (sym e))
    ∙ number_at_short w v a.bytes.now a.at (λ i. omega (arith, c.type_inv.bytes i))

pub returns-in-0 : goal.returns-in-0
unfolding number_at val
returns-in-0 c = width (goal.at.returns-in-0 c).After-read-four 0 c.in-0.is

pub returns-in-1 : goal.returns-in-1
returns-in-1 c = remainder (goal.at.returns-in-1 c).After-read-four 1 3 refl ∙ width (goal.at.returns-in-1 c).After-read-four 1 c.in-1.is

pub returns-in-2 : goal.returns-in-2
returns-in-2 c = remainder (goal.at.returns-in-2 c).After-read-four 2 2 refl ∙ width (goal.at.returns-in-2 c).After-read-four 2 c.in-2.is

pub returns-in-3 : goal.returns-in-3
returns-in-3 c = remainder (goal.at.returns-in-3 c).After-read-four 3 1 refl ∙ width (goal.at.returns-in-3 c).After-read-four 3 c.in-3.is
