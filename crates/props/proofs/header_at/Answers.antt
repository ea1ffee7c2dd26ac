-- `props::header_at`: the header in the part that starts at its place, or none past the end.
use native.Mathlib.Omega.{arith}
use mathlib.Core.Path.{◌∙◌}
use Prim.Native.Nat.{◌+◌, ◌-◌}
use Rattle.props.proofs.Header.{header_part, header_rest, header_past}
use Rattle.props.proofs.header_at.Goals as goal

pub returns-then-n-at : goal.returns-then-n-at
returns-then-n-at c = let a = c.args in header_past a.body.now a.at (omega arith)

pub returns-then-n-at-lt8 : goal.returns-then-n-at-lt8
returns-then-n-at-lt8 c =
    let a = c.args in
    c.header_of.ensures ∙ header_rest a.body.now a.at

pub returns : goal.returns
returns c =
    let a = c.args in
    c.header_of-2.ensures ∙ header_part a.body.now a.at (a.at + 8 - a.at) (omega arith)
