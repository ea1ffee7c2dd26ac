-- `props::name_at`: from past the header to the data.
use native.Mathlib.Omega.{arith}
use mathlib.Core.Path.{ap, ◌∙◌}
use Prim.Native.Nat.{◌+◌, ◌-◌}
use lib.ListN.{take, drop}
use Rattle.props.proofs.Laws.{name_none, name_part}
use Rattle.props.proofs.name_at.Goals as goal

pub returns-then-data-lt8 : goal.returns-then-data-lt8
returns-then-data-lt8 c =
    let a = c.args in
    name_none a.body.now a.at (omega (arith, c.data_at-data.ensures.result))

pub returns-then-data-at : goal.returns-then-data-at
returns-then-data-at c =
    let a = c.args in
    name_none a.body.now a.at (omega (arith, c.data_at-data.ensures.result))

pub returns : goal.returns
returns c =
    let a = c.args in
    ap (λ n. take (n - (a.at + 8)) (drop (a.at + 8) a.body.now)) c.data_at-data.ensures.result ∙ name_part a.body.now a.at
