-- `le::read`: the number at the start of the part from the place on; zero past the end.
use mathlib.Core.Path.{sym, ap, ◌∙◌}
use mathlib.Core.List.{[]}
use native.Mathlib.Nat.{add-zero}
use native.Mathlib.Omega.{arith}
use Rattle.le.specs.Le.{number_at}
use Rattle.le.proofs.Laws.{number_at_past, number_at_rest}
use Rattle.le.proofs.read.Goals as goal

pub returns-then-at-bytes : goal.returns-then-at-bytes
returns-then-at-bytes g c =
    let w = g.T.Number.width in
    let l = c.args.bytes.now in
    c.first.ensures ∙ number_at_rest w l c.args.at 0 ∙ ap (number_at w l) (add-zero c.args.at)

pub returns-else-at-bytes : goal.returns-else-at-bytes
returns-else-at-bytes g c =
    let w = g.T.Number.width in
    c.first-else-at-bytes.ensures ∙ number_at_past w [] 0 (omega arith) ∙ sym (number_at_past w c.args.bytes.now c.args.at c.if-at-bytes.false)
