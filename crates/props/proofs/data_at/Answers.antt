-- `props::data_at`: past the header and its name, or the end.
use native.Mathlib.Omega.{arith}
use mathlib.Core.Path.{◌≡◌, sym, ap, ◌∙◌}
use Rattle.props.specs.declared.PropertyHeader.{PropertyHeader}
use Rattle.props.specs.Step.{size_at}
use Rattle.props.proofs.Laws.{data_here, data_past}
use Rattle.props.proofs.data_at.Goals as goal
use Rattle.props.proofs.data_at.Goals.{After-from-data}

-- the name size that was read
size : (c : After-from-data) → c.from-data.result ≡ size_at c.args.body.now c.args.at
size c = c.from-data.ensures ∙ ap (λ (h : PropertyHeader). h.size) c.header_at.ensures

pub returns-then-n-at-clause-result : goal.returns-then-n-at-clause-result
returns-then-n-at-clause-result c = sym (data_past c.args.body.now c.args.at (omega arith))

pub returns-then-n-at-2-clause-result : goal.returns-then-n-at-2-clause-result
returns-then-n-at-2-clause-result c =
    sym (data_past c.args.body.now c.args.at (omega (arith, size (goal.at.returns-then-n-at-2-clause-result c).After-from-data)))

pub returns-clause-result : goal.returns-clause-result
returns-clause-result c =
    let read = size (goal.at.returns-clause-result c).After-from-data in
    omega (arith, read, data_here c.args.body.now c.args.at (omega (arith, read)))
