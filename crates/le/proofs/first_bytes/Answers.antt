-- `le::first_bytes`: the bytes are the first of those there.
use mathlib.Core.Path.{ap, ◌∙◌}
use native.Mathlib.Omega.{arith}
use Rattle.le.specs.Le.{number_at}
use Rattle.le.proofs.Laws.{number_at_part}
use Rattle.le.proofs.first_bytes.Goals as goal

pub returns-in-Some : goal.returns-in-Some
returns-in-Some g c =
    ap (λ l. number_at g.row.N l 0) c.in-Some.ensures.cases.same ∙ number_at_part g.row.N g.row.N c.args.bytes.now 0 0 (omega arith)
