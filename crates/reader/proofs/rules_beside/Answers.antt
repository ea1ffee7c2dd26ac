-- `reader::rules_beside`: where the rules count no link, none fails.
use native.Mathlib.Omega.{arith}
use Rattle.table.specs.Table.{rows_at}
use Rattle.reader.proofs.Linking.{none_judged}
use Rattle.reader.proofs.rules_beside.Goals as goal

pub returns : goal.returns
returns c =
    let a = c.args.walked in
    let x = c.in_ok-j.ensures in
    none_judged a.file.now (rows_at a.table.now 0 a.nodes) x.result (omega arith) (λ z. x.unknown) c.if-j-ne0.false
