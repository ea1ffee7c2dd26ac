-- `plan::check`: the rows naming each row are counted first.
use Rattle.std.proofs.Common.{◌≤◌, ◌∙◌, rules, ap, min, arith}
use lib.ListN.{length-replicate}
use native.Mathlib.Nat.{min-eq_left}
use Prim.Native.Nat.{ℕ}
use Rattle.std.specs.Prelude.{None}
use Rattle.table.specs.Table.{rows_at}
use Rattle.table.proofs.Counts.{counts_tell}
use Rattle.plan.specs.Plan.{naming, plan_refusal}
use Rattle.plan.proofs.check.Goals as goal

pub check_rows-requires : goal.check_rows-requires
check_rows-requires c =
    let few : c.min-n.result ≤ 1024 = omega arith in
    let rows = rows_at c.args.plan.now 0 in (
      few,
      search rules,
      λ p b.
          counts_tell None (rows (min c.min-n.result 1024)) _ c.count_under.ensures p (omega (arith, b, length-replicate {A = ℕ} 1024 0))
          ∙ ap (λ n. naming (rows n) p) (min-eq_left few),
    )

pub returns-clause-result : goal.returns-clause-result
returns-clause-result c =
    let a = c.args in
    c.check_rows.ensures.0 ∙ ap (λ n. plan_refusal a.source.now (rows_at a.plan.now 0 n)) c.min-n.ensures
