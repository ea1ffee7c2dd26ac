-- `trimmer::trim`: what the reading refuses, or what is removed of what it accepts.
use native.Mathlib.Omega.{arith}
use mathlib.Core.Path.{sym, subst}
use Rattle.std.proofs.lemmas.Result.{err_from_is_err_and}
use Rattle.base.specs.Refusals.{reason_number}
use Rattle.le.specs.Le.{AreBytes}
use Rattle.trimmer.specs.Private.{Read}
use Rattle.trimmer.proofs.Trimming.{is_read, trimmed, trimmed_refused}
use Rattle.trimmer.proofs.trim.Goals as goal

pub remove-requires : goal.remove-requires
remove-requires c =
    let a = c.args in
    let r = c.in_ok-account.account in
    let bytes : AreBytes a.file.now = λ i. omega (arith, c.type_inv.file i) in
    subst (λ u. Read a.file.now u r.nodes r.flags) (sym c.read.ensures.table)
    (is_read a.file.now a.table.now bytes r (sym c.in_ok-account.ensures.result))

pub returns : goal.returns
returns c =
    let a = c.args in
    let bytes : AreBytes a.file.now = λ i. omega (arith, c.type_inv.file i) in
    let e = c.remove.ensures in
    let all =
    trimmed a.file.now a.table.now bytes c.in_ok-account.account (sym c.in_ok-account.ensures.result) a.row a.out.now _ c.read.ensures.table _ _ _
    (e.result, (e.output, e.table)) in
    record { result = all.0; output = all.1.0; table = all.1.1; place = rw e.place (omega arith) }

pub returns-in_err-account : goal.returns-in_err-account
returns-in_err-account c =
    let a = c.args in
    let r = c.in_err-account.field-0.0 in
    let p = err_from_is_err_and c.from_residual.result c.from_residual.ensures.1 in
    let is = trimmed_refused a.file.now a.table.now (reason_number r.reason) r.place a.row a.out.now _ (sym c.in_err-account.ensures.result) c.read.ensures.table in
    record { result = rw (p.1, p.2) is.0; output = is.1.0; table = is.1.1; place = rw (p.1, p.2) c.in_err-account.ensures.place }
