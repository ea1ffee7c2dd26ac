-- `walk::walk`: the file's header, and then its nodes.
use native.Mathlib.Omega.{arith}
use mathlib.Core.Path.{refl, sym, ◌∙◌}
use lib.ListN.{length-drop}
use Rattle.std.proofs.lemmas.Result.{err_from_is_err_and}
use Rattle.base.proofs.Answers.{clauses}
use Rattle.base.proofs.Refusals.{numbered}
use Rattle.walk.proofs.Whole.{too_long_lem, no_cast, no_version, nodes_refused, nodes_done}
use Rattle.walk.proofs.walk.Goals as goal

pub returns-then-file-gt-MOST_BYTES : goal.returns-then-file-gt-MOST_BYTES
returns-then-file-gt-MOST_BYTES c =
    let all = clauses (too_long_lem _ _ c.if-file-gt-MOST_BYTES.true refl) in
    rw c.at.ensures (record { result = all.0; table = all.1.0; bound = all.1.1; place = omega arith })

pub returns-then-not-is_cast : goal.returns-then-not-is_cast
returns-then-not-is_cast c =
    let all = clauses (no_cast _ _ c.if-file-gt-MOST_BYTES.false (sym c.is_cast.ensures ∙ c.if-not-is_cast.true) refl) in
    rw c.at-then-not-is_cast.ensures (record { result = all.0; table = all.1.0; bound = all.1.1; place = omega arith })

pub returns-then-read-ne1 : goal.returns-then-read-ne1
returns-then-read-ne1 c =
    let all = clauses
    (no_version _ _ c.if-file-gt-MOST_BYTES.false (sym c.is_cast.ensures ∙ c.if-not-is_cast.false)
    (λ e. c.if-read-ne1.true (c.read.ensures ∙ e)) refl) in
    rw c.at-then-read-ne1.ensures (record { result = all.0; table = all.1.0; bound = all.1.1; place = omega arith })

pub returns-in_err-w : goal.returns-in_err-w
returns-in_err-w c =
    let p = err_from_is_err_and c.from_residual.result c.from_residual.ensures.1 in
    let file = c.args.file.now in
    let all = clauses
    (nodes_refused _ _ c.if-file-gt-MOST_BYTES.false (sym c.is_cast.ensures ∙ c.if-not-is_cast.false) (sym c.read.ensures ∙ c.if-read-ne1.false)
    c.read-roots.ensures c.in_err-w.ensures (numbered c.in_err-w.field-0.0.reason) refl) in
    rw (p.1, p.2)
    (record { result = all.0; table = all.1.0; bound = all.1.1; place = omega (arith, c.in_err-w.ensures.within, length-drop 16 file) })

pub returns : goal.returns
returns c =
    let all = clauses
    (nodes_done _ _ c.if-file-gt-MOST_BYTES.false (sym c.is_cast.ensures ∙ c.if-not-is_cast.false) (sym c.read.ensures ∙ c.if-read-ne1.false)
    c.read-roots.ensures c.in_ok-w.ensures refl c.read-flags.ensures) in
    record { result = all.0; table = all.1.0; bound = all.1.1; place = omega arith }
