-- `reader::unjudged::skip`: no row is judged up to the one in turn.
use Rattle.std.proofs.Common.{◌≡◌, false, sym, ap, ◌∙◌, arith}
use Rattle.table.specs.Table.{row_at}
use Rattle.reader.specs.Private.{is_judged}
use Rattle.reader.proofs.Bare.{one_more, unknown_passed}
use Rattle.reader.proofs.unjudged.skip.Goals as goal

pub loop-i-preserved : goal.loop-i-preserved
loop-i-preserved c =
    let t = c.args.table.now in
    let i = c.loop-i.i in
    let l = c.loop-i.invariant in
    let row = c.row_at-row.ensures in
    let x = c.unknown_bytes-unknown.ensures in
    let not : is_judged (row_at t i) ≡ false = ap is_judged (sym row) ∙ sym c.is_judged.ensures ∙ c.if-is_judged.false in
    record {
      unjudged = one_more (λ k. is_judged (row_at t k) ≡ false) c.args.from i l.unjudged not;
      bytes = omega (arith, unknown_passed t c.args.nodes i c.loop-i-test.true row c.loop-i.unknown x.0, l.bytes);
      small = omega (arith, l.small, x.1);
    }
