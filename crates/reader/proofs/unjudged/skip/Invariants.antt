-- `reader::unjudged::skip`: no row is judged up to the one in turn.
use Rattle.std.proofs.Common.{ℕ, ◌+◌, ◌*◌, ◌^◌, ◌≤◌, ◌<◌, ◌≡◌, false}
use Rattle.table.specs.Table.{row_at}
use Rattle.table.proofs.Rests.{rest}
use Rattle.reader.specs.Reading.{own_unknown}
use Rattle.reader.specs.Private.{is_judged}
use Rattle.reader.proofs.unjudged.skip.Given as goal

abbrev pub invariant-loop-i : goal.invariant-loop-i
invariant-loop-i l = record {
  unjudged : (j : ℕ) → l.from ≤ j → j < l.i → is_judged (row_at l.table j) ≡ false;
  bytes : l.before + l.unknown + own_unknown (rest l.table l.nodes l.i) ≡ l.before + own_unknown (rest l.table l.nodes l.from);
  small : l.before + l.unknown ≤ l.i * 2 ^ 33;
}
