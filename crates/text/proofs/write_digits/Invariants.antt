-- `text::write_digits`: the digits from `i` on are written, and `rest` has those before them.
use Rattle.text.specs.Text.{digits}
use Rattle.text.proofs.Laws.{Stored}
use Rattle.text.proofs.write_digits.Given as goal

abbrev pub invariant-loop-i : goal.invariant-loop-i
invariant-loop-i l = Stored l.initial.out l.at l.base (digits l.base l.k l.n) l.out l.i l.rest
