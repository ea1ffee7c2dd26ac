-- `names::read_digits`: the value so far and the digits that are left give what all give, and the value is below 10 ^ i.
use Rattle.std.proofs.Common.{arith, rules, sym, ◌∙◌}
use Rattle.std.proofs.lemmas.List.{at_drop_more, at_drop_all}
use Rattle.std.proofs.lemmas.Bool.Decides.{nat_tests}
use Rattle.names.specs.Names.{read_digits}
use Rattle.names.proofs.Laws.{worth}
use Rattle.names.proofs.read_digits.Goals as goal

pub returns-then-not-is_ascii_digit : goal.returns-then-not-is_ascii_digit
unfolding read_digits
returns-then-not-is_ascii_digit c =
    let e = at_drop_more (read_digits c.loop-b.value) c.args.digits.now c.loop-b.b-index 0 (omega arith) in
    search rules

pub loop-b-preserved : goal.loop-b-preserved
unfolding read_digits
loop-b-preserved c =
    let e = at_drop_more (read_digits c.loop-b.value) c.args.digits.now c.loop-b.b-index 0 (omega arith) in
    let d = c.is_ascii_digit.ensures.bound in
    (worth c.loop-b.b-index c.loop-b.value c.from.result c.loop-b.invariant.0 (grind (arith, nat_tests)), grind arith)

pub returns : goal.returns
unfolding read_digits
returns c = sym (at_drop_all (read_digits c.loop-b.value) c.args.digits.now c.loop-b.b-index (omega arith)) ∙ c.loop-b.invariant.1
