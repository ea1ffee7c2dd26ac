-- `names::number`: each refusal by its law, else the digits.
use mathlib.Core.Path.{sym, ◌∙◌}
use Rattle.names.proofs.Laws.{number_size, number_leading, number_read_digits}
use Rattle.names.proofs.number.Goals as goal

pub returns-then-n-eq0 : goal.returns-then-n-eq0
returns-then-n-eq0 c = sym (number_size _ c.then-n-eq0.either)

pub returns-then-digits-n : goal.returns-then-digits-n
returns-then-digits-n c = sym (number_leading _ c.if-digits-n.true)

pub returns : goal.returns
returns c =
    c.read_digits.ensures ∙ sym (number_read_digits _ c.if-n-eq0.false c.if-n-gt3.false c.if-digits-n.false)
