-- `text::decimal_size`: one more than the logarithm.
use Rattle.text.proofs.Laws.{size_of_log}
use Rattle.text.proofs.decimal_size.Goals as goal

pub returns-clause-result : goal.returns-clause-result
returns-clause-result c =
    let o = c.checked_ilog10 in
    let e = size_of_log c.args.n o.result o.ensures.none o.ensures.power_le o.ensures.next_power_gt o.ensures.bound in
    cc
