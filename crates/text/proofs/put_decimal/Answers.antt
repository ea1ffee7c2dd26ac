-- `text::put_decimal`: as many digits as the number has.
use mathlib.Core.Path.{ap, ◌∙◌}
use mathlib.Core.List.{◌++◌}
use Rattle.text.specs.Text.{digits, place_after, with_text}
use Rattle.text.proofs.put_decimal.Goals as goal

pub returns : goal.returns
returns c =
    let a = c.args in
    let p = c.put_number.ensures in
    let k = c.decimal_size.ensures.result in
    record {
      place = p.place ∙ ap (λ n. place_after a.out.now a.at (a.label.now ++ digits 10 n a.n)) k;
      output = p.output ∙ ap (λ n. with_text a.out.now a.at (a.label.now ++ digits 10 n a.n)) k;
    }
