-- `text::put`: a label with no digits after it.
use mathlib.Core.Path.{ap, ◌∙◌}
use mathlib.Core.List.{append-nil}
use Rattle.text.specs.Text.{digits, place_after, with_text}
use Rattle.text.proofs.put.Goals as goal

pub returns : goal.returns
unfolding digits
returns c =
    let a = c.args in
    let p = c.put_number.ensures in
    record { place = p.place ∙ ap (place_after a.out.now a.at) (append-nil a.text.now); output = p.output ∙ ap (with_text a.out.now a.at) (append-nil a.text.now) }
