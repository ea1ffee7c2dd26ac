-- `judge::missing::mesh_unpartnered`: each by its line, and mi only where it is asked for.
use Rattle.std.proofs.Common.{not, ◌&&◌, sym, ap, ◌∙◌}
use Rattle.judge.specs.ByLine.{wb_line, wv_line, mi_line, has_number}
use Rattle.judge.proofs.Presence.{without_weights, with_weights}
use Rattle.judge.proofs.missing.mesh_unpartnered.Goals as goal

pub returns-then-wb-wv : goal.returns-then-wb-wv
returns-then-wb-wv c =
    let ns = c.args.properties.now.numbers.now in
    without_weights (has_number ns wb_line) (has_number ns wv_line) (has_number ns mi_line)
    (ap (λ x. not x && not (has_number ns wv_line)) (sym c.has-wb.ensures) ∙ ap (λ x. not c.has-wb.result && not x) (sym c.has-wv.ensures) ∙ c.if-wb-wv.true)

pub returns : goal.returns
returns c =
    let ns = c.args.properties.now.numbers.now in
    rw (c.has-wb.ensures, c.has-wv.ensures, c.has-mi.ensures)
    (with_weights (has_number ns wb_line) (has_number ns wv_line) (has_number ns mi_line)
    (ap (λ x. not x && not (has_number ns wv_line)) (sym c.has-wb.ensures) ∙ ap (λ x. not c.has-wb.result && not x) (sym c.has-wv.ensures) ∙ c.if-wb-wv.false))
