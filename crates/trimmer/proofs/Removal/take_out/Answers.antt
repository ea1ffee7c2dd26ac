-- `trimmer::Removal::take_out`: the rows moved up, and zeros for the last.
use Prim.Native.Nat.{◌-◌}
use mathlib.Core.Path.{ap, ◌∙◌}
use Rattle.table.specs.Table.{blank, with_row}
use Rattle.trimmer.proofs.Without.{taken_out}
use Rattle.trimmer.proofs.Removal.take_out.Goals as goal

pub returns : goal.returns
returns c =
    let a = c.args in
    c.put_row.ensures
    ∙ ap (with_row _ (a.self.nodes - 1)) c.blank.ensures
    ∙ ap (λ u. with_row u (a.self.nodes - 1) blank) c.move_up.ensures
    ∙ taken_out a.table.now a.self.row a.self.above a.self.nodes a.self.there a.self.few c.requires.0 c.requires.1
