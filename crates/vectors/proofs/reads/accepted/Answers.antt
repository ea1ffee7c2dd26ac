-- `vectors::reads::accepted`: nine numbers.
use mathlib.Core.List.{[], ◌∷◌}
use Rattle.vectors.specs.Files.{reading_numbers}
use Rattle.vectors.proofs.Answers.{put_after}
use Rattle.vectors.proofs.reads.accepted.Goals as goal

pub returns : goal.returns
unfolding reading_numbers
returns c =
    let a = c.args.a in
    put_after (a.links ∷ []) c.push.ensures
    (put_after (a.known.0 ∷ a.unknown.0 ∷ a.faces.0 ∷ a.degenerate ∷ []) c.extend.ensures c.of.ensures)
