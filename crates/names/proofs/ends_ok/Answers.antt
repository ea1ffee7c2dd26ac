-- `names::ends_ok`: the two ends, which have every byte.
use Prim.Native.Nat.{◌-◌}
use mathlib.Core.Path.{ap, ◌∙◌}
use lib.ListN.{length}
use Rattle.std.proofs.lemmas.List.{take_rest}
use Rattle.names.specs.Names.{bytes_ok}
use Rattle.names.proofs.Laws.{ends_are}
use Rattle.names.proofs.ends_ok.Goals as goal

pub returns : goal.returns
returns c =
    let k = c.args.k in
    let name = c.args.name.now in
    rw (c.block_ok.ensures, c.block_ok-end_ok.ensures ∙ ap bytes_ok (take_rest name (length name - k)))
    (ends_are k name c.requires.0 c.requires.1)
