-- `read` of a `u16`: two bytes are the number of width 2.
use Prim.Native.Nat.{ℕ, ◌+◌, ◌*◌}
use mathlib.Core.Path.{◌≡◌, sym, ◌∙◌}
use mathlib.Core.List.{List}
use lib.ListN.{drop}
use lib.Seq.{drop-drop}
use Rattle.le.specs.Le.{number_at}
use Rattle.le.proofs.Laws.{val_split, number_at_byte}
use Rattle.faces.proofs.tally.U16Value.read.Goals as goal

two_bytes : (l : List ℕ) (at : ℕ) → number_at 1 l at + 256 * number_at 1 l (at + 1) ≡ number_at 2 l at
unfolding number_at
two_bytes l at = rw (← (drop-drop 1 at l)) (sym (val_split 1 1 (drop at l)))

pub returns : goal.returns
returns c =
    let l = c.args.bytes.now in
    let at = c.args.at in
    let low = c.from.ensures ∙ sym (number_at_byte l at) in
    let high = c.from-2.ensures ∙ sym (number_at_byte l (at + 1)) in
    rw (low, high) (two_bytes l at)
