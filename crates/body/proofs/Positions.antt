-- The first place that passes, or the length where there is none.
use Rattle.std.specs.Prelude.{Option}
use Rattle.std.specs.Option.{unwrap_or}
use Rattle.std.specs.List.{position, position_or_len}
use Rattle.std.proofs.Common.{◌≡◌, ℕ, Bool, List, length, arith}
use Rattle.std.proofs.lemmas.Grind.{common_steps}
use Rattle.std.proofs.lemmas.List.Sums.{prefix_len-le-length}

pub position_or_length : {X : Type 0} (p : X → Bool) (xs : List X) {found : Option ℕ} → found ≡ position p xs → unwrap_or found (length xs) ≡ position_or_len p xs
position_or_length p xs e = rw e (grind (arith, common_steps, prefix_len-le-length))
