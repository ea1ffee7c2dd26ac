-- `reader::all_rules`: where no row is a Bone, none is counted under any.
use mathlib.Core.Path.{refl, sym, ◌∙◌}
use Rattle.reader.proofs.Passing.{none_counted}
use Rattle.reader.proofs.all_rules.Goals as goal

pub rules_beside-requires : goal.rules_beside-requires
rules_beside-requires c =
    none_counted _ (sym c.has_kind.ensures ∙ c.if-has_kind.false) refl
