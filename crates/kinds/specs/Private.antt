-- What private functions promise each other; nothing here need be believed.
use Rattle.std.specs.Prelude.{ℕ, Bool, true, false, ◌||◌, eqb, None, Option, Some}
use Rattle.kinds.specs.Kinds.{Parents}
use Rattle.kinds.specs.Kinds.{Top, Under, UnderEither, Unknown}
use Rattle.kinds.specs.Kinds.{is_known}

abbrev pub is_none : Option ℕ → Bool
is_none None = true
is_none (Some own) = false

abbrev pub is_kind : Option ℕ → ℕ → Bool
is_kind None k = false
is_kind (Some own) k = eqb own k

abbrev pub has_known : Option ℕ → Bool
has_known None = false
has_known (Some own) = is_known own

-- `may_stand` by the parents of the kind
abbrev pub stands_by : Option ℕ → Parents → Bool
stands_by parent Top = is_none parent
stands_by parent (Under p) = is_kind parent p
stands_by parent (UnderEither p q) = is_kind parent p || is_kind parent q
stands_by parent Unknown = has_known parent
