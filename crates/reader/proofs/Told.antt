-- What a result whose error was mapped comes from.
use Rattle.std.specs.Prelude.{Result, Ok, Err, MatchResult}
use mathlib.Core.Path.{◌≡◌, refl}

-- what a result with a mapped error comes from
module _ {T D : Type 0} (E : Type 0) {R : D → Type 0} where
  pub mapped_ok : (r : Result T D) (y : T) → ((e : D) → R e → ⊥) → MatchResult r (λ x. ◌≡◌ {A = Result T E} (Ok y) (Ok x)) R → r ≡ Ok y
  mapped_ok (Ok x) y n h = cc
  mapped_ok (Err e) y n h = absurd (n e h)

  pub mapped_err : (r : Result T D) (y : E) → MatchResult r (λ x. ◌≡◌ {A = Result T E} (Err y) (Ok x)) R → (e : D) × (r ≡ Err e) × R e
  mapped_err (Ok x) y h = cc
  mapped_err (Err e) y h = (e, refl, h)
