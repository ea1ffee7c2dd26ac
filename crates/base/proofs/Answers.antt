-- The parts of a promise.
use mathlib.Core.Path.{◌≡◌, ap}

-- an answer that is known is known in numbers too
pub told : {A B : Type 0} (numbers : A → B) {r s : A} → r ≡ s → (r ≡ s) × (numbers r ≡ numbers s)
told numbers e = (e, ap numbers e)

-- three facts as three clauses
pub clauses : {A B C : Type 0} → A × B × C → A × (B × C)
clauses p = (p.0, (p.1, p.2))
