-- The element sizes are document 01's: the ten by computation, and any other code passes all ten tests.
use Prim.Native.Nat.{ℕ}
use mathlib.Core.Path.{◌≡◌, refl}
use mathlib.Core.Logic.{inl, inr}
use borrow.Author.Tests.{ne_eqb}
use Rattle.props.specs.Types.{NoSuch}
use Rattle.props.specs.Types.{element_size}
use Rattle.props.specs.Statements.{IsTypeCode, SizesAre}

none_other : (code : ℕ) → (IsTypeCode code → ⊥) → element_size code ≡ NoSuch
none_other code n =
    simp (
      ne_eqb code 0x62 (λ e. n (inl e)),
      ne_eqb code 0x68 (λ e. n (inr (inl e))),
      ne_eqb code 0x69 (λ e. n (inr (inr (inl e)))),
      ne_eqb code 0x6C (λ e. n (inr (inr (inr (inl e))))),
      ne_eqb code 0x66 (λ e. n (inr (inr (inr (inr (inl e)))))),
      ne_eqb code 0x64 (λ e. n (inr (inr (inr (inr (inr (inl e))))))),
      ne_eqb code 0x7632 (λ e. n (inr (inr (inr (inr (inr (inr (inl e)))))))),
      ne_eqb code 0x7633 (λ e. n (inr (inr (inr (inr (inr (inr (inr (inl e))))))))),
      ne_eqb code 0x7634 (λ e. n (inr (inr (inr (inr (inr (inr (inr (inr (inl e)))))))))),
      ne_eqb code 0x73 (λ e. n (inr (inr (inr (inr (inr (inr (inr (inr (inr e)))))))))),
    )

pub sizes_are : SizesAre
sizes_are =
    record { b = refl; h = refl; i = refl; l = refl; f = refl; d = refl; v2 = refl; v3 = refl; v4 = refl; s = refl; other = none_other }
