-- Of a kind that has no required line none is counted.
use Prim.Native.Nat.{ℕ}
use mathlib.Core.Path.{◌≡◌, refl, ap, sym, ◌∙◌}
use mathlib.Core.Bool.{Bool, true, false, not, ◌||◌, and-eq-true_iff, false≢true}
use mathlib.Core.List.{List, [], ◌∷◌}
use lib.Dec.{eqb}
use borrow.Author.Tests.{eqb-true}
use Rattle.base.proofs.Tests.{by_test}
use Rattle.kinds.specs.Kinds.{mesh, blend_shape, bone, ik_handle, constraint, animation, curve, curve_mode_override, notification_track, material, file, instance}
use Rattle.rules.specs.Table.{Line, lines}
use Rattle.rules.specs.Rules.{of_kind, lines_of, required_in}
use Rattle.rules.proofs.Laws.{all}
use Rattle.rules.proofs.Spans.{member}

-- the kinds that have some, in the order of the table
abbrev pub requiring : List ℕ
requiring =
    mesh ∷ blend_shape ∷ bone ∷ ik_handle ∷ constraint ∷ material ∷ file ∷ animation ∷ curve ∷ curve_mode_override ∷ notification_track ∷ instance ∷ []

abbrev is_listed : Line → Bool
is_listed l = not l.required || member l.kind requiring

listed : all is_listed lines ≡ true
unfolding all lines
listed = refl

module _ (kind : ℕ) (n : member kind requiring ≡ false) where
  optional : (l : Line) → l.kind ≡ kind → is_listed l ≡ true → l.required ≡ false
  optional l k e =
      by_test l.required
      (λ t. absurd (false≢true (sym n ∙ ap (λ k. member k requiring) (sym k) ∙ rw t at e)))
      (λ t. t)

  none_of : (ls : List Line) → all is_listed ls ≡ true → required_in (of_kind ls kind) ≡ 0
  unfolding of_kind required_in all
  none_of [] e = refl
  none_of (l ∷ ls) e =
      let both = (and-eq-true_iff (is_listed l) (all is_listed ls)).0 e in
      by_test (eqb l.kind kind)
      (λ t. rw (t, optional l (eqb-true l.kind kind t) both.0) (none_of ls both.1))
      (λ t. rw t (none_of ls both.1))

  pub none_required : required_in (lines_of kind) ≡ 0
  unfolding lines_of
  none_required = none_of lines listed
