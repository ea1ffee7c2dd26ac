-- The lines of a kind that has none stand nowhere.
use Prim.Native.Nat.{ℕ, suc}
use native.Mathlib.Omega.{arith}
use mathlib.Core.Path.{◌≡◌, refl, ap, sym, ◌∙◌}
use mathlib.Core.Bool.{Bool, true, false, ◌||◌, and-eq-true_iff, false≢true}
use mathlib.Core.List.{List, [], ◌∷◌}
use lib.Dec.{eqb}
use lib.ListN.{length, drop_of_length-le}
use borrow.Author.Tests.{ne_eqb, eqb-true}
use Rattle.base.proofs.Tests.{by_test}
use Rattle.kinds.specs.Kinds.{model, mesh, blend_shape, bone, ik_handle, constraint, animation, curve, curve_mode_override, notification_track, material, file, instance, metadata}
use Rattle.rules.specs.Table.{Line, lines}
use Rattle.rules.specs.Rules.{of_kind, lines_of, before, run, span_of}
use Rattle.rules.proofs.Laws.{all}
use Rattle.rules.proofs.Together.{many, Spanned}

-- the kinds that have lines, in the order of the table
abbrev pub kinds : List ℕ
kinds =
    model ∷ mesh ∷ blend_shape ∷ bone ∷ ik_handle ∷ constraint ∷ material ∷ file ∷
    animation ∷ curve ∷ curve_mode_override ∷ notification_track ∷ instance ∷ metadata ∷ []

abbrev pub member : ℕ → List ℕ → Bool
member k [] = false
member k (j ∷ js) = eqb j k || member k js

-- ---- the lines of a kind that is not among them
listed : all (λ l. member l.kind kinds) lines ≡ true
unfolding all lines
listed = refl

module _ (kind : ℕ) (n : member kind kinds ≡ false) where
  other : (l : Line) → member l.kind kinds ≡ true → eqb l.kind kind ≡ false
  other l e = ne_eqb l.kind kind (λ q. false≢true (sym n ∙ sym (ap (λ k. member k kinds) q) ∙ e))

  before_none : (ls : List Line) → all (λ l. member l.kind kinds) ls ≡ true → before ls kind ≡ length ls
  unfolding before all
  before_none [] e = refl
  before_none (l ∷ ls) e =
      let both = (and-eq-true_iff (member l.kind kinds) _).0 e in
      rw (other l both.0) (ap suc (before_none ls both.1))

  of_none : (ls : List Line) → all (λ l. member l.kind kinds) ls ≡ true → of_kind ls kind ≡ []
  unfolding of_kind all
  of_none [] e = refl
  of_none (l ∷ ls) e =
      let both = (and-eq-true_iff (member l.kind kinds) _).0 e in
      rw (other l both.0) (of_none ls both.1)

  no_lines : lines_of kind ≡ []
  unfolding lines_of
  no_lines = of_none lines listed

  pub nowhere : Spanned kind (record { from = 81; to = 81 })
  unfolding span_of run
  nowhere =
      let all-before : before lines kind ≡ 81 = before_none lines listed ∙ many in
      (rw (all-before, drop_of_length-le lines {i = 81} (omega (arith, many))), omega arith, omega arith)

-- ---- what holds of no lines and of the lines of each kind that has some holds of those of all kinds
all_member : (test : ℕ → Bool) (kind : ℕ) (ks : List ℕ) → all test ks ≡ true → member kind ks ≡ true → test kind ≡ true
unfolding all
all_member test kind [] e m = absurd (false≢true m)
all_member test kind (k ∷ ks) e m =
    let both = (and-eq-true_iff (test k) (all test ks)).0 e in
    by_test (eqb k kind) (λ t. ap test (sym (eqb-true k kind t)) ∙ both.0) (λ t. all_member test kind ks both.1 (rw t at m))

pub of_all_kinds : (test : List Line → Bool) → test [] ≡ true → all (λ k. test (lines_of k)) kinds ≡ true → (kind : ℕ) → test (lines_of kind) ≡ true
of_all_kinds test none e kind =
    by_test (member kind kinds) (λ t. all_member (λ k. test (lines_of k)) kind kinds e t) (λ t. ap test (no_lines kind t) ∙ none)
