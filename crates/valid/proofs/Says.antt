-- A test says a proposition: it is true exactly where that holds; or it fails exactly there.
use Prim.Native.Nat.{ℕ, ◌≤◌, ◌<◌}
use mathlib.Core.Path.{◌≡◌, refl, sym}
use mathlib.Core.Logic.{◌↔◌, ◌⊎◌, inl, inr, ⊎_elim}
use mathlib.Core.Bool.{Bool, true, false, not, ◌&&◌, ◌||◌, true≢false, false≢true}
use mathlib.Core.List.{List}
use lib.Dec.{eqb, leb, ltb}
use borrow.Author.Tests.{eqb-true, eq-eqb, leb-true, le-leb, ltb-true, lt-ltb}
use Rattle.names.specs.Names.{same}
use Rattle.names.proofs.Laws.{same_eq, same_refl}

abbrev pub Says : Bool → Type 0 → Type 0
Says b P = (b ≡ true) ↔ P

pub says_eqb : (a b : ℕ) → Says (eqb a b) (a ≡ b)
says_eqb a b = (eqb-true a b, eq-eqb a b)

pub says_leb : (a b : ℕ) → Says (leb a b) (a ≤ b)
says_leb a b = (leb-true a b, le-leb a b)

pub says_ltb : (a b : ℕ) → Says (ltb a b) (a < b)
says_ltb a b = (ltb-true a b, lt-ltb a b)

pub says_same : (a b : List ℕ) → Says (same a b) (a ≡ b)
says_same a b = (same_eq a b, λ e. rw e (same_refl b))

module _ {A B : Type 0} where
  pub says_and : (a b : Bool) → Says a A → Says b B → Says (a && b) (A × B)
  says_and true b h k = (λ e. (h.0 refl, k.0 e), λ p. k.1 p.1)
  says_and false b h k = (λ e. absurd (false≢true e), λ p. h.1 p.0)

  pub says_or : (a b : Bool) → Says a A → Says b B → Says (a || b) (A ⊎ B)
  says_or a b h k = (to a b h k, back a b h k)
    where
      to : (a b : Bool) → Says a A → Says b B → (a || b) ≡ true → A ⊎ B
      to true b h k e = inl (h.0 refl)
      to false b h k e = inr (k.0 e)

      back : (a b : Bool) → Says a A → Says b B → A ⊎ B → (a || b) ≡ true
      back true b h k s = refl
      back false b h k (inl x) = absurd (false≢true (h.1 x))
      back false b h k (inr y) = k.1 y

pub says_not : (a : Bool) → Says (not a) (a ≡ false)
says_not true = (λ e. absurd (false≢true e), λ e. absurd (true≢false e))
says_not false = (λ e. refl, λ e. refl)

pub turned : {A B C : Type 0} {b : Bool} → Says b ((A ⊎ B) ⊎ C) → Says b (A ⊎ (B ⊎ C))
turned s = (
  λ e. ⊎_elim (⊎_elim (λ a. inl a) (λ b. inr (inl b))) (λ c. inr (inr c)) (s.0 e),
  λ h. s.1 (⊎_elim (λ a. inl (inl a)) (⊎_elim (λ b. inl (inr b)) (λ c. inr c)) h),
)

-- two tests that say the same are the same
pub says_equal : {A : Type 0} (a b : Bool) → Says a A → Says b A → a ≡ b
says_equal true b h k = sym (k.1 (h.0 refl))
says_equal false true h k = h.1 (k.0 refl)
says_equal false false h k = refl

-- ---- a test fails exactly where a proposition holds
abbrev pub Fails : Bool → Type 0 → Type 0
Fails b P = (b ≡ false) ↔ P

pub fails : {A : Type 0} (a : Bool) → Says a A → Fails a (A → ⊥)
fails true h = (λ e. absurd (true≢false e), λ n. absurd (n (h.0 refl)))
fails false h = (λ e x. false≢true (h.1 x), λ n. refl)

pub fails_not : {A : Type 0} (a : Bool) → Says a A → Fails (not a) A
fails_not true h = (λ e. h.0 refl, λ x. refl)
fails_not false h = (λ e. absurd (true≢false e), λ x. sym (h.1 x))

module _ {A B : Type 0} where
  pub fails_and : (a b : Bool) → Says a A → Fails b B → Fails (a && b) (A → B)
  fails_and true b h k = (λ e x. k.0 e, λ f. k.1 (f (h.0 refl)))
  fails_and false b h k = (λ e x. absurd (false≢true (h.1 x)), λ f. refl)

  pub fails_or : (a b : Bool) → Fails a A → Fails b B → Fails (a || b) (A × B)
  fails_or true b h k = (λ e. absurd (true≢false e), λ p. h.1 p.0)
  fails_or false b h k = (λ e. (h.0 refl, k.0 e), λ p. k.1 p.1)
