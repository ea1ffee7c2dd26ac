-- Laws of "refused, or go on".
use Prim.Native.Nat.{ℕ, zero, suc}
use native.Mathlib.Omega.{arith}
use mathlib.Core.Path.{◌≡◌, refl}
use Rattle.base.specs.declared.Reason.{Reason}
use Rattle.base.specs.declared.Reason.TheVariants.{TableTooShort, FileTooLong, NotCast, OtherVersion, NodeSize, Misplaced, TooManyNodes, TooDeep, TooManyProperties, PropertyPastEnd, PropertyForm, BytesLeft, Mistyped, Missing, BadValue, LinkToNone, LinkToMany, NotAPlan, WrongParent, PlanBodyOutside, PlanBodyInexact, ChildCount, NewFileTooLong, OutputTooShort, NoSuchNode, KnownKind, TrimOutputTooShort, NoSuchRow, BodyOutside, BodyInexact, NoSuchName}
use Rattle.base.specs.Refusals.{refused_or, reason_number}

module _ {A : Type 0} where
  -- with no number it goes on
  pub goes_on : (n : ℕ) (refused next : A) → n ≡ 0 → refused_or n refused next ≡ next
  goes_on n refused next e = rw e refl

  -- with a number it is refused
  pub is_refused : (n : ℕ) (refused next : A) → (n ≡ 0 → ⊥) → refused_or n refused next ≡ refused
  is_refused zero refused next h = absurd (h refl)
  is_refused (suc n) refused next h = refl

  -- proof by the two ways
  pub by_refusal : (P : A → Type 0) (n : ℕ) (refused next : A) → ((n ≡ 0 → ⊥) → P refused) → (n ≡ 0 → P next) → P (refused_or n refused next)
  by_refusal P zero refused next f g = g refl
  by_refusal P (suc n) refused next f g = f (λ e. omega (arith, e))

-- each reason has a number
pub numbered : (r : Reason) → reason_number r ≡ 0 → ⊥
numbered TableTooShort e = omega (arith, e)
numbered FileTooLong e = omega (arith, e)
numbered NotCast e = omega (arith, e)
numbered OtherVersion e = omega (arith, e)
numbered NodeSize e = omega (arith, e)
numbered Misplaced e = omega (arith, e)
numbered TooManyNodes e = omega (arith, e)
numbered TooDeep e = omega (arith, e)
numbered TooManyProperties e = omega (arith, e)
numbered PropertyPastEnd e = omega (arith, e)
numbered PropertyForm e = omega (arith, e)
numbered BytesLeft e = omega (arith, e)
numbered Mistyped e = omega (arith, e)
numbered Missing e = omega (arith, e)
numbered BadValue e = omega (arith, e)
numbered LinkToNone e = omega (arith, e)
numbered LinkToMany e = omega (arith, e)
numbered NotAPlan e = omega (arith, e)
numbered WrongParent e = omega (arith, e)
numbered PlanBodyOutside e = omega (arith, e)
numbered PlanBodyInexact e = omega (arith, e)
numbered ChildCount e = omega (arith, e)
numbered NewFileTooLong e = omega (arith, e)
numbered OutputTooShort e = omega (arith, e)
numbered NoSuchNode e = omega (arith, e)
numbered KnownKind e = omega (arith, e)
numbered TrimOutputTooShort e = omega (arith, e)
numbered NoSuchRow e = omega (arith, e)
numbered BodyOutside e = omega (arith, e)
numbered BodyInexact e = omega (arith, e)
numbered NoSuchName e = omega (arith, e)

-- so each is refused
pub refused_for : {A : Type 0} (r : Reason) (refused next : A) → refused_or (reason_number r) refused next ≡ refused
refused_for r refused next = is_refused (reason_number r) refused next (numbered r)

-- what is made of the answer is made of both
pub refused_map : {A B : Type 0} (f : A → B) (n : ℕ) (refused next : A) → f (refused_or n refused next) ≡ refused_or n (f refused) (f next)
refused_map f zero refused next = refl
refused_map f (suc n) refused next = refl
