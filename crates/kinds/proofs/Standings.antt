-- Whether a kind may stand, and whether it is known, from its parents alone.
use Rattle.std.specs.Prelude.{Option, Some, None, is_some, IfSome, IsSomeAnd, MatchOption}
use Prim.Native.Nat.{ℕ}
use mathlib.Core.Path.{◌≡◌, refl, sym, ap, ◌∙◌}
use mathlib.Core.Bool.{Bool, false, cond, true≢false}
use Rattle.kinds.specs.Kinds.{Parents}
use Rattle.kinds.specs.Kinds.{Top, Under, UnderEither, Unknown}
use Rattle.kinds.specs.declared.Kind.{Kind}
use Rattle.kinds.specs.declared.Parents.{Parents as KindParents}
use Rattle.kinds.specs.declared.Parents.TheVariants.{Top as AtTop, Under as UnderOne, UnderEither as UnderTwo}
use Rattle.kinds.specs.declared.Standing.TheVariants.{Barred, Known, Unknown as UnknownThere}
use Rattle.kinds.specs.Kinds.{kind_number, parents_told, parents_of, is_listed, is_known, is_top, stands_at_top, under_by, stands_under, may_stand, standing_of}
use Rattle.kinds.specs.Private.{stands_by}

pub stands_is : (parent : Option ℕ) (k : ℕ) → stands_by parent (parents_of k) ≡ may_stand parent k
unfolding may_stand stands_at_top stands_under
stands_is None k = by (parents_of k)
  where
    by : (ps : Parents) → stands_by None ps ≡ is_top ps
    by Top = refl
    by (Under p) = refl
    by (UnderEither p q) = refl
    by Unknown = refl
stands_is (Some parent) k = by (parents_of k)
  where
    by : (ps : Parents) → stands_by (Some parent) ps ≡ under_by parent ps
    by Top = refl
    by (Under p) = refl
    by (UnderEither p q) = refl
    by Unknown = refl

-- the parents that are told are listed where there are any
pub listed_told : (parents : Option KindParents) → is_listed (parents_told parents) ≡ is_some parents
listed_told None = refl
listed_told (Some AtTop) = refl
listed_told (Some (UnderOne p)) = refl
listed_told (Some (UnderTwo p q)) = refl

-- those that are not listed are unknown
unlisted : (ps : Parents) → is_listed ps ≡ false → Unknown ≡ ps
unlisted Top e = absurd (true≢false e)
unlisted (Under p) e = absurd (true≢false e)
unlisted (UnderEither p q) e = absurd (true≢false e)
unlisted Unknown e = refl

-- the parents of the kind with a number are those of the number
pub parents_mapped : (kind : Option Kind) (parents : Option KindParents) (k : ℕ) → is_some kind ≡ is_known k → IfSome kind (λ own. kind_number own ≡ k)
    → MatchOption kind (parents ≡ None) (λ own. IsSomeAnd parents (λ ps. parents_told (Some ps) ≡ parents_of (kind_number own))) → parents_told parents ≡ parents_of k
unfolding is_known
parents_mapped None parents k known number e = rw e (unlisted (parents_of k) (sym known))
parents_mapped (Some own) None k known number e = absurd e
parents_mapped (Some own) (Some ps) k known number e = e ∙ ap parents_of number

pub standing : (parent : Option ℕ) (k : ℕ) (parents : Option KindParents) {may listed : Bool} → parents_told parents ≡ parents_of k
    → may ≡ stands_by parent (parents_told parents) → listed ≡ is_some parents → cond may (cond listed Known UnknownThere) Barred ≡ standing_of parent k
unfolding standing_of is_known
standing parent k parents is m l = rw (← stands_is parent k, ← is, ← m, listed_told parents, l)
