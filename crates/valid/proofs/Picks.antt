-- Exactly those of a list that have a property; and the degenerate faces as those with two equal values.
use Prim.Native.Nat.{ℕ, suc}
use mathlib.Core.Path.{◌≡◌, refl, ap}
use mathlib.Core.Logic.{◌↔◌, inl, inr}
use mathlib.Core.Bool.{◌||◌}
use mathlib.Core.List.{List, [], ◌∷◌, ◌++◌, map}
use lib.Dec.{eqb}
use lib.ListN.{length}
use Rattle.base.proofs.Tests.{by_test}
use Rattle.base.specs.Lists.{Each, Some, Picks, none, taken, left}
use Rattle.faces.specs.declared.Face.{Face}
use Rattle.faces.specs.Faces.{is_degenerate, degenerate}
use Rattle.valid.specs.Nodes.{TwoEqual}
use Rattle.valid.proofs.Says.{Says, says_eqb, says_or, turned, fails}

pub picks_append : {A : Type 0} {P : A → Type 0} {xs ys us vs : List A} → Picks P xs ys → Picks P us vs → Picks P (xs ++ us) (ys ++ vs)
picks_append none q = q
picks_append (taken h p) q = taken h (picks_append p q)
picks_append (left h p) q = left h (picks_append p q)

-- a map that keeps what is asked
pub picks_map : {A B : Type 0} {P : A → Type 0} {Q : B → Type 0} (g : A → B) → ((x : A) → P x ↔ Q (g x)) → {xs ys : List A} → Picks P xs ys → Picks Q (map g xs) (map g ys)
picks_map g e none = none
picks_map g e (taken {x} h p) = taken ((e x).0 h) (picks_map g e p)
picks_map g e (left {x} h p) = left (λ q. h ((e x).1 q)) (picks_map g e p)

-- what holds of each of a list holds of each that is picked
pub picks_each : {A : Type 0} {P : A → Type 0} (Q : A → Type 0) {xs ys : List A} → Picks P xs ys → Each Q xs → Each Q ys
picks_each Q none h = tt
picks_each Q (taken a p) h = (h.0, picks_each Q p h.1)
picks_each Q (left a p) h = picks_each Q p h.1

-- and what is asked holds of each of them
pub picks_holds : {A : Type 0} {P : A → Type 0} {xs ys : List A} → Picks P xs ys → Each P ys
picks_holds none = tt
picks_holds (taken a p) = (a, picks_holds p)
picks_holds (left a p) = picks_holds p

pub each_some : {A : Type 0} {R : Type 0} (P Q : A → Type 0) (xs : List A) → ((x : A) → P x → Q x → R) → Each P xs → Some Q xs → R
each_some P Q [] f e h = absurd h
each_some P Q (x ∷ xs) f e (inl h) = f x e.0 h
each_some P Q (x ∷ xs) f e (inr h) = each_some P Q xs f e.1 h

-- a list that is picked, and its length
pub record Picked {A : Type 0} (P : A → Type 0) (xs : List A) (n : ℕ) : Type 0 where
  pub those : List A
  pub picks : Picks P xs those
  pub count : n ≡ length those

says_two : (f : Face) → Says (is_degenerate f) (TwoEqual f)
says_two f =
    turned (says_or (eqb f.a f.b || eqb f.b f.c) (eqb f.a f.c)
    (says_or (eqb f.a f.b) (eqb f.b f.c) (says_eqb f.a f.b) (says_eqb f.b f.c)) (says_eqb f.a f.c))

pub degenerate_picked : (fs : List Face) → Picked TwoEqual fs (degenerate fs)
unfolding degenerate
degenerate_picked [] = record { those = []; picks = none; count = refl }
degenerate_picked (f ∷ fs) =
    let ih = degenerate_picked fs in
    by_test (is_degenerate f)
    (λ t. record { those = f ∷ ih.those; picks = taken ((says_two f).0 t) ih.picks; count = rw t (ap suc ih.count) })
    (λ t. record { those = ih.those; picks = left ((fails (is_degenerate f) (says_two f)).0 t) ih.picks; count = rw t ih.count })
