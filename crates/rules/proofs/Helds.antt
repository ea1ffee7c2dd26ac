-- What a line holds to: a link to a kind, or none; and of an entry, by its number.
use Prim.Native.Nat.{ℕ}
use mathlib.Core.Path.{◌≡◌, refl, ap}
use mathlib.Core.Bool.{Bool, true, false, false≢true}
use Rattle.rules.specs.declared.Held.{Held as CodeHeld}
use Rattle.rules.specs.declared.Held.TheVariants as H
use Rattle.rules.specs.Packing.{held_from}
use Rattle.rules.specs.Table.{Held, nothing, flag, one_of, vertices, weights, faces, indices, keys, bone_number, link_to}
use Rattle.rules.specs.Rules.{if_link}

-- whether it is a link
abbrev pub is_link : Held → Bool
is_link h = if_link h (λ kind. true) false

abbrev pub NoLink : Held → Type 0
NoLink h = (kind : ℕ) → h ≡ link_to kind → ⊥

-- what holds of what is made of a link, and of what is made of what is none
module _ {A : Type 0} (P : A → Type 0) where
  pub by_link : (h : Held) (f : ℕ → A) (x : A) → ((kind : ℕ) → h ≡ link_to kind → P (f kind)) → (NoLink h → P x) → P (if_link h f x)
  by_link (link_to kind) f x link other = link kind refl
  by_link nothing f x link other = other (λ k e. false≢true (ap is_link e))
  by_link flag f x link other = other (λ k e. false≢true (ap is_link e))
  by_link (one_of strings) f x link other = other (λ k e. false≢true (ap is_link e))
  by_link vertices f x link other = other (λ k e. false≢true (ap is_link e))
  by_link weights f x link other = other (λ k e. false≢true (ap is_link e))
  by_link faces f x link other = other (λ k e. false≢true (ap is_link e))
  by_link indices f x link other = other (λ k e. false≢true (ap is_link e))
  by_link keys f x link other = other (λ k e. false≢true (ap is_link e))
  by_link bone_number f x link other = other (λ k e. false≢true (ap is_link e))

pub link_none : {A : Type 0} (h : Held) (f : ℕ → A) (x : A) → NoLink h → if_link h f x ≡ x
link_none h f x n = by_link (λ y. y ≡ x) h f x (λ kind e. absurd (n kind e)) (λ m. refl)

-- a link is to one kind
pub one_kind : {a b : ℕ} → link_to a ≡ link_to b → a ≡ b
one_kind e = cc

-- for callers: a line of the code that is no link
pub no_link : {A : Type 0} (held : CodeHeld) (link : (kind : ℕ) → A) (other : A) → ((kind : ℕ) → held ≡ H.Link kind → ⊥) → if_link (held_from held) link other ≡ other
no_link H.Nothing link other n = refl
no_link H.Flag link other n = refl
no_link (H.OneOf set) link other n = refl
no_link H.Vertices link other n = refl
no_link H.Weights link other n = refl
no_link H.Faces link other n = refl
no_link H.Indices link other n = refl
no_link H.Keys link other n = refl
no_link H.BoneNumber link other n = refl
no_link (H.Link kind) link other n = absurd (n kind refl)
