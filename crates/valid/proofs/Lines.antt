-- What the table says of lines by what they hold a property to, computed over it: their kind, their types and their length.
use Prim.Native.Nat.{ℕ}
use mathlib.Core.Path.{◌≡◌, refl, ap, sym, ◌∙◌}
use mathlib.Core.Logic.{⊎_elim}
use mathlib.Core.Bool.{Bool, true, false, not, ◌&&◌, and-eq-true_iff, false≢true}
use mathlib.Core.List.{List, []}
use lib.Dec.{eqb}
use borrow.Author.Tests.{eqb-true, not-true}
use Rattle.names.specs.Names.{same, read_digits, number, bytes_ok, number_after}
use Rattle.names.proofs.Laws.{same_eq}
use Rattle.kinds.specs.Kinds.{mesh, blend_shape, curve}
use Rattle.faces.specs.declared.Face.{Face}
use Rattle.rules.specs.Table.{Types, only, N, key_type, any_type, Held, nothing, flag, one_of, vertices, weights, faces, indices, keys, bone_number, link_to, Line, lines, plain, single}
use Rattle.base.specs.Letters.{letters}
use Rattle.props.specs.Types.{byte, int, long, string}
use Rattle.rules.proofs.Laws.{rule_of, all, ruled}
use Rattle.rules.specs.Rules.{lists, rule_in, of_kind, lines_of}
use Rattle.judge.specs.Valued.{faces_at, held_faces}
use Rattle.base.specs.Lists.{Each}
use Rattle.base.proofs.Lists.{each_map}
use Rattle.valid.proofs.Listed.{all_each}

-- ---- tests of types
abbrev is_only : (code : ℕ) → Types → Bool
is_only code (only type) = eqb type code
is_only code N = false
is_only code key_type = false
is_only code any_type = false

is_only_lem : (code : ℕ) (types : Types) → is_only code types ≡ true → types ≡ only code
is_only_lem code (only type) e = ap only (eqb-true type code e)
is_only_lem code N e = absurd (false≢true e)
is_only_lem code key_type e = absurd (false≢true e)
is_only_lem code any_type e = absurd (false≢true e)

abbrev is_numbers : Types → Bool
is_numbers (only type) = false
is_numbers N = true
is_numbers key_type = false
is_numbers any_type = false

is_numbers_lem : (types : Types) → is_numbers types ≡ true → types ≡ N
is_numbers_lem (only type) e = absurd (false≢true e)
is_numbers_lem N e = refl
is_numbers_lem key_type e = absurd (false≢true e)
is_numbers_lem any_type e = absurd (false≢true e)

module _ {a b : Bool} where
  both : (a && b) ≡ true → (a ≡ true) × (b ≡ true)
  both = (and-eq-true_iff a b).0

-- what is said of a line that holds a property to h
abbrev told : (h : Held) (kind : ℕ) (types : Types) (array numbered : Bool) (name : List ℕ) → Bool
told nothing kind types array numbered name = true
told flag kind types array numbered name = is_only byte types && not array
told (one_of strings) kind types array numbered name = is_only string types && all bytes_ok strings
told vertices kind types array numbered name = eqb kind mesh
told weights kind types array numbered name = eqb kind mesh
told faces kind types array numbered name = (eqb kind mesh && is_numbers types) && (not numbered && same name (letters "f"))
told indices kind types array numbered name = eqb kind blend_shape
told keys kind types array numbered name = eqb kind curve
told bone_number kind types array numbered name = is_only int types && not array
told (link_to to) kind types array numbered name = is_only long types && not array

abbrev tells : (kind : ℕ) → Line → Bool
tells kind l = told l.held kind l.types l.array l.numbered l.name

lines_tell : all (λ l. tells l.kind l) lines ≡ true
unfolding all lines bytes_ok letters same
lines_tell = refl

module _ (kind : ℕ) (name : List ℕ) where
  abbrev l : Line
  l = rule_of kind name

  by : {h : Held} → l.held ≡ h → told h kind l.types l.array l.numbered l.name ≡ true
  by e =
      ap (λ h. told h kind l.types l.array l.numbered l.name) (sym e)
      ∙ ⊎_elim (λ f. ap (tells kind) f) (λ t. ap (λ k. tells k l) (sym t.1) ∙ t.0) (ruled (λ l. tells l.kind l) kind name lines_tell)

  one_of_lem : (code : ℕ) → (is_only code l.types && not l.array) ≡ true → (l.types ≡ only code) × (l.array ≡ single)
  one_of_lem code e = let h = both e in (is_only_lem code l.types h.0, not-true l.array h.1)

  pub flag_line : l.held ≡ flag → (l.types ≡ only byte) × (l.array ≡ single)
  flag_line e = one_of_lem byte (by e)

  pub text_line : (strings : List (List ℕ)) → l.held ≡ one_of strings → (l.types ≡ only string) × (all bytes_ok strings ≡ true)
  text_line strings e = let h = both (by e) in (is_only_lem string l.types h.0, h.1)

  pub vertices_line : l.held ≡ vertices → kind ≡ mesh
  vertices_line e = eqb-true _ _ (by e)

  pub weights_line : l.held ≡ weights → kind ≡ mesh
  weights_line e = eqb-true _ _ (by e)

  pub faces_line : l.held ≡ faces → (kind ≡ mesh) × (l.types ≡ N)
  faces_line e = let h = both (both (by e)).0 in (eqb-true _ _ h.0, is_numbers_lem l.types h.1)

  pub indices_line : l.held ≡ indices → kind ≡ blend_shape
  indices_line e = eqb-true _ _ (by e)

  pub keys_line : l.held ≡ keys → kind ≡ curve
  keys_line e = eqb-true _ _ (by e)

  pub parent_line : l.held ≡ bone_number → (l.types ≡ only int) × (l.array ≡ single)
  parent_line e = one_of_lem int (by e)

  pub link_line : (to : ℕ) → l.held ≡ link_to to → (l.types ≡ only long) × (l.array ≡ single)
  link_line to e = one_of_lem long (by e)

-- ---- two lines that others are held against
pub weights_each : ((rule_of mesh (letters "mi")).types ≡ N) × ((rule_of mesh (letters "mi")).array ≡ single)
unfolding letters lines lists same number_after read_digits number rule_in of_kind lines_of
weights_each = (refl, refl)

pub key_text : (rule_of curve (letters "kp")).types ≡ only string
unfolding letters lines lists same number_after read_digits number rule_in of_kind lines_of
key_text = refl

pub rotation_letters : bytes_ok (letters "rq") ≡ true
unfolding bytes_ok letters
rotation_letters = refl

pub visible_letters : bytes_ok (letters "vb") ≡ true
unfolding bytes_ok letters
visible_letters = refl

-- ---- the line that holds to faces is that of f; and a property counts faces, or none
pub faces_named : Each (λ l. l.held ≡ faces → (l.numbered ≡ plain) × (l.name ≡ letters "f")) lines
faces_named =
    each_map (λ l t e.
    let h = both {a = not l.numbered} (both {a = eqb l.kind mesh && is_numbers l.types} (rw e at t)).1 in
    (not-true l.numbered h.0, same_eq l.name (letters "f") h.1)) lines
    (all_each (λ l. tells l.kind l) lines lines_tell)

module _ (P : List Face → Type 0) (s : List ℕ) (at : ℕ) where
  pub by_faces : (h : Held) → (h ≡ faces → P (faces_at s at)) → P [] → P (held_faces h s at)
  by_faces faces f g = f refl
  by_faces nothing f g = g
  by_faces flag f g = g
  by_faces (one_of strings) f g = g
  by_faces vertices f g = g
  by_faces weights f g = g
  by_faces indices f g = g
  by_faces keys f g = g
  by_faces bone_number f g = g
  by_faces (link_to to) f g = g
