-- Searches among lines and among strings; and what a test says of all lines.
use Prim.Native.Nat.{ℕ}
use native.Mathlib.Omega.{arith}
use mathlib.Core.Path.{◌≡◌, refl, ap, ◌∙◌}
use mathlib.Core.Logic.{◌⊎◌, inl, inr}
use mathlib.Core.Bool.{Bool, true, not, ◌&&◌, ◌||◌, and-eq-true_iff}
use mathlib.Core.List.{List, [], ◌∷◌, map}
use lib.Dec.{eqb}
use lib.ListN.{length, get_or}
use Rattle.std.specs.Prelude.{nat_lt}
use Rattle.std.specs.List.{list_any, position, position_or_len}
use Rattle.std.specs.Option.{unwrap_or}
use Rattle.std.proofs.lemmas.List.Sums.{prefix_len-le-length}
use borrow.Author.Tests.{eqb-true, ltb-false}
use Rattle.base.proofs.Tests.{by_test}
use Rattle.rules.specs.declared.Line.{Line as CodeLine}
use Rattle.rules.specs.Table.{Line, lines, free}
use Rattle.rules.specs.Packing.{line_of, lines_from}
use Rattle.rules.specs.Rules.{lists, rule_in, find_in, of_kind, lines_of, is_text, is_one_of}

-- the line of a kind and name
abbrev pub rule_of : (kind : ℕ) (name : List ℕ) → Line
rule_of kind name = rule_in (lines_of kind) name

-- a test of all of a list
unfoldable pub all : {A : Type 0} → (A → Bool) → List A → Bool
all test [] = true
all test (x ∷ l) = test x && all test l

-- ---- some lines

-- the place of a name is that of the first that has it
module _ (name : List ℕ) where
  abbrev has : CodeLine → Bool
  has l = lists (line_of l) name

  is_first : (ls : List CodeLine) → find_in (lines_from ls) name ≡ position_or_len has ls
  unfolding find_in
  is_first [] = refl
  is_first (l ∷ ls) = by_test (has l) (λ t. rw t refl) (λ t. rw t (omega (arith, is_first ls)))

  pub is_place : (ls : List CodeLine) → find_in (lines_from ls) name ≡ unwrap_or (position has ls) (length ls)
  is_place ls =
      by_test (nat_lt (position_or_len has ls) (length ls))
      (λ t. rw t (is_first ls))
      (λ t. rw t (is_first ls ∙ omega (arith, ltb-false (position_or_len has ls) (length ls) t, prefix_len-le-length (λ l. not (has l)) ls)))

-- for callers: the line at the place that is found
pub found : (ls : List Line) (name : List ℕ) → get_or ls (find_in ls name) free ≡ rule_in ls name
unfolding find_in rule_in
found [] name = refl
found (l ∷ ls) name = by_test (lists l name) (λ t. rw t) (λ t. rw t (found ls name))

-- for callers: what a test says of all lines, it says of the line of a kind and name, but for a free name
module _ (test : Line → Bool) (kind : ℕ) (name : List ℕ) where
  ruled_in : (ls : List Line) → all test ls ≡ true → let l = rule_in (of_kind ls kind) name in (l ≡ free) ⊎ ((test l ≡ true) × (l.kind ≡ kind))
  unfolding all of_kind rule_in
  ruled_in [] e = inl refl
  ruled_in (l ∷ ls) e =
      let both = (and-eq-true_iff (test l) (all test ls)).0 e in
      by_test (eqb l.kind kind)
      (λ t. by_test (lists l name) (λ u. rw (t, u) (inr (both.0, eqb-true l.kind kind t))) (λ u. rw (t, u) (ruled_in ls both.1)))
      (λ t. rw t (ruled_in ls both.1))

  pub ruled : all test lines ≡ true → (rule_of kind name ≡ free) ⊎ ((test (rule_of kind name) ≡ true) × ((rule_of kind name).kind ≡ kind))
  unfolding lines_of
  ruled = ruled_in lines

-- ---- the strings of a set

-- one of some strings stands there where it is so of any of them
pub is_any : {A : Type 0} (f : A → List ℕ) (strings : List A) (bytes : List ℕ) → is_one_of (map f strings) bytes ≡ list_any (λ s. is_text bytes (f s)) strings
unfolding is_one_of
is_any f [] bytes = refl
is_any f (s ∷ strings) bytes = ap (λ b. is_text bytes (f s) || b) (is_any f strings bytes)
