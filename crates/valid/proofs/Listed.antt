-- The line that the reading's search finds is the one of its kind that lists the name: no two lines of the table meet in a name.
use Prim.Native.Nat.{ℕ}
use mathlib.Core.Path.{◌≡◌, refl, sym, ◌∙◌, subst}
use mathlib.Core.Logic.{inl, inr, ◌↔◌}
use mathlib.Core.Bool.{Bool, true, false, cond, not, ◌&&◌, false≢true, and-eq-true_iff}
use mathlib.Core.List.{List, [], ◌∷◌, ◌++◌}
use lib.Dec.{eqb}
use borrow.Author.Tests.{eq-eqb, eqb-true, not-true}
use Rattle.base.proofs.Tests.{by_test}
use Rattle.names.specs.Names.{same, read_digits, number, number_after}
use Rattle.rules.specs.Table.{Line, lines, free}
use Rattle.base.specs.Letters.{letters}
use Rattle.rules.proofs.Laws.{rule_of, all}
use Rattle.rules.specs.Rules.{is_number, lists, rule_in, of_kind, lines_of}
use Rattle.base.specs.Lists.{Each, Some}
use Rattle.valid.specs.Lines.{Numbered, Spells, Lists, ByLine}
use Rattle.valid.proofs.Says.{Says, says_same}
use Rattle.valid.proofs.Decimals.{says_numbered}
use Rattle.base.proofs.Lists.{each_map}

says_spelt : (numbered : Bool) (letters name : List ℕ) → Says (cond numbered (is_number (number_after name letters)) (same name letters)) (Spells numbered letters name)
says_spelt true letters name = says_numbered name letters
says_spelt false letters name = says_same name letters

pub says_lists : (l : Line) (name : List ℕ) → Says (lists l name) (Lists l name)
unfolding lists
says_lists l name = says_spelt l.numbered l.name name

-- ---- two lines meet where one name may be listed by both
unfoldable start_alike : (a b : List ℕ) → Bool
start_alike [] b = true
start_alike (x ∷ a) [] = true
start_alike (x ∷ a) (y ∷ b) = eqb x y

abbrev alike : (numbered other : Bool) (a b : List ℕ) → Bool
alike true true a b = start_alike a b
alike true false a b = is_number (number_after b a)
alike false true a b = is_number (number_after a b)
alike false false a b = same a b

abbrev meet : Line → Line → Bool
meet l m = alike l.numbered m.numbered l.name m.name

start_alike_lem : (a b c d : List ℕ) → a ++ b ≡ c ++ d → start_alike a c ≡ true
unfolding start_alike
start_alike_lem [] b c d e = refl
start_alike_lem (x ∷ a) b [] d e = refl
start_alike_lem (x ∷ a) b (y ∷ c) d e = let h : x ≡ y = cc in eq-eqb x y h

both_alike : (numbered other : Bool) (a b name : List ℕ) → Spells numbered a name → Spells other b name → alike numbered other a b ≡ true
both_alike true true a b name h k = start_alike_lem a _ b _ (sym h.spelt ∙ k.spelt)
both_alike true false a b name h k = (says_numbered b a).1 (subst (Numbered a) k h)
both_alike false true a b name h k = (says_numbered a b).1 (subst (Numbered b) h k)
both_alike false false a b name h k = (says_same a b).1 (sym h ∙ k)

both_meet : (l m : Line) (name : List ℕ) → Lists l name → Lists m name → meet l m ≡ true
both_meet l m name = both_alike l.numbered m.numbered l.name m.name name

-- ---- no line meets a later one of its kind
abbrev clear : Line → Line → Bool
clear l m = not (eqb m.kind l.kind && meet l m)

unfoldable all_clear : List Line → Bool
all_clear [] = true
all_clear (l ∷ ls) = all (clear l) ls && all_clear ls

table_clear : all_clear lines ≡ true
unfolding all_clear all start_alike number_after number read_digits same letters lines
table_clear = refl

pub all_each : {A : Type 0} (test : A → Bool) (xs : List A) → all test xs ≡ true → Each (λ x. test x ≡ true) xs
unfolding all
all_each test [] e = tt
all_each test (x ∷ xs) e = let both = (and-eq-true_iff (test x) (all test xs)).0 e in (both.0, all_each test xs both.1)

-- ---- the line of a kind and name
module _ (kind : ℕ) (name : List ℕ) where
  abbrev Named : (Line → Type 0) → List Line → Type 0
  Named P ls = Each (λ l. l.kind ≡ kind → Lists l name → P l) ls

  -- a later line that is of the kind and lists the name is not met by the first
  later : (l : Line) (ls : List Line) → Each (λ m. clear l m ≡ true) ls → Named (λ m. m ≡ rule_in (of_kind ls kind) name) ls
      → Named (λ m. m ≡ rule_in (of_kind (l ∷ ls) kind) name) ls
  unfolding of_kind rule_in
  later l ls c ih =
      by_test (eqb l.kind kind)
      (λ t. by_test (lists l name)
      (λ u. each_map (λ m n k h.
      let here : l.kind ≡ kind = eqb-true l.kind kind t in
      let same : eqb m.kind l.kind ≡ true = eq-eqb m.kind l.kind (k ∙ sym here) in
      let clash : (eqb m.kind l.kind && meet l m) ≡ true = rw same (both_meet l m name ((says_lists l name).0 u) h) in
      absurd (false≢true (sym (not-true _ n) ∙ clash))) ls c)
      (λ u. rw (t, u) ih))
      (λ t. rw t ih)

  only : (ls : List Line) → all_clear ls ≡ true → Named (λ l. l ≡ rule_in (of_kind ls kind) name) ls
  unfolding all_clear of_kind rule_in
  only [] e = tt
  only (l ∷ ls) e =
      let both = (and-eq-true_iff (all (clear l) ls) (all_clear ls)).0 e in
      (λ k h. rw (eq-eqb l.kind kind k, (says_lists l name).1 h), later l ls (all_each (clear l) ls both.0) (only ls both.1))

  pub to_line : (P : Line → Type 0) → P (rule_of kind name) → ByLine kind name P
  unfolding lines_of
  to_line P h = each_map (λ l e k n. subst P (sym (e k n)) h) lines (only lines table_clear)

  from_some : (P : Line → Type 0) (ls : List Line) → P free → Named P ls → P (rule_in (of_kind ls kind) name)
  unfolding of_kind rule_in
  from_some P [] f h = f
  from_some P (l ∷ ls) f h =
      by_test (eqb l.kind kind)
      (λ t. by_test (lists l name)
      (λ u. rw (t, u) (h.0 (eqb-true l.kind kind t) ((says_lists l name).0 u)))
      (λ u. rw (t, u) (from_some P ls f h.1)))
      (λ t. rw t (from_some P ls f h.1))

  pub from_line : (P : Line → Type 0) → P free → ByLine kind name P → P (rule_of kind name)
  unfolding lines_of
  from_line P f h = from_some P lines f h

  found_some : (P : Line → Type 0) (ls : List Line) → (P free → ⊥) → P (rule_in (of_kind ls kind) name) → Some (λ l. (l.kind ≡ kind) × Lists l name × P l) ls
  unfolding of_kind rule_in
  found_some P [] n h = n h
  found_some P (l ∷ ls) n h =
      by_test (eqb l.kind kind)
      (λ t. by_test (lists l name)
      (λ u. inl (eqb-true l.kind kind t, (says_lists l name).0 u, rw (t, u) at h))
      (λ u. inr (found_some P ls n (rw (t, u) at h))))
      (λ t. inr (found_some P ls n (rw t at h)))

  -- the line that is found has a property, which no free name has, exactly where some line of the kind and name has it
  pub some_line : (P : Line → Type 0) → (P free → ⊥) → P (rule_of kind name) ↔ Some (λ l. (l.kind ≡ kind) × Lists l name × P l) lines
  unfolding lines_of
  some_line P n = (found_some P lines n, λ h. some_each lines (only lines table_clear) h)
    where
      some_each : (ls : List Line) → Named (λ l. l ≡ rule_in (of_kind lines kind) name) ls → Some (λ l. (l.kind ≡ kind) × Lists l name × P l) ls → P (rule_in (of_kind lines kind) name)
      some_each [] e h = absurd h
      some_each (l ∷ ls) e (inl h) = subst P (e.0 h.0 h.1) h.2
      some_each (l ∷ ls) e (inr h) = some_each ls e.1 h
