-- As many required properties as a kind has required lines are all of them, as no name comes twice; fewer are not.
use Rattle.std.proofs.Common.{◌≡◌, ℕ, suc, ◌+◌, ◌<◌, ◌≤◌, Bool, true, false, cond, not, ◌&&◌, ◌||◌, eqb, List, [], ◌∷◌, ◌++◌, map, sym, refl, ap, ◌∙◌, true≢false, append_assoc, append-nil, arith, eq-eqb, ne_eqb}
use mathlib.Core.Bool.{and-false, or-false, and-eq-true_iff}
use borrow.Author.Tests.{not-true}
use Rattle.base.proofs.Tests.{by_test}
use Rattle.base.specs.Letters.{letters}
use Rattle.names.specs.Names.{same, read_digits, number, number_after}
use Rattle.names.proofs.Laws.{same_refl, same_eq}
use Rattle.props.specs.Step.{name_at}
use Rattle.body.specs.Body.{first_named}
use Rattle.rules.specs.Table.{Line, lines}
use Rattle.rules.specs.Rules.{lists, rule_in, of_kind, lines_of, required_in}
use Rattle.rules.proofs.Laws.{all, found}
use Rattle.rules.proofs.Spans.{of_all_kinds}
use Rattle.rules.proofs.Names.{neither}
use Rattle.judge.specs.Properties.{line_number, rule_at, has}
use Rattle.judge.specs.Typed.{is_mistyped, typed}
use Rattle.judge.specs.Missing.{is_missing, misses}
use Rattle.judge.specs.ByLine.{required_among}
use Rattle.judge.proofs.Presence.{has_snoc}

abbrev bit_of : Bool → ℕ
bit_of b = cond b 1 0

-- ---- what holds of the lines of a kind: a required one has one name, and no line before it has that

-- none of some lines is required and has a name that another line has
unfoldable apart : Line → List Line → Bool
apart l [] = true
apart l (m ∷ ms) = not (m.required && lists l m.name) && apart l ms

unfoldable ordered : List Line → Bool
ordered [] = true
ordered (l ∷ ls) = not (l.required && l.numbered) && (apart l ls && ordered ls)

in_order : (kind : ℕ) → ordered (lines_of kind) ≡ true
unfolding ordered apart all lines of_kind lines_of lists same number_after read_digits number letters
in_order kind = of_all_kinds ordered refl refl kind

-- ---- how many of some lines are required and have a name that is there
unfoldable present : List Line → (List ℕ → Bool) → ℕ
present [] there = 0
present (l ∷ ls) there = cond (l.required && there l.name) (suc (present ls there)) (present ls there)

not_both : (a b : Bool) → not (a && b) ≡ true → a ≡ true → b ≡ false
not_both true b e t = not-true b e
not_both false b e t = absurd (true≢false (sym t))

-- one more name, which was not there
module _ (there : List ℕ → Bool) (name : List ℕ) (new : there name ≡ false) where
  abbrev more : List ℕ → Bool
  more other = there other || same name other

  -- of lines that do not have it
  unchanged : (l : Line) → lists l name ≡ true → (ls : List Line) → apart l ls ≡ true → present ls more ≡ present ls there
  unfolding present apart
  unchanged l has-it [] e = refl
  unchanged l has-it (m ∷ ms) e =
      let both = (and-eq-true_iff (not (m.required && lists l m.name)) (apart l ms)).0 e in
      by_test m.required
      (λ t.
      let other : same name m.name ≡ false =
      by_test (same name m.name)
      (λ q. absurd (true≢false (sym has-it ∙ ap (lists l) (same_eq name m.name q) ∙ not_both m.required (lists l m.name) both.0 t)))
      (λ q. q) in
      rw (t, other, or-false (there m.name), unchanged l has-it ms both.1))
      (λ t. rw t (unchanged l has-it ms both.1))

  -- a required line has one name
  plainly : (l : Line) → l.required ≡ true → not (l.required && l.numbered) ≡ true → same name l.name ≡ lists l name
  unfolding lists
  plainly l t e = rw (not_both l.required l.numbered e t)

  one_more : (ls : List Line) → ordered ls ≡ true → present ls more ≡ present ls there + bit_of (rule_in ls name).required
  unfolding present ordered rule_in
  one_more [] e = refl
  one_more (l ∷ ls) e =
      let parts = (and-eq-true_iff (not (l.required && l.numbered)) (apart l ls && ordered ls)).0 e in
      let rest = (and-eq-true_iff (apart l ls) (ordered ls)).0 parts.1 in
      by_test (lists l name)
      (λ has-it.
      by_test l.required
      (λ t.
      let own : name ≡ l.name = same_eq name l.name (plainly l t parts.0 ∙ has-it) in
      rw (has-it, t, ← own, new, same_refl name, unchanged l has-it ls rest.0) (omega arith))
      (λ t. rw (has-it, t, unchanged l has-it ls rest.0) (omega arith)))
      (λ lacks-it.
      by_test l.required
      (λ t. rw (lacks-it, t, plainly l t parts.0 ∙ lacks-it, or-false (there l.name)) (by (there l.name) (present ls more) (present ls there) (bit_of (rule_in ls name).required) (one_more ls rest.1)))
      (λ t. rw (lacks-it, t) (one_more ls rest.1)))
    where
      by : (b : Bool) (m n k : ℕ) → m ≡ n + k → cond b (suc m) m ≡ cond b (suc n) n + k
      by true m n k e = omega (arith, e)
      by false m n k e = e

same_present : {f g : List ℕ → Bool} → ((name : List ℕ) → f name ≡ g name) → (ls : List Line) → present ls f ≡ present ls g
unfolding present
same_present e [] = refl
same_present e (l ∷ ls) = rw (e l.name, same_present e ls)

-- ---- the properties of a node, of which 13 refuses none

-- how many of them have required lines
unfoldable required_of : List Line → (s starts : List ℕ) → ℕ
required_of ls s [] = 0
required_of ls s (at ∷ more) = bit_of (rule_at ls s at).required + required_of ls s more

among_lines : (ls : List Line) (s starts : List ℕ) → required_among ls (map (line_number ls s) starts) ≡ required_of ls s starts
unfolding required_among required_of
among_lines ls s [] = refl
among_lines ls s (at ∷ more) =
    ap (λ (l : Line). bit_of l.required + required_among ls (map (line_number ls s) more)) (found ls (name_at s at))
    ∙ ap (λ n. bit_of (rule_at ls s at).required + n) (among_lines ls s more)

module _ (ls : List Line) (in_order : ordered ls ≡ true) (s : List ℕ) where
  -- each that has a required line is one more of the lines that are there
  counted : (before starts : List ℕ) → (typed ls s before starts).number ≡ 0 → present ls (has s (before ++ starts)) ≡ present ls (has s before) + required_of ls s starts
  unfolding typed required_of
  counted before [] e = rw (append-nil before) (omega arith)
  counted before (at ∷ more) e =
      by_test (is_mistyped ls s before at)
      (λ t. absurd (thirteen (rw t at e)))
      (λ t.
      let new = (neither (has s before (name_at s at)) _ t).0 in
      let here : present ls (has s (before ++ (at ∷ []))) ≡ present ls (has s before) + bit_of (rule_at ls s at).required =
      same_present (λ name. has_snoc s name before at) ls ∙ one_more (has s before) (name_at s at) new ls in_order in
      let after = counted (before ++ (at ∷ [])) more (rw t at e) in
      ap (λ l. present ls (has s l)) (sym (append_assoc before (at ∷ []) more)) ∙ omega (arith, here, after))
    where
      thirteen : suc 12 ≡ 0 → ⊥
      thirteen q = omega (arith, q)

none_present : (ls : List Line) (s : List ℕ) → present ls (has s []) ≡ 0
unfolding present first_named
none_present [] s = refl
none_present (l ∷ ls) s = rw (and-false l.required) (none_present ls s)

-- ---- all required lines are there, or not
module _ (s starts : List ℕ) where
  most : (ls : List Line) → present ls (has s starts) ≤ required_in ls
  unfolding present required_in
  most [] = omega arith
  most (l ∷ ls) = by l.required (has s starts l.name) (most ls)
    where
      by : (a b : Bool) {m n : ℕ} → m ≤ n → cond (a && b) (suc m) m ≤ cond a (suc n) n
      by true true h = omega (arith, h)
      by true false h = omega (arith, h)
      by false b h = h

  whole : (ls : List Line) → misses ls s starts ≡ false → present ls (has s starts) ≡ required_in ls
  unfolding present required_in misses
  whole [] e = refl
  whole (l ∷ ls) e =
      let both = neither (is_missing l s starts) (misses ls s starts) e in
      by l.required (has s starts l.name) both.0 (whole ls both.1)
    where
      by : (a b : Bool) → (a && not b) ≡ false → {m n : ℕ} → m ≡ n → cond (a && b) (suc m) m ≡ cond a (suc n) n
      by true true t e = ap suc e
      by true false t e = absurd (true≢false t)
      by false b t e = e

  part : (ls : List Line) → misses ls s starts ≡ true → present ls (has s starts) < required_in ls
  unfolding present required_in misses
  part [] e = absurd (true≢false (sym e))
  part (l ∷ ls) e = by l.required (has s starts l.name) e (most ls) (part ls)
    where
      by : (a b : Bool) {c : Bool} → ((a && not b) || c) ≡ true → {m n : ℕ} → m ≤ n → (c ≡ true → m < n) → cond (a && b) (suc m) m < cond a (suc n) n
      by true true t h k = omega (arith, k t)
      by true false t h k = omega (arith, h)
      by false b t h k = k t

-- for callers: of the lines of a kind as many are required as properties have required lines, or one is missing
pub by_count : (kind : ℕ) (s starts : List ℕ) → (typed (lines_of kind) s [] starts).number ≡ 0 →
    not (eqb (required_among (lines_of kind) (map (line_number (lines_of kind) s) starts)) (required_in (lines_of kind))) ≡ misses (lines_of kind) s starts
by_count kind s starts e =
    let ls = lines_of kind in
    let n = required_among ls (map (line_number ls s) starts) in
    let all : present ls (has s starts) ≡ n =
    counted ls (in_order kind) s [] starts e ∙ ap (λ n. n + required_of ls s starts) (none_present ls s) ∙ omega (arith, among_lines ls s starts) in
    by_test (misses ls s starts)
    (λ t. rw t (ap not (ne_eqb n (required_in ls) (λ q. omega (arith, all, part s starts ls t, q)))))
    (λ t. rw t (ap not (eq-eqb n (required_in ls) (sym all ∙ whole s starts ls t))))
