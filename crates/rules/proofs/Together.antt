-- The lines of a kind are found by places: they stand together.
use Prim.Native.Nat.{ℕ, ◌+◌, ◌-◌, ◌≤◌}
use native.Mathlib.Omega.{arith}
use mathlib.Core.Path.{◌≡◌, refl, sym, ap, ◌∙◌}
use mathlib.Core.Bool.{Bool, true, not, ◌&&◌, ◌||◌, and-eq-true_iff}
use mathlib.Core.List.{List, [], ◌∷◌}
use lib.Dec.{eqb}
use lib.ListN.{length, take, drop, length-drop, length-map}
use borrow.Author.Tests.{eqb-true, not-true, le-leb}
use Rattle.std.proofs.lemmas.List.{take-map, drop-map}
use Rattle.base.proofs.Tests.{by_test}
use Rattle.rules.specs.declared.Span.{Span}
use Rattle.rules.specs.Table.{Line, lines}
use Rattle.rules.specs.declared.Line.{Line as CodeLine}
use Rattle.rules.specs.Packing.{line_of, lines_from}
use Rattle.rules.specs.Rules.{of_kind, lines_of, before, run, span_of, rows_of}

pub many : length lines ≡ 81
unfolding lines
many = refl

unfoldable none : List Line → ℕ → Bool
none [] kind = true
none (l ∷ ls) kind = not (eqb l.kind kind) && none ls kind

-- after a line comes one of its kind, or there is none after it
unfoldable together : List Line → Bool
together [] = true
together (l ∷ []) = true
together (l ∷ m ∷ ls) = (eqb m.kind l.kind || none (m ∷ ls) l.kind) && together (m ∷ ls)

all_together : together lines ≡ true
unfolding together none lines
all_together = refl

tail_together : (l : Line) (ls : List Line) → together (l ∷ ls) ≡ true → together ls ≡ true
unfolding together
tail_together l [] e = refl
tail_together l (m ∷ ms) e = ((and-eq-true_iff (eqb m.kind l.kind || none (m ∷ ms) l.kind) _).0 e).1

-- ---- the lines of a kind, among some
module _ (kind : ℕ) where
  of_none : (ls : List Line) → none ls kind ≡ true → of_kind ls kind ≡ []
  unfolding none of_kind
  of_none [] e = refl
  of_none (l ∷ ls) e =
      let both = (and-eq-true_iff (not (eqb l.kind kind)) (none ls kind)).0 e in
      rw (not-true (eqb l.kind kind) both.0) (of_none ls both.1)

  -- after a line of the kind they come first
  after : (l : Line) (ls : List Line) → l.kind ≡ kind → together (l ∷ ls) ≡ true → of_kind ls kind ≡ take (run ls kind) ls
  unfolding together of_kind run
  after l [] k e = refl
  after l (m ∷ ms) k e =
      let both = (and-eq-true_iff (eqb m.kind l.kind || none (m ∷ ms) l.kind) (together (m ∷ ms))).0 e in
      by_test (eqb m.kind kind)
      (λ t. rw t (ap (λ r. m ∷ r) (after m ms (eqb-true m.kind kind t) both.1)))
      (λ t.
      let out : none (m ∷ ms) kind ≡ true =
      ap (λ b. b || none (m ∷ ms) kind) (sym t) ∙ ap (λ k. eqb m.kind k || none (m ∷ ms) k) (sym k) ∙ both.0 in
      rw t (rw t at (of_none (m ∷ ms) out)))

  stand : (ls : List Line) → together ls ≡ true →
      of_kind ls kind ≡ take (run (drop (before ls kind) ls) kind) (drop (before ls kind) ls)
  unfolding of_kind run before
  stand [] e = refl
  stand (l ∷ ls) e =
      by_test (eqb l.kind kind)
      (λ t. rw (t, t) (ap (λ r. l ∷ r) (after l ls (eqb-true l.kind kind t) e)))
      (λ t. rw t (stand ls (tail_together l ls e)))

-- ---- the lines of a kind are those of its span
abbrev pub Spanned : ℕ → Span → Type 0
Spanned kind s = (s ≡ span_of kind) × (s.from ≤ s.to) × (s.to ≤ 81)

of_span : (kind : ℕ) → lines_of kind ≡ take ((span_of kind).to - (span_of kind).from) (drop (span_of kind).from lines)
unfolding span_of lines_of
of_span kind =
    let at = before lines kind in
    let count = run (drop at lines) kind in
    let taken : at + count - at ≡ count = omega arith in
    rw taken (stand kind lines all_together)

-- the span of a kind lies in the table
module _ (kind : ℕ) where
  before_most : (ls : List Line) → before ls kind ≤ length ls
  unfolding before
  before_most [] = omega arith
  before_most (l ∷ ls) = by_test (eqb l.kind kind) (λ t. rw t (omega arith)) (λ t. rw t (omega (arith, before_most ls)))

  run_most : (ls : List Line) → run ls kind ≤ length ls
  unfolding run
  run_most [] = omega arith
  run_most (l ∷ ls) = by_test (eqb l.kind kind) (λ t. rw t (omega (arith, run_most ls))) (λ t. rw t (omega arith))

  inside : (span_of kind).to ≤ 81
  unfolding span_of
  inside =
      let at = before lines kind in
      omega (arith, before_most lines, run_most (drop at lines), length-drop at lines, many)

-- for callers: the lines of a kind, of the rows that are lent for it where those of the whole table are
pub lines_lent : (kind : ℕ) (rows : List CodeLine) → lines_from rows ≡ lines → lines_from (rows_of kind rows) ≡ lines_of kind
unfolding rows_of
lines_lent kind rows e =
    let from = (span_of kind).from in
    let n = (span_of kind).to - from in
    let long : length rows ≡ 81 = sym (length-map rows line_of) ∙ ap length e ∙ many in
    rw (le-leb (span_of kind).to (length rows) (omega (arith, inside kind, long)))
    (sym (take-map line_of n (drop from rows)) ∙ ap (take n) (sym (drop-map line_of from rows)) ∙ ap (λ ls. take n (drop from ls)) e ∙ sym (of_span kind))
