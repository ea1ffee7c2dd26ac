-- A node without properties: only a required line can refuse it.
use Prim.Native.Nat.{ℕ, zero, suc, ◌+◌, ◌-◌, ◌≤◌, ◌<◌}
use native.Mathlib.Nat.{add-zero}
use native.Mathlib.Omega.{arith}
use mathlib.Core.Path.{◌≡◌, refl, sym, ap, ◌∙◌, subst}
use mathlib.Core.Bool.{Bool, true, false, true≢false, not, ◌&&◌, ◌||◌, and-false, and-eq-true_iff}
use mathlib.Core.List.{List, [], ◌∷◌}
use lib.Dec.{eqb, ltb}
use borrow.Author.Tests.{le-ltb, ltb-true, ltb-false, eqb-true, eq-eqb, ne_eqb}
use Rattle.base.specs.Letters.{letters}
use Rattle.base.proofs.Tests.{by_test}
use Rattle.kinds.specs.Kinds.{mesh, is_known}
use Rattle.table.specs.declared.Row.{Row}
use Rattle.table.specs.Table.{row_at, rows_at}
use Rattle.table.proofs.Rests.{rest, rest_all, rest_more, rest_none}
use Rattle.body.specs.Body.{properties, pass, first_named}
use Rattle.faces.specs.Faces.{degenerate}
use Rattle.rules.specs.Table.{Line}
use Rattle.rules.specs.Rules.{lines_of, required_in}
use Rattle.judge.specs.Properties.{has}
use Rattle.judge.specs.Typed.{typed}
use Rattle.judge.specs.Missing.{misses, lacks}
use Rattle.judge.specs.Valued.{valued, node_faces, node_links}
use Rattle.judge.specs.Judge.{verdict_at, judged_at, judged}
use Rattle.format.specs.Rows.{body_of, own_bytes}
use Rattle.links.specs.Links.{Linked}
use Rattle.links.specs.Private.{Count}
use Rattle.reader.specs.Reading.{unjudged, judged_with, ruled, own_unknown}
use Rattle.reader.specs.Private.{unknown_bytes, is_judged, Skips, continued}
use Rattle.reader.proofs.Judging.{judged_known, judged_unknown}
use Rattle.reader.proofs.Loops.{on_top, rules_passed}
use Rattle.reader.proofs.Linking.{links_kept}

-- no property has a name
has_none : (s name : List ℕ) → has s [] name ≡ false
has_none s name = le-ltb (first_named s name []) 0 (omega arith)

-- a line is missing where one is required
misses_required : (ls : List Line) → misses ls [] [] ≡ not (eqb (required_in ls) 0)
unfolding misses required_in
misses_required [] = refl
misses_required (l ∷ ls) =
    by_test l.required
    (λ t. rw (t, has_none [] l.name, ne_eqb (suc (required_in ls)) 0 (λ q. omega (arith, q))))
    (λ t. rw t (misses_required ls))

misses_bare : (ls : List Line) (s : List ℕ) → misses ls s [] ≡ misses ls [] []
unfolding misses
misses_bare [] s = refl
misses_bare (l ∷ ls) s = rw (has_none s l.name, has_none [] l.name, misses_bare ls s)

lacks_bare : (kind : ℕ) (ls : List Line) (s : List ℕ) → misses ls [] [] ≡ false → lacks kind ls s [] ≡ false
unfolding lacks
lacks_bare kind ls s e =
    rw (misses_bare ls s, e, has_none s (letters "wb"), has_none s (letters "wv")) (and-false (eqb kind mesh))

bare : (kind : ℕ) (ls : List Line) (s : List ℕ) (bones : ℕ) {starts : List ℕ} → starts ≡ [] → misses ls [] [] ≡ false → judged_at kind ls s starts bones ≡ unjudged
unfolding judged_at verdict_at typed valued node_faces node_links degenerate
bare kind ls s bones n e = rw (n, lacks_bare kind ls s e)

-- ---- rows that are not judged
neither : (k z m : Bool) → (k && (not z || m)) ≡ false → k ≡ true → (z ≡ true) × (m ≡ false)
neither true true m e k = (refl, e)
neither true false m e k = absurd (true≢false e)
neither false z m e k = absurd (true≢false (sym k))

module _ (s : List ℕ) (r : Row) (bones : ℕ) where
  judged_bare : is_known r.kind ≡ true → r.properties ≡ 0 → misses (lines_of r.kind) [] [] ≡ false → judged_with s r bones ≡ unjudged
  unfolding judged properties pass
  judged_bare known z e =
      let none : (properties (body_of s r) r.properties).starts ≡ [] = ap (λ k. (properties (body_of s r) k).starts) z in
      judged_known s r bones known ∙ bare r.kind (lines_of r.kind) (body_of s r) bones none e

  pub not_judged : is_judged r ≡ false → judged_with s r bones ≡ unjudged
  not_judged e =
      by_test (is_known r.kind)
      (λ known.
      let is = neither (is_known r.kind) (eqb r.properties 0) (misses (lines_of r.kind) [] []) e known in
      judged_bare known (eqb-true r.properties 0 is.0) is.1)
      (λ unknown. judged_unknown s r bones unknown)

pub judged_is_known : (r : Row) → is_judged r ≡ true → is_known r.kind ≡ true
judged_is_known r e = ((and-eq-true_iff (is_known r.kind) _).0 e).0

-- by the tests of the code
module _ (r : Row) where
  pub unknown_unjudged : is_known r.kind ≡ false → false ≡ is_judged r
  unknown_unjudged t = rw t

  pub properties_judged : is_known r.kind ≡ true → (r.properties ≡ 0 → ⊥) → true ≡ is_judged r
  properties_judged t h = rw (t, ne_eqb r.properties 0 h)

  pub required_judged : is_known r.kind ≡ true → r.properties ≡ 0 → {k : ℕ} → k ≡ required_in (lines_of r.kind) → not (eqb k 0) ≡ is_judged r
  required_judged t z e = rw (t, eq-eqb r.properties 0 z, e) (sym (misses_required (lines_of r.kind)))

  pub bytes_known : is_known r.kind ≡ true → 0 ≡ unknown_bytes r
  bytes_known t = rw t

  pub bytes_unknown : is_known r.kind ≡ false → own_bytes r ≡ unknown_bytes r
  bytes_unknown t = rw t

-- ---- own bytes of unknown rows
unknown_more : (r : Row) (rs : List Row) → own_unknown (r ∷ rs) ≡ unknown_bytes r + own_unknown rs
unfolding own_unknown
unknown_more r rs = by_test (is_known r.kind) (λ t. rw t (omega arith)) (λ t. rw t)

module _ (t : List ℕ) (n : ℕ) where
  pub unknown_begun : 0 + own_unknown (rest t n 0) ≡ own_unknown (rows_at t 0 n)
  unknown_begun = omega (arith, ap own_unknown (rest_all t n))

  pub unknown_passed : (i : ℕ) → i < n → {r : Row} → r ≡ row_at t i → (u : ℕ) {k : ℕ} → k ≡ unknown_bytes r →
      (u + k) + own_unknown (rest t n (i + 1)) ≡ u + own_unknown (rest t n i)
  unknown_passed i h {r} e u f =
      omega (arith, f, ap (λ x. own_unknown (x ∷ rest t n (i + 1))) e, unknown_more r (rest t n (i + 1)), ap own_unknown (rest_more t n i h))

  pub unknown_ended : (i : ℕ) → n ≤ i → {u : ℕ} → u ≡ u + own_unknown (rest t n i)
  unfolding own_unknown
  unknown_ended i h = rw (rest_none t n i h) (omega arith)

  -- a known row has none
  pub unknown_none : (i : ℕ) → i < n → {r : Row} → r ≡ row_at t i → is_known r.kind ≡ true → own_unknown (rest t n (i + 1)) ≡ own_unknown (rest t n i)
  unknown_none i h {r} e k = omega (arith, unknown_passed i h e 0 (bytes_known r k))

-- ---- what stays over some rows
pub one_more : (P : ℕ → Type 0) (from i : ℕ) → ((j : ℕ) → from ≤ j → j < i → P j) → P i → (j : ℕ) → from ≤ j → j < i + 1 → P j
one_more P from i h p j a b =
    by_test (ltb j i) (λ e. h j a (ltb-true j i e)) (λ e. let q : i ≡ j = omega (arith, ltb-false j i e, b) in subst P q p)

stays : {A : Type 0} (P : ℕ → A) (from k : ℕ) → ((i : ℕ) → from ≤ i → i < from + k → P (i + 1) ≡ P i) → P (from + k) ≡ P from
stays P from zero h = let e : from + 0 ≡ from = omega arith in ap P e
stays P from (suc k) h =
    let e : from + suc k ≡ from + k + 1 = omega arith in
    ap P e ∙ h (from + k) (omega arith) (omega arith) ∙ stays P from k (λ i a b. h i a (omega arith))

module _ (s t : List ℕ) (n : ℕ) {from before to unknown : ℕ} (x : Skips t n from before to unknown) where
  over : {A : Type 0} (P : ℕ → A) → ((i : ℕ) → i < n → ((b : ℕ) → judged_with s (row_at t i) b ≡ unjudged) → P (i + 1) ≡ P i) → P to ≡ P from
  over P h =
      let k : to ≡ from + (to - from) = omega (arith, x.onward) in
      ap P k ∙ stays P from (to - from) (λ i a b. h i (omega (arith, b, x.onward, x.within)) (λ c. not_judged s (row_at t i) c (x.unjudged i a (omega (arith, b, x.onward)))))

  pub rules_skipped : (f d l : ℕ) → on_top f d l (ruled s (rows_at t 0 n) (rest t n to)) ≡ on_top f d l (ruled s (rows_at t 0 n) (rest t n from))
  rules_skipped f d l =
      over (λ i. on_top f d l (ruled s (rows_at t 0 n) (rest t n i)))
      (λ i h u. sym (rules_passed s t n f d l i h refl refl (sym (u _)) refl ∙ simp add-zero))

  pub links_skipped : (count : Count) (l : Linked) → continued count s l (rest t n to) ≡ continued count s l (rest t n from)
  links_skipped count l =
      over (λ i. continued count s l (rest t n i)) (λ i h u. links_kept count s t n i h refl l 0 (sym (u 0)) refl (λ z. refl) refl)
