-- Each stage refuses nothing exactly when it refuses no row.
use Prim.Native.Nat.{ℕ, zero, suc, ◌+◌}
use native.Mathlib.Omega.{arith}
use mathlib.Core.Path.{◌≡◌, refl, sym, ◌∙◌}
use mathlib.Core.Logic.{◌↔◌}
use mathlib.Core.Bool.{true}
use mathlib.Core.List.{List, [], ◌∷◌, ◌++◌}
use lib.ListN.{length}
use Rattle.le.specs.Le.{number_at}
use Rattle.base.specs.Refusals.{refused_or}
use Rattle.base.proofs.Tests.{by_test}
use Rattle.kinds.specs.Kinds.{is_known}
use Rattle.table.specs.declared.Row.{Row}
use Rattle.body.specs.Body.{properties}
use Rattle.rules.specs.Table.{Line}
use Rattle.rules.specs.Rules.{lines_of}
use Rattle.judge.specs.Judge.{Judged}
use Rattle.judge.specs.Properties.{rule_at, rest_at}
use Rattle.format.specs.Rows.{body_of}
use Rattle.base.specs.Lists.{Each}
use Rattle.links.specs.Links.{Linked}
use Rattle.links.specs.Links.{Link, reached, links_at, row_links, links_from, refusal_of, refused_links, resolved}
use Rattle.rules.proofs.Helds.{by_link, link_none}
use Rattle.reader.specs.Reading.{Ruled}
use Rattle.reader.specs.Reading.{judged_row, counted, uncounted, ruled}

-- ---- rules
abbrev pub RightRow : (s : List ℕ) (all : List Row) → Row → Type 0
RightRow s all r = (judged_row s all r).number ≡ 0

none_refused : (n place : ℕ) (j : Judged) (next : Ruled) → ((refused_or n (uncounted n place) (counted j next)).number ≡ 0) ↔ ((n ≡ 0) × (next.number ≡ 0))
none_refused zero place j next = (λ e. (refl, e), λ e. e.1)
none_refused (suc n) place j next = (λ e. absurd (omega (arith, e)), λ e. absurd (omega (arith, e.0)))

pub ruled_each : (s : List ℕ) (all rs : List Row) → ((ruled s all rs).number ≡ 0) ↔ Each (RightRow s all) rs
unfolding ruled
ruled_each s all [] = (λ e. tt, λ e. refl)
ruled_each s all (r ∷ rs) =
    let ih = ruled_each s all rs in
    let both = none_refused (judged_row s all r).number _ (judged_row s all r) (ruled s all rs) in
    (λ e. let b = both.0 e in (b.0, ih.0 b.1), λ e. both.1 (e.0, ih.1 e.1))

-- ---- links
abbrev after : (k place : ℕ) → Linked → Linked
after k place next = refused_or k (refused_links k place) next

after_same : (k place : ℕ) (a b : Linked) → a.number ≡ b.number → (after k place a).number ≡ (after k place b).number
after_same zero place a b e = e
after_same (suc k) place a b e = refl

after_zero : (k place : ℕ) (a : Linked) → ((after k place a).number ≡ 0) ↔ ((k ≡ 0) × (a.number ≡ 0))
after_zero zero place a = (λ e. (refl, e), λ e. e.1)
after_zero (suc k) place a = (λ e. absurd (omega (arith, e)), λ e. absurd (omega (arith, e.0)))

resolved_none : (n : ℕ) → (resolved n []).number ≡ 0
unfolding resolved
resolved_none n = refl

-- whether some are refused does not depend on how many came before
resolved_any : (n m : ℕ) (ls : List Link) → (resolved n ls).number ≡ (resolved m ls).number
unfolding resolved
resolved_any n m [] = refl
resolved_any n m (l ∷ ls) = after_same (refusal_of (length l.targets)) l.property (resolved (suc n) ls) (resolved (suc m) ls) (resolved_any (suc n) (suc m) ls)

resolved_append : (n : ℕ) (xs ys : List Link) → ((resolved n (xs ++ ys)).number ≡ 0) ↔ (((resolved n xs).number ≡ 0) × ((resolved n ys).number ≡ 0))
unfolding resolved
resolved_append n [] ys = (λ e. (refl, e), λ e. e.1)
resolved_append n (x ∷ xs) ys =
    let k = refusal_of (length x.targets) in
    let whole = after_zero k x.property (resolved (suc n) (xs ++ ys)) in
    let first = after_zero k x.property (resolved (suc n) xs) in
    let ih = resolved_append (suc n) xs ys in
    let any = resolved_any (suc n) n ys in (
      λ e. let w = whole.0 e in let r = ih.0 w.1 in (first.1 (w.0, r.0), sym any ∙ r.1),
      λ e. let f = first.0 e.0 in whole.1 (f.0, ih.1 (f.1, any ∙ e.1)),
    )

-- nor on the number of their row
resolved_row : (all : List Row) (ls : List Line) (row row' start n : ℕ) (s starts : List ℕ)
    → (resolved n (links_at all ls row start s starts)).number ≡ (resolved n (links_at all ls row' start s starts)).number
unfolding resolved links_at
resolved_row all ls row row' start n s [] = refl
resolved_row all ls row row' start n s (at ∷ more) =
    let held = (rule_at ls s at).held in
    by_link (λ links. (resolved n links).number ≡ (resolved n (links_at all ls row' start s (at ∷ more))).number) held _ _
    (λ to e. rw e
    (after_same (refusal_of (length (reached to (number_at 8 (rest_at s at) 0) 0 all))) (start + at)
    (resolved (suc n) (links_at all ls row start s more)) (resolved (suc n) (links_at all ls row' start s more)) (resolved_row all ls row row' start (suc n) s more)))
    (λ other. rw (link_none held _ _ other) (resolved_row all ls row row' start n s more))

abbrev pub LinkedRow : (s : List ℕ) (all : List Row) → Row → Type 0
LinkedRow s all r =
    is_known r.kind ≡ true → (resolved 0 (links_at all (lines_of r.kind) 0 r.start (body_of s r) (properties (body_of s r) r.properties).starts)).number ≡ 0

row_linked_lem : (s : List ℕ) (all : List Row) (i n : ℕ) (r : Row) → ((resolved n (row_links s all i r)).number ≡ 0) ↔ LinkedRow s all r
row_linked_lem s all i n r =
    let starts = (properties (body_of s r) r.properties).starts in
    let same = resolved_any n 0 (links_at all (lines_of r.kind) i r.start (body_of s r) starts) ∙ resolved_row all (lines_of r.kind) i 0 r.start 0 (body_of s r) starts in
    by_test (is_known r.kind)
    (λ t. rw t (λ e k. sym same ∙ e, λ h. same ∙ h refl))
    (λ t. rw t (λ e k. cc, λ h. resolved_none n))

pub linked_each : (s : List ℕ) (all : List Row) (i n : ℕ) (rs : List Row) → ((resolved n (links_from s all i rs)).number ≡ 0) ↔ Each (LinkedRow s all) rs
unfolding links_from
linked_each s all i n [] = (λ e. tt, λ e. resolved_none n)
linked_each s all i n (r ∷ rs) =
    let both = resolved_append n (row_links s all i r) (links_from s all (suc i) rs) in
    let row = row_linked_lem s all i n r in
    let ih = linked_each s all (suc i) n rs in
    (λ e. let b = both.0 e in (row.0 b.0, ih.0 b.1), λ e. both.1 (row.1 e.0, ih.1 e.1))
