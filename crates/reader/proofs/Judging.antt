-- A row judged, by its kind being known or not; and its links, of which the rules count one for each.
use Prim.Native.Nat.{ℕ, zero, suc, ◌+◌}
use native.Mathlib.Omega.{arith}
use mathlib.Core.Path.{◌≡◌, refl, ap, sym, ◌∙◌}
use mathlib.Core.Bool.{true, false}
use mathlib.Core.List.{List, [], ◌∷◌}
use lib.ListN.{length, length-append}
use Rattle.base.specs.Refusals.{refused_or}
use Rattle.base.proofs.Tests.{by_test}
use Rattle.kinds.specs.Kinds.{is_known}
use Rattle.table.specs.declared.Row.{Row}
use Rattle.body.specs.Body.{properties}
use Rattle.rules.specs.Table.{Line}
use Rattle.rules.specs.Rules.{lines_of}
use Rattle.judge.specs.Judge.{Judged}
use Rattle.judge.specs.Properties.{rule_at}
use Rattle.judge.specs.Valued.{link_count, node_links}
use Rattle.judge.specs.Judge.{judged}
use Rattle.judge.proofs.Counted.{judged_links}
use Rattle.format.specs.Rows.{body_of}
use Rattle.links.specs.Links.{Link, links_at, row_links, links_from, links_of, accepted_links, resolved, linked}
use Rattle.rules.proofs.Helds.{by_link, link_none}
use Rattle.reader.specs.Reading.{Ruled}
use Rattle.reader.specs.Reading.{bones_under, unjudged, judged_with, judged_row, counted, uncounted, ruled}

module _ (s : List ℕ) (r : Row) (bones : ℕ) where
  pub judged_known : is_known r.kind ≡ true → judged_with s r bones ≡ judged r.kind r.properties (body_of s r) bones
  unfolding judged_with
  judged_known k = rw k

  pub judged_unknown : is_known r.kind ≡ false → judged_with s r bones ≡ unjudged
  unfolding judged_with
  judged_unknown k = rw k

-- ---- links
node_count : (all : List Row) (ls : List Line) (row start : ℕ) (s starts : List ℕ) → length (links_at all ls row start s starts) ≡ node_links ls s starts
unfolding links_at node_links
node_count all ls row start s [] = refl
node_count all ls row start s (at ∷ more) =
    let ih = node_count all ls row start s more in
    let held = (rule_at ls s at).held in
    by_link (λ (links : List Link). length links ≡ link_count held + node_links ls s more) held _ _
    (λ to e. let one : suc (length (links_at all ls row start s more)) ≡ link_count held + node_links ls s more = rw (e, ih) (omega arith) in one)
    (λ other. let none : link_count held ≡ 0 = link_none held _ _ other in ih ∙ omega (arith, none))

row_count_lem : (s : List ℕ) (all : List Row) (i : ℕ) (r : Row) → (judged_row s all r).number ≡ 0 → (judged_row s all r).links ≡ length (row_links s all i r)
row_count_lem s all i r e =
    let b = bones_under all r.parent in
    by_test (is_known r.kind)
    (λ t.
    let j = judged_known s r b t in
    ap (λ x. x.links) j
    ∙ judged_links r.kind r.properties (body_of s r) b (ap (λ x. x.number) (sym j) ∙ e)
    ∙ rw t (sym (node_count all (lines_of r.kind) i r.start (body_of s r) (properties (body_of s r) r.properties).starts)))
    (λ t. ap (λ x. x.links) (judged_unknown s r b t) ∙ rw t)

-- a row that is not refused adds what it counts
pub ruled_on : (n place : ℕ) (j : Judged) (next : Ruled) → (refused_or n (uncounted n place) (counted j next)).number ≡ 0
    → (n ≡ 0) × (next.number ≡ 0) × (refused_or n (uncounted n place) (counted j next) ≡ counted j next)
ruled_on zero place j next e = (refl, e, refl)
ruled_on (suc n) place j next e = absurd (omega (arith, e))

-- where no row is refused, the rules count the links
pub links_counted : (s : List ℕ) (all : List Row) (i : ℕ) (rs : List Row) → (ruled s all rs).number ≡ 0 → (ruled s all rs).links ≡ length (links_from s all i rs)
unfolding ruled links_from
links_counted s all i [] e = refl
links_counted s all i (r ∷ rs) e =
    let here = ruled_on (judged_row s all r).number _ (judged_row s all r) (ruled s all rs) e in
    ap (λ u. u.links) here.2 ∙ rw (row_count_lem s all i r here.0, links_counted s all (suc i) rs here.1) (sym (length-append (row_links s all i r) (links_from s all (suc i) rs)))

none : (ls : List Link) → 0 ≡ length ls → accepted_links 0 ≡ resolved 0 ls
unfolding resolved
none [] e = refl
none (l ∷ ls) e = absurd (omega (arith, e))

-- and where there are none, that is the answer
pub no_links : (s : List ℕ) (rows : List Row) → 0 ≡ length (links_of s rows) → accepted_links 0 ≡ linked s rows
unfolding linked
no_links s rows e = none (links_of s rows) e
