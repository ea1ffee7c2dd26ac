-- The links of rows, in the same loop as their rules: by what a judgement notes, and the first that fails kept.
use Rattle.std.specs.Prelude.{Result, Ok, Err, IfOk}
use Prim.Native.Nat.{ℕ, zero, suc, ◌+◌, ◌≤◌, ◌<◌}
use native.Mathlib.Omega.{arith}
use mathlib.Core.Path.{◌≡◌, refl, sym, ap, ◌∙◌}
use mathlib.Core.Bool.{true}
use mathlib.Core.List.{List, [], ◌∷◌, map}
use lib.ListN.{length, take, length-map}
use lib.Dec.{ltb}
use lib.Seq.{sets, length-sets}
use borrow.Author.Tests.{ltb-false}
use Rattle.base.specs.Refusals.{Refusal}
use Rattle.base.specs.declared.Refusal.{Refusal as CodeRefusal}
use Rattle.base.specs.Refusals.{refused_or, refusal_in}
use Rattle.base.proofs.Refusals.{goes_on, is_refused}
use Rattle.base.proofs.Tests.{by_test}
use Rattle.kinds.specs.Kinds.{is_known}
use Rattle.table.specs.declared.Row.{Row}
use Rattle.table.specs.Table.{row_at, rows_at}
use Rattle.table.proofs.Rests.{rest, rest_all, rest_more, rest_none}
use Rattle.body.specs.Body.{properties, skimmed}
use Rattle.body.proofs.Skimmed.{length_skim, skim_all, skimmed_passed}
use Rattle.rules.specs.Table.{Line}
use Rattle.rules.specs.Rules.{lines_of}
use Rattle.rules.proofs.Helds.{by_link}
use Rattle.faces.specs.declared.Face.{Face}
use Rattle.judge.specs.Judge.{Judged}
use Rattle.judge.specs.Properties.{rule_at, line_number}
use Rattle.judge.specs.Typed.{typed, rightly_typed}
use Rattle.judge.specs.Valued.{link_count, node_faces, node_links}
use Rattle.judge.specs.Judge.{verdict_at, judged_by, judged_at}
use Rattle.judge.proofs.Typing.{all_right_lem, first_of}
use Rattle.judge.proofs.Counted.{judged_links}
use Rattle.format.specs.Rows.{body_of}
use Rattle.links.specs.Links.{Linked}
use Rattle.links.specs.Links.{accepted_links, linked, linked_told}
use Rattle.links.specs.Private.{Count, node_linked, row_linked, rows_linked}
use Rattle.reader.specs.Reading.{Ruled}
use Rattle.reader.specs.Reading.{judged_with, ruled, own_unknown}
use Rattle.reader.specs.declared.Judgement.{Judgement}
use Rattle.reader.specs.Private.{Noted, continued, JudgedAll, RulesTo, AllTo}
use Rattle.reader.proofs.Judging.{judged_known, links_counted, no_links}

-- ---- what a judgement notes

-- where all properties were passed, they are at most 64, and as many places are found
nine : suc 8 ≡ 0 → ⊥
nine q = omega (arith, q)

passed_few : (s : List ℕ) (k : ℕ) → (properties s k).number ≡ 0 → k ≤ 64
unfolding properties
passed_few s k e = by_test (ltb 64 k) (λ t. absurd (nine (rw t at e))) (λ t. ltb-false 64 k t)

pub passed_count : (s : List ℕ) (k : ℕ) → (properties s k).number ≡ 0 → (k ≤ 64) × (k ≡ length (properties s k).starts)
passed_count s k e =
    let few = passed_few s k e in
    (few, sym (ap length (skimmed_passed s k e ∙ sym (skim_all s k k few refl)) ∙ length_skim s k 0))

typed_by : (v w : Refusal) (fs : List Face) (n : ℕ) → (judged_by (refused_or v.number v w) fs n).number ≡ 0 → v.number ≡ 0
typed_by v w fs n e = by v.number refl e
  where
    by : (k : ℕ) → v.number ≡ k → (judged_by (refused_or k v w) fs n).number ≡ 0 → k ≡ 0
    by zero q e = refl
    by (suc k) q e = absurd (omega (arith, rw q at e))

typed_passed : (kind : ℕ) (ls : List Line) (s starts : List ℕ) (bones : ℕ) → (judged_at kind ls s starts bones).number ≡ 0 → (typed ls s [] starts).number ≡ 0
unfolding judged_at verdict_at
typed_passed kind ls s starts bones e = typed_by (typed ls s [] starts) _ (node_faces ls s starts) (node_links ls s starts) e

-- of a row whose properties were passed, where its judgement refuses nothing
module _ (s : List ℕ) (r : Row) {ls : List Line} {body : List ℕ} (l : ls ≡ lines_of r.kind) (b : body ≡ body_of s r)
    (p : (properties (body_of s r) r.properties).number ≡ 0) where
  abbrev all : List ℕ
  all = (properties (body_of s r) r.properties).starts

  pub noted_row : (bones : ℕ) → (judged_at r.kind (lines_of r.kind) (body_of s r) (skimmed (body_of s r) r.properties) bones).number ≡ 0 →
      (starts₀ numbers₀ : List ℕ) → {starts₁ numbers₁ : List ℕ} →
      starts₁ ≡ sets starts₀ 0 (rightly_typed ls body [] (skimmed body r.properties)) →
      numbers₁ ≡ sets numbers₀ 0 (map (line_number ls body) (rightly_typed ls body [] (skimmed body r.properties))) →
      length starts₀ ≡ 64 → length numbers₀ ≡ 64 → Noted s r starts₁ numbers₁
  noted_row bones z starts₀ numbers₀ e f g h =
      let k = r.properties in
      let counted = passed_count (body_of s r) k p in
      let places : skimmed (body_of s r) k ≡ all = sym (skimmed_passed (body_of s r) k p) in
      let right : rightly_typed ls body [] (skimmed body k) ≡ all
      = ap (λ ls. rightly_typed ls body [] (skimmed body k)) l ∙ ap (λ t. rightly_typed (lines_of r.kind) t [] (skimmed t k)) b
      ∙ all_right_lem (lines_of r.kind) (body_of s r) [] (skimmed (body_of s r) k) (typed_passed r.kind (lines_of r.kind) (body_of s r) (skimmed (body_of s r) k) bones z)
      ∙ places in
      let starts = ap (take k) (e ∙ ap (sets starts₀ 0) right) ∙ first_of starts₀ all k counted.1 (omega (arith, g, counted.0)) in
      let line : map (line_number ls body) all ≡ map (line_number (lines_of r.kind) (body_of s r)) all
      = ap (λ ls. map (line_number ls body) all) l ∙ ap (λ t. map (line_number (lines_of r.kind) t) all) b in
      let numbers = ap (take k) (f ∙ ap (λ t. sets numbers₀ 0 (map (line_number ls body) t)) right)
      ∙ first_of numbers₀ (map (line_number ls body) all) k (counted.1 ∙ sym (length-map all (line_number ls body))) (omega (arith, h, counted.0)) ∙ line in
      record {
        places = starts;
        lines = numbers ∙ ap (map (line_number (lines_of r.kind) (body_of s r))) (sym starts);
        many = counted.1 ∙ ap length (sym starts);
      }

  -- the buffers keep their lengths
  pub sizes_kept : (starts₀ numbers₀ : List ℕ) → {starts₁ numbers₁ : List ℕ} →
      starts₁ ≡ sets starts₀ 0 (rightly_typed ls body [] (skimmed body r.properties)) →
      numbers₁ ≡ sets numbers₀ 0 (map (line_number ls body) (rightly_typed ls body [] (skimmed body r.properties))) →
      length starts₀ ≡ 64 → length numbers₀ ≡ 64 → (length starts₁ ≡ 64) × (length numbers₁ ≡ 64)
  sizes_kept starts₀ numbers₀ e f g h =
      let right = rightly_typed ls body [] (skimmed body r.properties) in
      (ap length e ∙ length-sets starts₀ 0 right ∙ g, ap length f ∙ length-sets numbers₀ 0 (map (line_number ls body) right) ∙ h)

-- ---- the links of one row
module _ (count : Count) where
  pub row_noted : (s : List ℕ) (n : ℕ) (r : Row) → is_known r.kind ≡ true → {ls : List Line} → ls ≡ lines_of r.kind → {body starts : List ℕ} →
      body ≡ body_of s r → starts ≡ (properties (body_of s r) r.properties).starts → node_linked count ls r.start body n starts ≡ row_linked count s n r
  unfolding row_linked
  row_noted s n r k e f g = rw (k, e, f, g)

  unlinked : (ls : List Line) (start : ℕ) (s : List ℕ) (n : ℕ) (starts : List ℕ) → node_links ls s starts ≡ 0 → node_linked count ls start s n starts ≡ accepted_links n
  unfolding node_links node_linked
  unlinked ls start s n [] e = refl
  unlinked ls start s n (at ∷ more) e =
      let held = (rule_at ls s at).held in
      by_link (λ (w : Linked). w ≡ accepted_links n) held _ _
      (λ to q. absurd (let one : link_count held ≡ 1 = rw q in omega (arith, e, one)))
      (λ other. unlinked ls start s n more (omega (arith, e)))

  -- a row whose judgement counts none
  pub row_unlinked : (s : List ℕ) (n : ℕ) (r : Row) (bones : ℕ) → (judged_with s r bones).number ≡ 0 → (judged_with s r bones).links ≡ 0 →
      row_linked count s n r ≡ accepted_links n
  unfolding row_linked
  row_unlinked s n r bones z e =
      by_test (is_known r.kind)
      (λ t.
      let j = judged_known s r bones t in
      let none = sym (judged_links r.kind r.properties (body_of s r) bones (ap (λ x. x.number) (sym j) ∙ z)) ∙ ap (λ x. x.links) (sym j) ∙ e in
      rw t (unlinked (lines_of r.kind) r.start (body_of s r) n (properties (body_of s r) r.properties).starts none))
      (λ t. rw t)

  -- ---- on to the next row
  module _ (s : List ℕ) (r : Row) (rs : List Row) where
    pub on_refused : (l : Linked) → (l.number ≡ 0 → ⊥) → continued count s l rs ≡ continued count s l (r ∷ rs)
    on_refused l h = is_refused l.number _ _ h ∙ sym (is_refused l.number _ _ h)

    pub on_linked : (l w : Linked) → l.number ≡ 0 → w ≡ row_linked count s l.links r → continued count s w rs ≡ continued count s l (r ∷ rs)
    unfolding rows_linked
    on_linked l w z e = rw (z, e)

    pub on_unlinked : (l : Linked) → l.number ≡ 0 → row_linked count s l.links r ≡ accepted_links l.links → continued count s l rs ≡ continued count s l (r ∷ rs)
    unfolding rows_linked
    on_unlinked l z e = rw (z, e)

  -- ---- in the loop
  module _ (s t : List ℕ) (n : ℕ) where
    pub links_begun : rows_linked count s 0 (rest t n 0) ≡ rows_linked count s 0 (rows_at t 0 n)
    links_begun = ap (rows_linked count s 0) (rest_all t n)

    pub links_ended : (i : ℕ) (l : Linked) → n ≤ i → continued count s l (rest t n i) ≡ continued count s l []
    links_ended i l h = ap (continued count s l) (rest_none t n i h)

    module _ (i : ℕ) (h : i < n) {r : Row} (e : r ≡ row_at t i) (l : Linked) where
      more : rest t n i ≡ r ∷ rest t n (i + 1)
      more = rest_more t n i h ∙ ap (λ x. x ∷ rest t n (i + 1)) (sym e)

      pub links_linked : {w : Linked} → l.number ≡ 0 → w ≡ row_linked count s l.links r →
          continued count s w (rest t n (i + 1)) ≡ continued count s l (rest t n i)
      links_linked {w} z f = on_linked s r (rest t n (i + 1)) l w z f ∙ ap (continued count s l) (sym more)

      pub links_kept : (b : ℕ) {w : Linked} {j : Judged} → j ≡ judged_with s r b → j.number ≡ 0 → (l.number ≡ 0 → j.links ≡ 0) → w ≡ l →
          continued count s w (rest t n (i + 1)) ≡ continued count s l (rest t n i)
      links_kept b {w} {j} f z none q =
          ap (λ x. continued count s x (rest t n (i + 1))) q
          ∙ by l.number refl
          ∙ ap (continued count s l) (sym more)
        where
          by : (k : ℕ) → l.number ≡ k → continued count s l (rest t n (i + 1)) ≡ continued count s l (r ∷ rest t n (i + 1))
          by zero y =
              on_unlinked s r (rest t n (i + 1)) l y
              (row_unlinked s l.links r b (ap (λ x. x.number) (sym f) ∙ z) (ap (λ x. x.links) (sym f) ∙ none y))
          by (suc k) y = on_refused s r (rest t n (i + 1)) l (λ y₀. omega (arith, y, y₀))

-- ---- all rows
module _ (s : List ℕ) (rows : List Row) {rules : Ruled} {unknown : ℕ} (are : rules ≡ ruled s rows rows) (place : rules.place ≤ length s)
    (own : rules.number ≡ 0 → unknown ≡ own_unknown rows) where
  all_judged : (count : Count) {links : Linked} → (rules.number ≡ 0 → continued count s links [] ≡ rows_linked count s 0 rows) →
      rows_linked count s 0 rows ≡ linked s rows → JudgedAll s rows rules links unknown
  unfolding rows_linked
  all_judged count e f = record { rules_are = are; place = place; links_are = λ z. e z ∙ f; unknown_is = own }

  -- without links
  pub none_judged : rules.links ≡ 0 → JudgedAll s rows rules (accepted_links 0) unknown
  none_judged none = record {
    rules_are = are;
    place = place;
    links_are = λ z. no_links s rows (sym none ∙ ap (λ u. u.links) are ∙ links_counted s rows 0 rows (ap (λ u. u.number) (sym are) ∙ z));
    unknown_is = own;
  }

-- as the code tells it, by links that were resolved by some counts
pub all_to : (s : List ℕ) (rows : List Row) (count : Count) (r : Result Judgement CodeRefusal) → RulesTo r (ruled s rows rows) → (refusal_in r).place ≤ length s
    → IfOk r (λ j. continued count s (linked_told j.linked) [] ≡ rows_linked count s 0 rows) → IfOk r (λ j. j.unknown ≡ own_unknown rows)
    → rows_linked count s 0 rows ≡ linked s rows → AllTo s rows r
all_to s rows count (Ok j) are place links own e = all_judged s rows are (omega arith) (λ z. own) count (λ z. links) e
all_to s rows count (Err r) are place links own e = (are.0, are.1, place)

-- the links of rows that pass: a refusal, or their number
module _ {s : List ℕ} {rows : List Row} {rules : Ruled} {links : Linked} {unknown : ℕ} (j : JudgedAll s rows rules links unknown)
    (z : rules.number ≡ 0) where
  pub links_refused : (links.number ≡ 0 → ⊥) → links ≡ linked s rows
  links_refused h = sym (is_refused links.number links _ h) ∙ j.links_are z

  pub links_accepted : links.number ≡ 0 → accepted_links links.links ≡ linked s rows
  links_accepted h = sym (goes_on links.number links _ h) ∙ j.links_are z
