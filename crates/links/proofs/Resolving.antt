-- By counts that tell how many rows a link reaches, the links of rows resolve as by the rows that they reach.
use Prim.Native.Nat.{ℕ, zero, suc, min}
use native.Mathlib.Omega.{arith}
use mathlib.Core.Path.{◌≡◌, refl, ap, sym, ◌∙◌}
use mathlib.Core.List.{List, [], ◌∷◌, ◌++◌}
use lib.ListN.{length}
use Rattle.base.specs.Refusals.{refused_or}
use Rattle.le.specs.Le.{number_at}
use Rattle.base.proofs.Tests.{by_test}
use Rattle.kinds.specs.Kinds.{is_known}
use Rattle.table.specs.declared.Row.{Row}
use Rattle.props.specs.Step.{name_at}
use Rattle.body.specs.Body.{properties}
use Rattle.rules.specs.Rules.{lines_of}
use Rattle.judge.specs.Properties.{rule_at, rest_at}
use Rattle.format.specs.Rows.{body_of}
use Rattle.links.specs.Links.{Linked}
use Rattle.links.specs.Links.{Link, reached, links_at, row_links, links_from, linked, refusal_of, refused_links, resolved}
use Rattle.links.specs.Private.{Count, node_linked, row_linked, rows_linked}
use Rattle.links.proofs.Targets.{CountsReached}
use Rattle.rules.proofs.Helds.{by_link, link_none}

-- two tell of more
refusal_capped : (n : ℕ) → refusal_of (min n 2) ≡ refusal_of n
refusal_capped zero = refl
refusal_capped (suc zero) = refl
refusal_capped (suc (suc n)) = let two : min (suc (suc n)) 2 ≡ 2 = omega arith in rw two

-- links, and then other links
resolved_append : (n : ℕ) (ks ls : List Link) → let w = resolved n ks in resolved n (ks ++ ls) ≡ refused_or w.number w (resolved w.links ls)
unfolding resolved
resolved_append n [] ls = refl
resolved_append n (k ∷ ks) ls = by (refusal_of (length k.targets)) (resolved (suc n) ks) (resolved_append (suc n) ks ls)
  where
    by : (r : ℕ) (w : Linked) {v : Linked} → v ≡ refused_or w.number w (resolved w.links ls)
        → (let u = refused_or r (refused_links r k.property) w in refused_or r (refused_links r k.property) v ≡ refused_or u.number u (resolved u.links ls))
    by zero w e = e
    by (suc r) w e = refl

module _ (count : Count) (all : List Row) (h : CountsReached count all) where
  node_resolved : (kind row start : ℕ) (s : List ℕ) (n : ℕ) (starts : List ℕ)
      → node_linked count (lines_of kind) start s n starts ≡ resolved n (links_at all (lines_of kind) row start s starts)
  unfolding node_linked resolved links_at
  node_resolved kind row start s n [] = refl
  node_resolved kind row start s n (at ∷ more) =
      let held = (rule_at (lines_of kind) s at).held in
      let hash : ℕ = number_at 8 (rest_at s at) 0 in
      by_link (λ w. w ≡ resolved n (links_at all (lines_of kind) row start s (at ∷ more))) held _ _
      (λ to e.
      rw (e, h.right kind (name_at s at) to hash e, refusal_capped (length (reached to hash 0 all)), node_resolved kind row start s (suc n) more))
      (λ other. node_resolved kind row start s n more ∙ ap (resolved n) (sym (link_none held _ _ other)))

  row_resolved : (s : List ℕ) (n row : ℕ) (r : Row) → row_linked count s n r ≡ resolved n (row_links s all row r)
  unfolding row_linked resolved
  row_resolved s n row r =
      let body : List ℕ = body_of s r in
      by_test (is_known r.kind)
      (λ t. rw t (node_resolved r.kind row r.start body n (properties body r.properties).starts))
      (λ t. rw t)

  rows_resolved : (s : List ℕ) (n i : ℕ) (rs : List Row) → rows_linked count s n rs ≡ resolved n (links_from s all i rs)
  unfolding rows_linked resolved links_from
  rows_resolved s n i [] = refl
  rows_resolved s n i (r ∷ rs) =
      let w : Linked = resolved n (row_links s all i r) in
      ap (λ (v : Linked). refused_or v.number v (rows_linked count s v.links rs)) (row_resolved s n i r)
      ∙ ap (refused_or w.number w) (rows_resolved s w.links (suc i) rs)
      ∙ sym (resolved_append n (row_links s all i r) (links_from s all (suc i) rs))

  pub linked_by_lem : (s : List ℕ) → rows_linked count s 0 all ≡ linked s all
  unfolding linked
  linked_by_lem s = rows_resolved s 0 0 all
