-- The links that the reading resolves are those of the nodes: the same properties, and each reaches its one node.
use Prim.Native.Nat.{ℕ, zero, suc, ◌+◌}
use native.Mathlib.Omega.{arith}
use mathlib.Core.Path.{◌≡◌, refl, ap, sym, ◌∙◌, subst}
use mathlib.Core.Logic.{⊎_elim}
use mathlib.Core.Bool.{true, ◌&&◌, and-eq-true_iff, false≢true}
use mathlib.Core.List.{List, [], ◌∷◌, ◌++◌, map, map-append}
use lib.Dec.{eqb}
use lib.ListN.{length, get_or}
use borrow.Author.Tests.{eq-eqb, eqb-true}
use Rattle.le.specs.Le.{val, number_at}
use Rattle.base.proofs.Tests.{by_test}
use Rattle.table.specs.declared.Row.{Row}
use Rattle.rules.specs.Table.{link_to}
use Rattle.rules.proofs.Laws.{rule_of}
use Rattle.rules.specs.Rules.{lines_of}
use Rattle.rules.proofs.Helds.{is_link as isLinkTo}
use Rattle.judge.specs.Properties.{rest_at}
use Rattle.format.specs.Rows.{hash_of}
use Rattle.base.specs.Lists.{Each, Picks, none, taken, left}
use Rattle.format.specs.Layout.{Property}
use Rattle.base.proofs.Lists.{each_append}
use Rattle.links.specs.Links.{Link, reached, links_at, row_links, links_from, links_of}
use Rattle.rules.proofs.Helds.{by_link, one_kind}
use Rattle.valid.specs.Nodes.{Node, NodeProperty, properties_from, LinkLine, IsLink, IsNode, IsOnly, NodeLink, ReachesOne, LinksAre}
use Rattle.valid.proofs.Described.{Described, described}
use Rattle.valid.proofs.Described as Found
use Rattle.valid.proofs.Ruled.{FitsRules}
use Rattle.valid.proofs.Agree.{fits_rules}
use Rattle.valid.proofs.Lines.{link_line}
use Rattle.valid.proofs.Values.{takes_only, hash_read}
use Rattle.valid.proofs.Listed.{to_line, some_line}
use Rattle.valid.proofs.Picks.{picks_append}
use Rattle.reader.specs.Acceptance.{rows_of_link, nodes_of_link}
use Rattle.reader.proofs.InStep as Step
use Rattle.reader.proofs.InStep.{SameAs, InStep}

-- ---- the rows that are reached are the nodes of the kind and hash
no_cons : (x : ℕ) (l : List ℕ) → x ∷ l ≡ [] → ⊥
no_cons x l e = let z : suc (length l) ≡ 0 = ap length e in omega (arith, z)

-- row m is the first row and `place` more, and that place is the one node's
pub record OnlyAt (kind hash i m : ℕ) (ns : List Node) : Type 0 where
  pub place : ℕ
  pub there : m ≡ i + place
  pub only : IsOnly ns kind hash place

module _ (kind hash : ℕ) where
  none_reached : {s : List ℕ} (i : ℕ) {rs : List Row} {ns : List Node} → InStep s rs ns → reached kind hash i rs ≡ [] → (j : ℕ) → IsNode ns kind hash j → ⊥
  unfolding reached
  none_reached i Step.none e j h = omega (arith, h.0)
  none_reached i (Step.one {r} {n} a more) e zero h =
      let t : eqb r.kind kind ≡ true = eq-eqb r.kind kind (sym a.kind ∙ h.1) in
      let u : eqb (hash_of r) hash ≡ true = eq-eqb (hash_of r) hash (sym a.hash ∙ h.2) in
      no_cons i _ (rw (t, u) at e)
  none_reached i (Step.one {r} {n} a more) e (suc j) h =
      by_test (eqb r.kind kind && eqb (hash_of r) hash)
      (λ t. no_cons i _ (rw t at e))
      (λ t. none_reached (suc i) more (rw t at e) j (omega (arith, h.0), h.1, h.2))

  only_reached : {s : List ℕ} (i m : ℕ) {rs : List Row} {ns : List Node} → InStep s rs ns → reached kind hash i rs ≡ m ∷ [] → OnlyAt kind hash i m ns
  unfolding reached
  only_reached i m Step.none e = absurd (no_cons m [] (sym e))
  only_reached i m (Step.one {r} {n} {rs} {ns} a more) e =
      by_test (eqb r.kind kind && eqb (hash_of r) hash)
      (λ t.
      let both = (and-eq-true_iff (eqb r.kind kind) (eqb (hash_of r) hash)).0 t in
      let f : i ∷ reached kind hash (suc i) rs ≡ m ∷ [] = rw t at e in
      let first : i ≡ m = cc in
      let others : reached kind hash (suc i) rs ≡ [] = cc in
      record {
        place = 0;
        there = omega (arith, first);
        only = (
          (omega arith, a.kind ∙ eqb-true r.kind kind both.0, a.hash ∙ eqb-true (hash_of r) hash both.1),
          first_only n ns (none_reached (suc i) more others),
        );
      })
      (λ t.
      let ih = only_reached (suc i) m more (rw t at e) in
      record {
        place = suc ih.place;
        there = omega (arith, ih.there);
        only = (
          (omega (arith, ih.only.0.0), ih.only.0.1, ih.only.0.2),
          later_only n ns ih.place (λ h. false≢true (sym t ∙ hit a h)) ih.only.1,
        );
      })
    where
      first_only : (n : Node) (ns : List Node) → ((j : ℕ) → IsNode ns kind hash j → ⊥) → (j : ℕ) → IsNode (n ∷ ns) kind hash j → j ≡ 0
      first_only n ns not zero h = refl
      first_only n ns not (suc j) h = absurd (not j (omega (arith, h.0), h.1, h.2))

      later_only : (n : Node) (ns : List Node) (m : ℕ) → ((n.kind ≡ kind) × (n.hash ≡ hash) → ⊥) → ((j : ℕ) → IsNode ns kind hash j → j ≡ m)
          → (j : ℕ) → IsNode (n ∷ ns) kind hash j → j ≡ suc m
      later_only n ns m not only zero h = absurd (not (h.1, h.2))
      later_only n ns m not only (suc j) h = ap suc (only j (omega (arith, h.0), h.1, h.2))

      hit : {s : List ℕ} {r : Row} {n : Node} → SameAs s r n → (n.kind ≡ kind) × (n.hash ≡ hash) → (eqb r.kind kind && eqb (hash_of r) hash) ≡ true
      hit {r = r} a h = rw (eq-eqb r.kind kind (sym a.kind ∙ h.0), eq-eqb (hash_of r) hash (sym a.hash ∙ h.1))

-- ---- links, as rows and as nodes
abbrev pub One : Link → Type 0
One l = length l.targets ≡ 1

-- of some properties, the links among them
pub record Same (nodes : List Node) (xs : List NodeProperty) (ls : List Link) : Type 0 where
  pub links : List NodeLink
  pub sources : Picks IsLink xs (map (λ x. x.source) links)
  pub targets : Each (ReachesOne nodes) links
  pub tied : map rows_of_link ls ≡ map nodes_of_link links

module _ (nodes : List Node) where
  same_none : Same nodes [] []
  same_none = record { links = []; sources = none; targets = tt; tied = refl }

  same_append : {xs ys : List NodeProperty} {ls ms : List Link} → Same nodes xs ls → Same nodes ys ms → Same nodes (xs ++ ys) (ls ++ ms)
  same_append {xs} {ys} {ls} {ms} a b = record {
    links = a.links ++ b.links;
    sources = rw (map-append (λ x. x.source) a.links b.links) (picks_append a.sources b.sources);
    targets = (each_append (ReachesOne nodes) a.links b.links).1 (a.targets, b.targets);
    tied = map-append rows_of_link ls ms ∙ rw (a.tied, b.tied) (sym (map-append nodes_of_link a.links b.links));
  }

alone : (l : List ℕ) → length l ≡ 1 → l ≡ get_or l 0 0 ∷ []
alone [] e = absurd (omega (arith, e))
alone (x ∷ []) e = refl
alone (x ∷ y ∷ l) e = absurd (omega (arith, e))

module _ {s : List ℕ} {all : List Row} {nodes : List Node} (whole : InStep s all nodes) where
  -- the properties of one node
  module _ (kind row start : ℕ) (body : List ℕ) where
    abbrev with : Property → NodeProperty
    with p = record { node = row; kind = kind; property = p }

    node_links_lem : {starts : List ℕ} {ps : List Property} → Described body starts ps → FitsRules kind ps
        → Each One (links_at all (lines_of kind) row start body starts) → Same nodes (map with ps) (links_at all (lines_of kind) row start body starts)
    unfolding links_at
    node_links_lem Found.none fits = λ h. same_none nodes
    node_links_lem (Found.one {at} {p} {starts} {ps} a more) fits =
        let held = (rule_of kind p.name).held in
        let is_link = some_line kind p.name LinkLine (λ l. false≢true (ap isLinkTo l.held)) in
        let split : List Link → Type 0 = λ ls. Each One ls → Same nodes (map with (p ∷ ps)) ls in
        rw a.name (by_link split held _ _
        (λ to link each.
        let line = link_line kind p.name to link in
        let hash = hash_read a (takes_only fits.0.0 line.0) (fits.0.1 line.1) in
        let targets = reached to (number_at 8 (rest_at body at) 0) 0 all in
        let rest = links_at all (lines_of kind) row start body starts in
        let ih = node_links_lem more fits.1 each.1 in
        let lone = alone targets each.0 in
        let here = only_reached to (number_at 8 (rest_at body at) 0) 0 (get_or targets 0 0) whole lone in
        let only : IsOnly nodes to (val p.content) here.place = subst (λ h. IsOnly nodes to h here.place) hash here.only in
        let target : targets ≡ here.place ∷ [] = lone ∙ ap (λ m. m ∷ []) (here.there ∙ omega arith) in
        record {
          links = record { source = with p; target = here.place } ∷ ih.links;
          sources = taken (is_link.0 (record { to = to; held = link })) ih.sources;
          targets = (
            to_line kind p.name (λ l. (k : ℕ) → l.held ≡ link_to k → IsOnly nodes k (val p.content) here.place)
                (λ k e. subst (λ k. IsOnly nodes k (val p.content) here.place) (one_kind (sym link ∙ e)) only),
            ih.targets,
          );
          tied = ap (λ ts. (row, ts) ∷ map rows_of_link rest) target ∙ ap (λ r. (row, here.place ∷ []) ∷ r) ih.tied;
        })
        (λ other each.
        let ih = node_links_lem more fits.1 each in
        record {
          links = ih.links;
          sources = left (λ i. let l = is_link.1 i in other l.to l.held) ih.sources;
          targets = ih.targets;
          tied = ih.tied;
        }))

  -- a row's
  row_links_lem : (i : ℕ) {r : Row} {n : Node} → SameAs s r n → Each One (row_links s all i r)
      → Same nodes (map (λ p. record { node = i; kind = n.kind; property = p }) n.properties) (row_links s all i r)
  row_links_lem i {r} {n} a h =
      ⊎_elim
      (λ k.
      let ps = k.good.properties in
      let each = rw (k.is_one, k.here) at h in
      let d = described r.properties k.body k.good in
      let fits = (fits_rules r.kind ps).1 k.obeys.fits in
      rw (a.kind, k.are, k.is_one, k.here) (node_links_lem r.kind i r.start k.body d fits each))
      (λ u. rw (u.0, u.1) (same_none nodes))
      a.reads

  links_from_lem : (i : ℕ) {rs : List Row} {ns : List Node} → InStep s rs ns → Each One (links_from s all i rs)
      → Same nodes (properties_from i ns) (links_from s all i rs)
  unfolding links_from
  links_from_lem i Step.none h = same_none nodes
  links_from_lem i (Step.one {r} {n} {rs} {ns} a more) h =
      let both = (each_append One (row_links s all i r) (links_from s all (suc i) rs)).0 h in
      same_append nodes (row_links_lem i a both.0) (links_from_lem (suc i) more both.1)

  -- the links of a file
  pub record FileLinks : Type 0 where
    pub links : List NodeLink
    pub are : LinksAre nodes links
    pub tied : map rows_of_link (links_of s all) ≡ map nodes_of_link links

  pub links_step : Each One (links_of s all) → FileLinks
  links_step h = let same = links_from_lem 0 whole h in record { links = same.links; are = record { sources = same.sources; targets = same.targets }; tied = same.tied }
