-- The nodes that are left: their faces are those that they had, and their links reach the same nodes.
use Prim.Native.Nat.{ℕ, zero, suc}
use native.Mathlib.Omega.{arith}
use mathlib.Core.Path.{◌≡◌, refl, ap, sym, ◌∙◌}
use mathlib.Core.Logic.Iff
use mathlib.Core.Bool.{Bool, true, false, false≢true}
use mathlib.Core.List.{List, [], ◌∷◌, ◌++◌, map, map-append, map-map, flat_map}
use lib.ListN.{drop}
use Rattle.le.specs.Le.{val}
use Rattle.kinds.specs.Kinds.{is_known}
use Rattle.rules.specs.Table.{lines}
use Rattle.base.specs.Lists.{Each}
use Rattle.format.specs.Layout.{Property, WellFormed}
use Rattle.base.proofs.Lists.{each_append, each_both, each_map}
use Rattle.valid.specs.Nodes.{Node, nodes_of, mesh_faces, all_faces, NodeProperty, properties_from, IsLink, IsNode, IsOnly, NodeLink, ReachesOne, LinksAre}
use Rattle.valid.proofs.Picks.{picks_map, picks_each, picks_holds, each_some}
use Rattle.reader.proofs.InStep.{bare_faces}
use Rattle.removal.specs.Left.{unmarked, new_number, Stays, unmarked_of, NodeLinkStays, moved_source, moved_node_link}
use Rattle.removal.proofs.Marked.{Marked, mend, mkn, mun, bare, kept, marks}
use Rattle.removal.proofs.StillValid.{well_kept}
use Rattle.removal.proofs.Targets.{ToKnown, targets_known}
use Rattle.removal.proofs.LeftLinks.{here, onward, number_gone, number_same}

-- of some nodes, those that are left: what goes is of an unknown kind, and its properties are not read
pub data LeftNodes : List Node → List Bool → List Node → Type 0 where
  none : LeftNodes [] [] []
  gone : {n : Node} {ns : List Node} {ms : List Bool} {ns' : List Node} → is_known n.kind ≡ false → n.properties ≡ [] → LeftNodes ns ms ns'
      → LeftNodes (n ∷ ns) (true ∷ ms) ns'
  same : {n : Node} {ns : List Node} {ms : List Bool} {ns' : List Node} → LeftNodes ns ms ns' → LeftNodes (n ∷ ns) (false ∷ ms) (n ∷ ns')

left_append : {ns us : List Node} {ms ts : List Bool} {ns' us' : List Node} → LeftNodes ns ms ns' → LeftNodes us ts us'
    → LeftNodes (ns ++ us) (ms ++ ts) (ns' ++ us')
left_append none b = b
left_append (gone u e a) b = gone u e (left_append a b)
left_append (same a) b = same (left_append a b)

pub nodes_kept : (m : Marked) (w : WellFormed (bare m)) → LeftNodes (nodes_of (bare m) w) (marks m) (nodes_of (kept m) (well_kept m w))
unfolding well_kept
nodes_kept mend w = none
nodes_kept (mkn k h p body kids next) w = same (left_append (nodes_kept kids w.4) (nodes_kept next w.5))
nodes_kept (mun true k h p c rest next) w = gone w.0 refl (nodes_kept next w.3)
nodes_kept (mun false k h p c rest next) w = same (nodes_kept next w.3)

pub nodes_are : {ns : List Node} {ms : List Bool} {ns' : List Node} → LeftNodes ns ms ns' → ns' ≡ unmarked_of ns ms
unfolding unmarked_of
nodes_are none = refl
nodes_are (gone u e l) = nodes_are l
nodes_are (same {n} l) = ap (λ ns. n ∷ ns) (nodes_are l)

no_faces : (n : Node) → n.properties ≡ [] → mesh_faces n ≡ []
no_faces n e = ap (λ ps. mesh_faces (record { kind = n.kind; hash = n.hash; properties = ps })) e ∙ bare_faces n.kind n.hash

pub all_faces_lem : {ns : List Node} {ms : List Bool} {ns' : List Node} → LeftNodes ns ms ns' → all_faces ns' ≡ all_faces ns
unfolding all_faces flat_map
all_faces_lem none = refl
all_faces_lem (gone {n} u e l) = rw (no_faces n e) (all_faces_lem l)
all_faces_lem (same {n} l) = ap (λ fs. mesh_faces n ++ fs) (all_faces_lem l)

-- ---- the properties of the nodes, with their nodes renumbered
module _ (ms : List Bool) where
  abbrev move_all : List NodeProperty → List NodeProperty
  move_all xs = map (moved_source ms) xs

  own : (i : ℕ) (kind : ℕ) (ps : List Property) → map (λ p. record { node = new_number ms i; kind = kind; property = p }) ps
      ≡ move_all (map (λ p. record { node = i; kind = kind; property = p }) ps)
  own i kind [] = refl
  own i kind (p ∷ ps) = ap (λ xs. record { node = new_number ms i; kind = kind; property = p } ∷ xs) (own i kind ps)

  properties_left : (i : ℕ) {ns : List Node} {rest : List Bool} {ns' : List Node} → drop i ms ≡ rest → LeftNodes ns rest ns'
      → properties_from (new_number ms i) ns' ≡ move_all (properties_from i ns)
  properties_left i e none = refl
  properties_left i e (gone {n} {ns} {ns' = ns'} u p l) =
      rw p (ap (λ j. properties_from j ns') (sym (number_gone ms i e)) ∙ properties_left (suc i) (onward ms i e) l)
  properties_left i e (same {n} {ns} {ns' = ns'} l) =
      let these : List NodeProperty = map (λ p. record { node = i; kind = n.kind; property = p }) n.properties in
      let more : properties_from (suc (new_number ms i)) ns' ≡ move_all (properties_from (suc i) ns) =
      ap (λ j. properties_from j ns') (sym (number_same ms i e)) ∙ properties_left (suc i) (onward ms i e) l in
      rw (own i n.kind n.properties, more) (sym (map-append (moved_source ms) these (properties_from (suc i) ns)))

  -- a node that has a property stays
  abbrev SourceStays : NodeProperty → Type 0
  SourceStays x = Stays ms x.node

  stay : (i : ℕ) (kind : ℕ) (ps : List Property) → Stays ms i → Each SourceStays (map (λ p. record { node = i; kind = kind; property = p }) ps)
  stay i kind [] h = tt
  stay i kind (p ∷ ps) h = (h, stay i kind ps h)

  sources_stay : (i : ℕ) {ns : List Node} {rest : List Bool} {ns' : List Node} → drop i ms ≡ rest → LeftNodes ns rest ns'
      → Each SourceStays (properties_from i ns)
  sources_stay i e none = tt
  sources_stay i e (gone {n} u p l) = rw p (sources_stay (suc i) (onward ms i e) l)
  sources_stay i e (same {n} {ns} l) =
      (each_append SourceStays (map (λ p. record { node = i; kind = n.kind; property = p }) n.properties) (properties_from (suc i) ns)).1
      (stay i n.kind n.properties (here ms i true e), sources_stay (suc i) (onward ms i e) l)

-- ---- a node of a known kind
module _ (kind hash : ℕ) (is_one : is_known kind ≡ true) where
  node_stays : {ns : List Node} {ms : List Bool} {ns' : List Node} → LeftNodes ns ms ns' → (m : ℕ) → IsNode ns kind hash m
      → IsNode ns' kind hash (new_number ms m) × Stays ms m
  unfolding unmarked
  node_stays none m h = absurd (omega (arith, h.0))
  node_stays (gone u e l) zero h = absurd (false≢true (sym u ∙ ap is_known h.1 ∙ is_one))
  node_stays (gone u e l) (suc m) h = node_stays l m (omega (arith, h.0), h.1, h.2)
  node_stays (same l) zero h = ((omega arith, h.1, h.2), refl)
  node_stays (same l) (suc m) h = let ih = node_stays l m (omega (arith, h.0), h.1, h.2) in ((omega (arith, ih.0.0), ih.0.1, ih.0.2), ih.1)

  pub record From (ns : List Node) (ms : List Bool) (j : ℕ) : Type 0 where
    pub old : ℕ
    pub was : IsNode ns kind hash old
    pub now : new_number ms old ≡ j

  node_was : {ns : List Node} {ms : List Bool} {ns' : List Node} → LeftNodes ns ms ns' → (j : ℕ) → IsNode ns' kind hash j → From ns ms j
  unfolding unmarked
  node_was none j h = absurd (omega (arith, h.0))
  node_was (gone u e l) j h =
      let ih = node_was l j h in
      record { old = suc ih.old; was = (omega (arith, ih.was.0), ih.was.1, ih.was.2); now = ih.now }
  node_was (same l) zero h = record { old = 0; was = (omega arith, h.1, h.2); now = refl }
  node_was (same l) (suc j) h =
      let ih = node_was l j (omega (arith, h.0), h.1, h.2) in
      record { old = suc ih.old; was = (omega (arith, ih.was.0), ih.was.1, ih.was.2); now = ap suc ih.now }

  only_stays : {ns : List Node} {ms : List Bool} {ns' : List Node} → LeftNodes ns ms ns' → (m : ℕ) → IsOnly ns kind hash m
      → IsOnly ns' kind hash (new_number ms m) × Stays ms m
  only_stays {ms = ms} l m h =
      let here = node_stays l m h.0 in
      ((here.0, λ j k. let from = node_was l j k in sym from.now ∙ ap (new_number ms) (h.1 from.old from.was)), here.1)

-- ---- links
each_of_map : {A B : Type 0} (Q : B → Type 0) (g : A → B) (xs : List A) → Each Q (map g xs) → Each (λ x. Q (g x)) xs
each_of_map Q g [] h = tt
each_of_map Q g (x ∷ xs) h = (h.0, each_of_map Q g xs h.1)

module _ {ns : List Node} {ms : List Bool} {ns' : List Node} (l : LeftNodes ns ms ns') where
  link_moves : (x : NodeLink) → ReachesOne ns x → ReachesOne ns' (moved_node_link ms x)
  link_moves x h =
      each_map (λ r b k n to e. (only_stays to (val x.source.property.content) (b.0 to e) l x.target (b.1 k n to e)).0) lines
      ((each_both ToKnown _ lines).0 (targets_known, h))

  target_stays : (x : NodeLink) → ReachesOne ns x → IsLink x.source → Stays ms x.target
  target_stays x h i =
      each_some _ _ lines
      (λ r b k.
      let link = k.2 in
      (only_stays link.to (val x.source.property.content) (b.0 link.to link.held) l x.target (b.1 k.0 k.1 link.to link.held)).1)
      ((each_both ToKnown _ lines).0 (targets_known, h)) i

  module _ (links : List NodeLink) (are : LinksAre ns links) where
    abbrev source : NodeLink → NodeProperty
    source x = x.source

    pub links_moved : LinksAre ns' (map (moved_node_link ms) links)
    unfolding unmarked
    links_moved = record {
      sources =
          rw (map-map source (moved_node_link ms) links, ← map-map (moved_source ms) source links, properties_left ms 0 refl l)
          (picks_map (moved_source ms) (λ x. Iff.rfl) are.sources);
      targets = all_moved links are.targets;
    }
      where
        all_moved : (xs : List NodeLink) → Each (ReachesOne ns) xs → Each (ReachesOne ns') (map (moved_node_link ms) xs)
        all_moved [] h = tt
        all_moved (x ∷ xs) h = (link_moves x h.0, all_moved xs h.1)

    pub links_stay_lem : Each (NodeLinkStays ms) links
    links_stay_lem =
        let rows = each_of_map (SourceStays ms) source links (picks_each (SourceStays ms) are.sources (sources_stay ms 0 refl l)) in
        let is = each_of_map IsLink source links (picks_holds are.sources) in
        each_map (λ x b. (b.0, target_stays x b.1.0 b.1.1)) links
        ((each_both (λ x. SourceStays ms x.source) _ links).0 (rows, (each_both (ReachesOne ns) (λ x. IsLink x.source) links).0 (are.targets, is)))
