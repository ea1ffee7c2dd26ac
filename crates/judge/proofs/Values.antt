-- What some properties say: a right one adds what it counts to what the others say, the first other one is what all say.
use Rattle.std.proofs.Common.{◌≡◌, ℕ, zero, suc, ◌+◌, ◌*◌, ◌<◌, ◌≤◌, true, false, List, [], ◌∷◌, ◌++◌, map, length, get_or, drop, sym, refl, ap, ◌∙◌, true≢false, add-zero, zero-add, add-one, arith, length-append, drop_of_length-le, drop-cons}
use lib.ListN.{length-map}
use Rattle.std.specs.Prelude.{Result, Ok, Err, is_ok}
use Rattle.base.specs.Refusals.{Refusal}
use Rattle.base.specs.Refusals.{refused_or}
use Rattle.faces.specs.declared.Face.{Face}
use Rattle.faces.specs.Faces.{degenerate}
use Rattle.rules.specs.declared.Held.TheVariants as H
use Rattle.rules.specs.declared.Line.{Line as CodeLine}
use Rattle.rules.specs.Table.{Held, Line, free}
use Rattle.rules.specs.Packing.{line_of}
use Rattle.rules.proofs.Laws.{found}
use Rattle.rules.proofs.Helds.{no_link}
use Rattle.props.specs.Step.{name_at}
use Rattle.judge.specs.Valued.{Fault}
use Rattle.judge.specs.Valued.{Right, Whole, Element}
use Rattle.judge.specs.Private.{Kept, kept_told}
use Rattle.faces.specs.declared.Counted.{Counted}
use Rattle.judge.specs.declared.valued.Fault.{Fault as CodeFault}
use Rattle.judge.specs.declared.valued.Fault.TheVariants.{Whole as CodeWhole, Element as CodeElement}
use Rattle.judge.specs.Judge.{Judged}
use Rattle.judge.specs.Properties.{rule_at, line_number, Beside}
use Rattle.judge.specs.Typed.{typed}
use Rattle.judge.specs.Valued.{fault_named, fault_told, faces_at, face_fault, fault_of, fault_number, valued, held_faces, node_faces, link_count, node_links}
use Rattle.judge.specs.Judge.{refused_node, accepted_node, judged_by}
use Rattle.judge.specs.ByLine.{required_among, lacks_by_line, beside_by_line, verdict_by_line, judged_by_line}
use Rattle.judge.specs.Private.{breaks, kept_by, kept_at, valued_to}
use Rattle.judge.proofs.Counted.{degenerate_append}
use Rattle.judge.proofs.Faults.{held_faces_lem, held_other}

-- ---- the lines of some properties, by their numbers
map_at : (f : ℕ → ℕ) (l : List ℕ) (i : ℕ) → i < length l → get_or (map f l) i 0 ≡ f (get_or l i 0)
map_at f [] i h = absurd (omega arith)
map_at f (x ∷ l) zero h = refl
map_at f (x ∷ l) (suc i) h = map_at f l i (omega arith)

module _ (ls : List Line) (s starts : List ℕ) {numbers : List ℕ} (e : numbers ≡ map (line_number ls s) starts) where
  pub as_many : length numbers ≡ length starts
  as_many = ap length e ∙ length-map starts (line_number ls s)

  pub line_found : (i : ℕ) → i < length starts → {l : Line} → l ≡ get_or ls (get_or numbers i 0) free → l ≡ rule_at ls s (get_or starts i 0)
  line_found i h m =
      m ∙ ap (λ ns. get_or ls (get_or ns i 0) free) e ∙ ap (λ k. get_or ls k free) (map_at (line_number ls s) starts i h)
      ∙ found ls (name_at s (get_or starts i 0))

-- ---- what is kept of a property
kept_fault : (q : Fault) (fs : List Face) → (kept_by q fs).fault ≡ q
kept_fault Right fs = refl
kept_fault Whole fs = refl
kept_fault (Element k) fs = refl

module _ (h : Held) (s : List ℕ) (at : ℕ) (b : Beside) {k : Kept} (e : k ≡ kept_at h s at b) {q : Fault} (r : k.fault ≡ q) where
  fault_kept : fault_of h s at b ≡ q
  unfolding kept_at
  fault_kept = sym (kept_fault (fault_of h s at b) (held_faces h s at)) ∙ sym (ap (λ k. k.fault) e) ∙ r

  all_kept : k ≡ kept_by q (held_faces h s at)
  unfolding kept_at
  all_kept = e ∙ ap (λ q. kept_by q (held_faces h s at)) fault_kept

-- ---- what some properties say on top of what was counted
abbrev counted : Refusal → (faces degenerate links : ℕ) → Judged
counted v f d n = refused_or v.number (refused_node v.number v.place) (accepted_node f d n)

unfoldable pub on_top : (faces degenerate links : ℕ) → List Line → (s : List ℕ) → Beside → (starts : List ℕ) → Judged
on_top f d n ls s b starts =
    let fs = node_faces ls s starts in
    counted (valued ls s b starts) (f + length fs) (d + degenerate fs) (n + node_links ls s starts)

module _ (ls : List Line) (s : List ℕ) (b : Beside) where
  pub on_none : (starts : List ℕ) → on_top 0 0 0 ls s b starts ≡ valued_to ls s b starts
  unfolding on_top valued_to
  on_none starts = let fs = node_faces ls s starts in rw (zero-add (length fs), zero-add (degenerate fs), zero-add (node_links ls s starts))

  module _ (f d n : ℕ) (starts : List ℕ) (i : ℕ) where
    module _ (h : i < length starts) {l : Line} (m : l ≡ rule_at ls s (get_or starts i 0)) where
      next : drop i starts ≡ get_or starts i 0 ∷ drop (i + 1) starts
      next = rw (add-one i) (drop-cons starts i 0 h)

      pub passed : {k : Kept} → k ≡ kept_at l.held s (get_or starts i 0) b → k.fault ≡ Right →
          on_top f d n ls s b (drop i starts) ≡ on_top (f + k.faces) (d + k.degenerate) (n + link_count l.held) ls s b (drop (i + 1) starts)
      unfolding on_top valued node_faces node_links
      passed e r =
          let at = get_or starts i 0 in
          let fs = held_faces l.held s at in
          let gs = node_faces ls s (drop (i + 1) starts) in
          let faces : f + length (fs ++ gs) ≡ f + length fs + length gs = omega (arith, length-append fs gs) in
          let degenerates : d + degenerate (fs ++ gs) ≡ d + degenerate fs + degenerate gs = omega (arith, degenerate_append fs gs) in
          let others = node_links ls s (drop (i + 1) starts) in
          let links : n + (link_count l.held + others) ≡ n + link_count l.held + others = omega arith in
          rw (next, ← m, fault_kept l.held s at b e r, all_kept l.held s at b e r, faces, degenerates, links)

      pub stopped : {k : Kept} → k ≡ kept_at l.held s (get_or starts i 0) b → {q : Fault} → k.fault ≡ q →
          fault_number q ≡ 15 →
          on_top f d n ls s b (drop i starts) ≡ refused_node 15 (24 + get_or starts i 0)
      unfolding on_top valued
      stopped e r w =
          let at = get_or starts i 0 in
          rw (next, ← m, fault_kept l.held s at b e r, w)

    pub ended : length starts ≤ i →
        on_top f d n ls s b (drop i starts) ≡ accepted_node f d n
    unfolding on_top valued node_faces node_links degenerate
    ended h = rw (drop_of_length-le starts {i = i} h, add-zero f, add-zero d, add-zero n)

-- what was counted of the properties before i, and what those from i on say on top of it
pub record Counting (ls : List Line) (s : List ℕ) (b : Beside) (starts : List ℕ) (all : Judged) (faces degenerate links i : ℕ) : Type 0 where
  pub faces_most : faces ≤ i * 4294967296
  pub degenerate_most : degenerate ≤ i * 4294967296
  pub links_most : links ≤ i
  pub says : on_top faces degenerate links ls s b (drop i starts) ≡ all

right : (q : Fault) → breaks q ≡ false → q ≡ Right
right Right e = refl
right Whole e = absurd (true≢false e)
right (Element k) e = absurd (true≢false e)

wrong : (q : Fault) → breaks q ≡ true → fault_number q ≡ 15
wrong Right e = absurd (true≢false (sym e))
wrong Whole e = refl
wrong (Element k) e = refl

faces_no_link : {kind : ℕ} → H.Faces ≡ H.Link kind → ⊥
faces_no_link e = cc

-- a result that is right breaks nothing, and any other does
named_wrong : (f : CodeFault) → breaks (fault_named f) ≡ true
named_wrong CodeWhole = refl
named_wrong (CodeElement k) = refl

pub told_right : {A : Type 0} (r : Result A CodeFault) → is_ok r ≡ true → breaks (fault_told r) ≡ false
told_right (Ok x) e = refl
told_right (Err f) e = absurd (true≢false (sym e))

pub told_wrong : {A : Type 0} (r : Result A CodeFault) → is_ok r ≡ false → breaks (fault_told r) ≡ true
told_wrong (Ok x) e = absurd (true≢false e)
told_wrong (Err f) e = named_wrong f

pub kept_wrong : (r : Result Counted CodeFault) → is_ok r ≡ false → breaks (kept_told r).fault ≡ true
kept_wrong (Ok x) e = absurd (true≢false e)
kept_wrong (Err f) e = named_wrong f

module _ {ls : List Line} {s : List ℕ} {b : Beside} {starts : List ℕ} {all : Judged} {f d n i : ℕ} (o : Counting ls s b starts all f d n i)
    (h : i < length starts) (c : CodeLine) (m : line_of c ≡ rule_at ls s (get_or starts i 0)) where
  abbrev at : ℕ
  at = get_or starts i 0

  -- a property that is held to be faces
  module _ (is : c.held ≡ H.Faces) {k : Kept} (q : k ≡ kept_by (face_fault s at b.vertices) (faces_at s at)) where
    pub faces_counted : breaks k.fault ≡ false → (k.faces < 4294967296) × (k.degenerate < 4294967296) →
        Counting ls s b starts all (f + k.faces) (d + k.degenerate) n (i + 1)
    faces_counted r few =
        let none : link_count (line_of c).held ≡ 0 = no_link c.held _ 0 (λ kind q. faces_no_link (sym is ∙ q)) in
        let same-links : n ≡ n + link_count (line_of c).held = omega (arith, none) in
        record {
          faces_most = omega (arith, o.faces_most, few.0);
          degenerate_most = omega (arith, o.degenerate_most, few.1);
          links_most = omega (arith, o.links_most);
          says = ap (λ t. on_top (f + k.faces) (d + k.degenerate) t ls s b (drop (i + 1) starts)) same-links
              ∙ sym (passed ls s b f d n starts i h m (held_faces_lem c.held s at b is q) (right k.fault r)) ∙ o.says;
        }

    pub faces_wrong : breaks k.fault ≡ true → refused_node 15 (24 + at) ≡ all
    faces_wrong r = sym (stopped ls s b f d n starts i h m (held_faces_lem c.held s at b is q) refl (wrong k.fault r)) ∙ o.says

  -- any other counts no faces
  module _ (x : c.held ≡ H.Faces → ⊥) where
    none_counted : Right ≡ fault_of (line_of c).held s at b → (t : ℕ) → link_count (line_of c).held ≡ t → t ≤ 1 →
        Counting ls s b starts all f d (n + t) (i + 1)
    none_counted q t u w =
        let rest = drop (i + 1) starts in
        let kept = held_other c.held s at b x q {r = record { fault = Right; faces = 0; degenerate = 0 }} refl in
        record {
          faces_most = omega (arith, o.faces_most);
          degenerate_most = omega (arith, o.degenerate_most);
          links_most = omega (arith, o.links_most, w);
          says = ap (λ y. on_top y d (n + t) ls s b rest) (sym (add-zero f))
              ∙ ap (λ y. on_top (f + 0) y (n + t) ls s b rest) (sym (add-zero d))
              ∙ ap (λ y. on_top (f + 0) (d + 0) (n + y) ls s b rest) (sym u)
              ∙ sym (passed ls s b f d n starts i h m kept.0 refl) ∙ o.says;
        }

    pub other_counted : ((kind : ℕ) → c.held ≡ H.Link kind → ⊥) → {q : Fault} → q ≡ fault_of (line_of c).held s at b → breaks q ≡ false →
        Counting ls s b starts all f d n (i + 1)
    other_counted y {q} v r =
        rw (add-zero n) at (none_counted (sym (right q r) ∙ v) 0 (no_link c.held _ 0 y) (omega arith))

    pub other_wrong : {q : Fault} → q ≡ fault_of (line_of c).held s at b → breaks q ≡ true → refused_node 15 (24 + at) ≡ all
    other_wrong {q} v r =
        let kept = held_other c.held s at b x v {r = record { fault = q; faces = 0; degenerate = 0 }} refl in
        sym (stopped ls s b f d n starts i h m kept.0 refl (wrong q r)) ∙ o.says

  pub link_counted : {kind : ℕ} → c.held ≡ H.Link kind → Counting ls s b starts all f d (n + 1) (i + 1)
  unfolding fault_of
  link_counted is = none_counted (λ q. faces_no_link (sym q ∙ is)) (rw is) 1 (rw is) (omega arith)

-- ---- 13, then 14, then 15
module _ (kind wanted : ℕ) (ls : List Line) (s starts : List ℕ) (bones : ℕ) where
  abbrev ns : List ℕ
  ns = map (line_number ls s) starts

  by_typed : (k : ℕ) (v w : Refusal) (fs : List Face) (n : ℕ) → (k ≡ 0 → ⊥) → v.number ≡ k →
      refused_node v.number v.place ≡ judged_by (refused_or k v w) fs n
  by_typed zero v w fs n h e = absurd (h refl)
  by_typed (suc k) v w fs n h e = rw e

  module _ {v : Refusal} (e : v ≡ typed ls s [] starts) where
    pub mistyped : (v.number ≡ 0 → ⊥) → refused_node v.number v.place ≡ judged_by_line kind wanted ls s starts bones
    unfolding judged_by_line verdict_by_line
    mistyped h = rw (← e) (by_typed v.number v _ (node_faces ls s starts) (node_links ls s starts) h refl)

    module _ (t : v.number ≡ 0) where
      pub lacking : lacks_by_line kind wanted (required_among ls ns) ns ≡ true → refused_node 14 0 ≡ judged_by_line kind wanted ls s starts bones
      unfolding judged_by_line verdict_by_line
      lacking h = rw (← e, t, h)

      pub by_values_lem : lacks_by_line kind wanted (required_among ls ns) ns ≡ false →
          valued_to ls s (beside_by_line kind s starts ns bones) starts ≡ judged_by_line kind wanted ls s starts bones
      unfolding judged_by_line verdict_by_line valued_to
      by_values_lem h = rw (← e, t, h)
