-- Of the rows that are left of a file: faces, charges, bodies and links are those that they were.
use Prim.Native.Nat.{ℕ, zero, suc, ◌+◌, ◌-◌}
use native.Mathlib.Omega.{arith}
use mathlib.Core.Path.{◌≡◌, refl, ap, sym, ◌∙◌}
use mathlib.Core.Bool.{Bool, true, false, ◌&&◌, true≢false}
use mathlib.Core.List.{List, [], ◌∷◌, map, map-append, flat_map}
use lib.Dec.{eqb}
use lib.ListN.{get_or, drop}
use Rattle.le.specs.Le.{number_at}
use Rattle.base.proofs.Tests.{by_test}
use Rattle.kinds.specs.Kinds.{is_known}
use Rattle.table.specs.declared.Row.{Row}
use Rattle.table.specs.Table.{blank}
use Rattle.format.specs.Rows.{body_of, own_bytes, hash_of}
use Rattle.base.specs.Lists.{Each}
use Rattle.base.proofs.Lists.{each_append}
use Rattle.rules.specs.Rules.{lines_of}
use Rattle.judge.specs.Properties.{rule_at, rest_at}
use Rattle.links.specs.Links.{reached, links_at, row_links, links_from, links_of}
use Rattle.rules.proofs.Helds.{by_link, link_none}
use Rattle.reader.specs.Reading.{own_known, own_unknown}
use Rattle.reader.specs.Acceptance.{row_faces, faces_of}
use Rattle.removal.specs.Tally.{sum_over_marked}
use Rattle.removal.specs.Left.{unmarked, new_number, Stays, unmarked_of, rows_left, LinkStays, moved_link}
use Rattle.removal.proofs.Marked.{SameNode, Left, none, gone, same}
use Rattle.removal.proofs.Targets.{target_at, unlike}

-- ---- row by row
module _ {s s' : List ℕ} where
  pub faces_left : {rows : List Row} {ms : List Bool} {rows' : List Row} → Left s s' rows ms rows' → faces_of s' rows' ≡ faces_of s rows
  unfolding faces_of flat_map
  faces_left none = refl
  faces_left (gone u l) = rw u (faces_left l)
  faces_left (same n l) = rw (n.kind, n.body, n.properties, faces_left l)

  -- what is the same of the same node is so of all rows that are left
  map_left : {B : Type 0} (f g : Row → B) → ((r r' : Row) → SameNode s s' r r' → f r' ≡ g r)
      → {rows : List Row} {ms : List Bool} {rows' : List Row} → Left s s' rows ms rows' → map f rows' ≡ map g (unmarked_of rows ms)
  unfolding unmarked_of
  map_left f g e none = refl
  map_left f g e (gone u l) = map_left f g e l
  map_left f g e (same {r = r} {r' = r'} n l) = rw (e r r' n, map_left f g e l)

  module _ {rows : List Row} {ms : List Bool} {rows' : List Row} (l : Left s s' rows ms rows') where
    pub owns_left : map own_bytes rows' ≡ map own_bytes (unmarked_of rows ms)
    owns_left = map_left own_bytes own_bytes (λ r r' n. n.own) l

    pub bodies_left : map (body_of s') rows' ≡ map (body_of s) (unmarked_of rows ms)
    bodies_left = map_left (body_of s') (body_of s) (λ r r' n. n.body) l

    pub node_faces_left : map (row_faces s') rows' ≡ map (row_faces s) (unmarked_of rows ms)
    node_faces_left = map_left (row_faces s') (row_faces s) (λ r r' n. rw (n.kind, n.body, n.properties)) l

  pub known_left : {rows : List Row} {ms : List Bool} {rows' : List Row} → Left s s' rows ms rows' → own_known rows' ≡ own_known rows
  unfolding own_known
  known_left none = refl
  known_left (gone u l) = rw u (known_left l)
  known_left (same n l) = rw (n.kind, n.own, known_left l)

  pub unknown_left : {rows : List Row} {ms : List Bool} {rows' : List Row} (j : ℕ) → Left s s' rows ms rows'
      → own_unknown rows ≡ sum_over_marked (λ i r. own_bytes r) j rows ms + own_unknown rows'
  unfolding own_unknown sum_over_marked
  unknown_left j none = refl
  unknown_left j (gone u l) = rw u (omega (arith, unknown_left (suc j) l))
  unknown_left j (same {r = r} n l) =
      by_test (is_known r.kind)
      (λ t. rw (n.kind, t) (omega (arith, unknown_left (suc j) l)))
      (λ t. rw (n.kind, n.own, t) (omega (arith, unknown_left (suc j) l)))

  pub only_unknown_lem : {rows : List Row} {ms : List Bool} {rows' : List Row} → Left s s' rows ms rows'
      → (i : ℕ) → get_or ms i false ≡ true → is_known (get_or rows i blank).kind ≡ false
  only_unknown_lem none zero e = absurd (true≢false (sym e))
  only_unknown_lem none (suc i) e = absurd (true≢false (sym e))
  only_unknown_lem (gone u l) zero e = u
  only_unknown_lem (gone u l) (suc i) e = only_unknown_lem l i e
  only_unknown_lem (same n l) zero e = absurd (true≢false (sym e))
  only_unknown_lem (same n l) (suc i) e = only_unknown_lem l i e

-- ---- a list from place i on
module _ {A : Type 0} where
  pub here : (l : List A) (i : ℕ) (d : A) {x : A} {xs : List A} → drop i l ≡ x ∷ xs → get_or l i d ≡ x
  here [] zero d e = cc
  here [] (suc i) d e = cc
  here (y ∷ l) zero d e = cc
  here (y ∷ l) (suc i) d e = here l i d e

  pub onward : (l : List A) (i : ℕ) {x : A} {xs : List A} → drop i l ≡ x ∷ xs → drop (suc i) l ≡ xs
  onward [] zero e = cc
  onward [] (suc i) e = cc
  onward (y ∷ l) zero e = cc
  onward (y ∷ l) (suc i) e = onward l i e

-- the number of the row after a marked row, and after one that is left
pub number_gone : (ms : List Bool) (i : ℕ) {rest : List Bool} → drop i ms ≡ true ∷ rest → new_number ms (suc i) ≡ new_number ms i
unfolding unmarked
number_gone [] zero e = refl
number_gone [] (suc i) e = refl
number_gone (true ∷ ms) zero e = refl
number_gone (false ∷ ms) zero e = cc
number_gone (true ∷ ms) (suc i) e = number_gone ms i e
number_gone (false ∷ ms) (suc i) e = ap suc (number_gone ms i e)

pub number_same : (ms : List Bool) (i : ℕ) {rest : List Bool} → drop i ms ≡ false ∷ rest → new_number ms (suc i) ≡ suc (new_number ms i)
unfolding unmarked
number_same [] zero e = cc
number_same [] (suc i) e = cc
number_same (true ∷ ms) zero e = cc
number_same (false ∷ ms) zero e = refl
number_same (true ∷ ms) (suc i) e = number_same ms i e
number_same (false ∷ ms) (suc i) e = ap suc (number_same ms i e)

module _ (s s' : List ℕ) (ms : List Bool) where
  -- what a link to a known kind reaches
  reached_from : (kind hash : ℕ) → is_known kind ≡ true → (i : ℕ) {rs : List Row} {rest : List Bool} {rs' : List Row}
      → drop i ms ≡ rest → Left s s' rs rest rs' → reached kind hash (new_number ms i) rs' ≡ map (new_number ms) (reached kind hash i rs)
  unfolding reached
  reached_from kind hash k i e none = refl
  reached_from kind hash k i e (gone {r = r} u l) =
      rw (unlike r.kind kind u k, ← number_gone ms i e) (reached_from kind hash k (suc i) (onward ms i e) l)
  reached_from kind hash k i e (same {r = r} n l) =
      let ih = rw (number_same ms i e) at (reached_from kind hash k (suc i) (onward ms i e) l) in
      rw (n.kind, n.low, n.high, ih)
      (by_test (eqb r.kind kind && eqb (hash_of r) hash) (λ t. rw t) (λ t. rw t))

  -- and it is not marked
  reached_stay : (kind hash : ℕ) → is_known kind ≡ true → (i : ℕ) {rs : List Row} {rest : List Bool} {rs' : List Row}
      → drop i ms ≡ rest → Left s s' rs rest rs' → Each (Stays ms) (reached kind hash i rs)
  unfolding reached
  reached_stay kind hash k i e none = tt
  reached_stay kind hash k i e (gone {r = r} u l) = rw (unlike r.kind kind u k) (reached_stay kind hash k (suc i) (onward ms i e) l)
  reached_stay kind hash k i e (same {r = r} n l) =
      let later = reached_stay kind hash k (suc i) (onward ms i e) l in
      by_test (eqb r.kind kind && eqb (hash_of r) hash) (λ t. rw t (here ms i true e, later)) (λ t. rw t later)

  module _ (rows rows' : List Row) (whole : Left s s' rows ms rows') where
    links_stay_at : (kind i start : ℕ) (body starts : List ℕ) → Stays ms i
        → Each (LinkStays ms) (links_at rows (lines_of kind) i start body starts)
    unfolding links_at
    links_stay_at kind i start body [] h = tt
    links_stay_at kind i start body (at ∷ more) h =
        let later = links_stay_at kind i start body more h in
        by_link (Each (LinkStays ms)) (rule_at (lines_of kind) body at).held _ _
        (λ to e. ((h, reached_stay to (number_at 8 (rest_at body at) 0) (target_at kind body at to e) 0 refl whole), later)) (λ other. later)

    links_stay_lem : (i : ℕ) {rs : List Row} {rest : List Bool} {rs' : List Row} → drop i ms ≡ rest → Left s s' rs rest rs'
        → Each (LinkStays ms) (links_from s rows i rs)
    unfolding links_from
    links_stay_lem i e none = tt
    links_stay_lem i e (gone u l) = rw u (links_stay_lem (suc i) (onward ms i e) l)
    links_stay_lem i {rs = r ∷ rs} e (same n l) =
        let later = links_stay_lem (suc i) (onward ms i e) l in
        let own : Each (LinkStays ms) (row_links s rows i r)
        = by_test (is_known r.kind) (λ t. rw t (links_stay_at r.kind i r.start (body_of s r) _ (here ms i true e))) (λ t. rw t tt) in
        (each_append (LinkStays ms) (row_links s rows i r) (links_from s rows (suc i) rs)).1 (own, later)

  module _ (rows rows' : List Row) (whole : Left s s' rows ms rows') (laid : rows' ≡ rows_left rows ms) where
    -- the links of row i, whose body is the same but starts at another place
    module _ (kind i : ℕ) (r r' : Row) (from : get_or rows i blank ≡ r) (to : get_or rows' (new_number ms i) blank ≡ r') (body : List ℕ) where
      links_at_lem : (starts : List ℕ)
          → links_at rows' (lines_of kind) (new_number ms i) r'.start body starts
          ≡ map (moved_link rows ms) (links_at rows (lines_of kind) i r.start body starts)
      unfolding links_at unmarked
      links_at_lem [] = refl
      links_at_lem (at ∷ more) =
          let held = (rule_at (lines_of kind) body at).held in
          by_link (λ links. links ≡ map (moved_link rows ms) (links_at rows (lines_of kind) i r.start body (at ∷ more))) held _ _
          (λ k e.
          let targets = reached_from k (number_at 8 (rest_at body at) 0) (target_at kind body at k e) 0 refl whole in
          let place : at ≡ (r.start + at) - r.start = omega arith in
          rw (e, ← laid, to, from, ← place, links_at_lem more, targets))
          (λ other. rw (link_none held _ _ other) (links_at_lem more))

    -- the links of the rows from row i on
    links_from_lem : (i : ℕ) {rs : List Row} {rest : List Bool} {rs' : List Row}
        → drop i rows ≡ rs → drop i ms ≡ rest → drop (new_number ms i) rows' ≡ rs' → Left s s' rs rest rs'
        → links_from s' rows' (new_number ms i) rs' ≡ map (moved_link rows ms) (links_from s rows i rs)
    unfolding links_from
    links_from_lem i a b c none = refl
    links_from_lem i a b c (gone u l) =
        let number = number_gone ms i b in
        let more = links_from_lem (suc i) (onward rows i a) (onward ms i b) (ap (λ j. drop j rows') number ∙ c) l in
        rw u (rw (← number) more)
    links_from_lem i {rs = r ∷ rs} {rs' = r' ∷ rs'} a b c (same n l) =
        let number = number_same ms i b in
        let more = links_from_lem (suc i) (onward rows i a) (onward ms i b) (ap (λ j. drop j rows') number ∙ onward rows' (new_number ms i) c) l in
        let row = links_at_lem r.kind i r r' (here rows i blank a) (here rows' (new_number ms i) blank c) (body_of s r) in
        rw (map-append (moved_link rows ms) (row_links s rows i r) (links_from s rows (suc i) rs), ← more, number, n.kind, n.body, n.properties)
        (by_test (is_known r.kind) (λ t. rw (t, row)) (λ t. rw t))

pub links_left : (s s' : List ℕ) (rows : List Row) (ms : List Bool) (rows' : List Row) → Left s s' rows ms rows' → rows' ≡ rows_left rows ms
    → links_of s' rows' ≡ map (moved_link rows ms) (links_of s rows)
unfolding unmarked
links_left s s' rows ms rows' whole laid = links_from_lem s s' ms rows rows' whole laid 0 refl refl refl whole

pub link_rows : (s s' : List ℕ) (rows : List Row) (ms : List Bool) (rows' : List Row) → Left s s' rows ms rows' → Each (LinkStays ms) (links_of s rows)
link_rows s s' rows ms rows' whole = links_stay_lem s s' ms rows rows' whole 0 refl whole
