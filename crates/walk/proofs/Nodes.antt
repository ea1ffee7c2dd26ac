-- What the walk over one node promises, in each of its cases, from what was read of it.
use Rattle.std.specs.Prelude.{Option, Some}
use Prim.Native.Nat.{ℕ, ◌+◌, ◌-◌, ◌<◌, ◌≤◌}
use native.Mathlib.Omega.{arith}
use native.Mathlib.Nat.{add-zero}
use mathlib.Core.Path.{◌≡◌, refl, ap, sym, ◌∙◌}
use mathlib.Core.Bool.{true, false, cond}
use mathlib.Core.List.{List, ◌++◌}
use lib.Dec.{ltb}
use lib.ListN.{length, take, drop, length-take, length-drop, take-append-drop}
use lib.Seq.{length-take-le, take-append-le, drop-append-le, drop-drop}
use borrow.Author.Tests.{lt-ltb, le-ltb}
use Rattle.base.proofs.Tests.{by_test}
use Rattle.le.specs.Le.{number_at}
use Rattle.le.proofs.Laws.{drop_take}
use Rattle.kinds.specs.Kinds.{is_known}
use Rattle.table.specs.Table.{with_row}
use Rattle.body.specs.Body.{Passed}
use Rattle.body.specs.Body.{PropertyWalk, pass, properties, end_of}
use Rattle.body.proofs.Places.{properties_end}
use Rattle.walk.specs.declared.Header.{Header}
use Rattle.walk.specs.Private.{Reached}
use Rattle.walk.specs.Walk.{header_at, node_refusal, too_many, row_of_header, inside, node_at, children_at}
use Rattle.walk.specs.Private.{passed_at, left_over, Came}
use Rattle.walk.proofs.Laws.{node_short, node_refused, node_unknown, node_bad, node_passed}
use Rattle.walk.proofs.Cases.{Right}
use Rattle.walk.proofs.Steps.{stops, puts, then, none_left}

-- the bytes after a node's header, and what the children have of them
module _ (h : Header) where
  pub length_inside : (bs : List ℕ) → h.size ≤ length bs → length (inside h bs) ≡ h.size - 24
  length_inside bs fit = simp (length-take, length-drop) (omega arith)

  module _ (bytes : List ℕ) (at : ℕ) where
    pub inside_is : take (at + h.size - (at + 24)) (drop (at + 24) bytes) ≡ inside h (drop at bytes)
    inside_is = let size : at + h.size - (at + 24) ≡ h.size - 24 = omega arith in rw (size, drop-drop 24 at bytes)

    pub children_are : (end : ℕ) → at + 24 ≤ end → end ≤ at + h.size
        → drop end (take (at + h.size) bytes) ≡ drop (end - (at + 24)) (inside h (drop at bytes))
    children_are end low high =
        let more = end - (at + 24) in
        let size : at + h.size - end ≡ h.size - 24 - more = omega arith in
        let place : at + 24 + more ≡ end = omega arith in
        let same : drop more (drop 24 (drop at bytes)) ≡ drop end bytes
        = ap (drop more) (drop-drop 24 at bytes) ∙ drop-drop more (at + 24) bytes ∙ ap (λ k. drop k bytes) place in
        drop_take end (at + h.size) bytes high
        ∙ ap (λ n. take n (drop end bytes)) size
        ∙ ap (take (h.size - 24 - more)) (sym same)
        ∙ sym (drop_take more (h.size - 24) (drop 24 (drop at bytes)) (omega arith))

-- the first 24 bytes have the header
number_at_front : (w : ℕ) (front more : List ℕ) (k : ℕ) → k + w ≤ length front → number_at w (front ++ more) k ≡ number_at w front k
unfolding number_at
number_at_front w front more k h =
    rw (drop-append-le k front more (omega arith), take-append-le w (drop k front) more (simp length-drop (omega arith)))

header_of_lem : (front more : List ℕ) → 24 ≤ length front → header_at (front ++ more) ≡ header_at front
unfolding header_at
header_of_lem front more h =
    rw (
      number_at_front 4 front more 0 (omega arith),
      number_at_front 4 front more 4 (omega arith),
      number_at_front 4 front more 8 (omega arith),
      number_at_front 4 front more 12 (omega arith),
      number_at_front 4 front more 16 (omega arith),
      number_at_front 4 front more 20 (omega arith),
    )

pub header_front : (bs : List ℕ) → 24 ≤ length bs → header_at (take 24 bs) ≡ header_at bs
header_front bs l = sym (header_of_lem (take 24 bs) (drop 24 bs) (omega (arith, length-take-le 24 bs l))) ∙ ap header_at (take-append-drop 24 bs)

-- it has no header
pub no_room_lem : (parent : Option ℕ) (above depth at row : ℕ) (bs t : List ℕ) → length bs < 24 → row ≤ 1024
    → Came (record { number = 5; at = at; rows = row }) (node_at parent above depth at row bs) at row bs t t
no_room_lem parent above depth at row bs t short few = stops (node_short parent above depth at row bs short) few (omega arith) (omega arith)

-- the row of a header whose hash is read again
pub row_is : (head : List ℕ) {h : Header} → h ≡ header_at head → (above start end : ℕ) {low high : ℕ} → low ≡ number_at 4 head 8 → high ≡ number_at 4 head 12
    → record { kind = h.kind; low = low; high = high; parent = above; start = start; end = end; properties = h.properties; children = h.children }
    ≡ row_of_header h above start end
unfolding header_at
row_is head is above start end l g = rw (l ∙ sym (ap (λ h. h.low) is), g ∙ sym (ap (λ h. h.high) is))

-- bytes are left after the last node, or none
pub over : (end past : ℕ) → end < past → 12 ≡ left_over (past - end)
over end past h = rw (lt-ltb 0 (past - end) (omega arith))

pub full : (end past : ℕ) → past ≤ end → 0 ≡ left_over (past - end)
full end past h = rw (le-ltb 0 (past - end) (omega arith))

-- how the properties of a known node end: none, too many, or by the walk over them
module _ (at : ℕ) (s : List ℕ) {count : ℕ} where
  pub passed_none : count ≡ 0 → record { number = 0; at = at + 24 } ≡ passed_at at s count
  unfolding passed_at properties pass
  passed_none e = rw e (ap (λ n. record { number = 0; at = n }) (sym (add-zero (at + 24))))

  pub passed_many : 64 < count → record { number = 9; at = at } ≡ passed_at at s count
  unfolding passed_at
  passed_many h = rw (lt-ltb 64 count h)

  pub passed_few : count ≤ 64 → {p : Passed} → p ≡ end_of (properties s count) → record { number = p.number; at = at + 24 + p.at } ≡ passed_at at s count
  unfolding passed_at
  passed_few h e = rw (le-ltb 64 count h, e)

module _ (parent : Option ℕ) (above depth at row : ℕ) (bs t : List ℕ) {h : Header} (is : h ≡ header_at bs) where
  -- its header is refused
  pub header_refused : {n : ℕ} → n ≡ node_refusal h (length bs) parent row depth → (n ≡ 0 → ⊥) → row ≤ 1024
      → Came (record { number = n; at = at; rows = row }) (node_at parent above depth at row bs) at row bs t t
  header_refused e z few =
      stops (node_refused parent above depth at row bs (sym is) (sym e) z) few (omega arith) (omega arith)

  -- 5 to 8 do not refuse it
  module _ (found : Right h (length bs) parent row) (judged : node_refusal h (length bs) parent row depth ≡ cond (too_many h.kind h.properties) 9 0) where
    -- it is unknown
    pub passed_over : is_known h.kind ≡ false → {t' : List ℕ} → t' ≡ with_row t row (row_of_header h above (at + 24) (at + h.size))
        → Came (record { number = 0; at = at + h.size; rows = row + 1 }) (node_at parent above depth at row bs) at row bs t t'
    passed_over unknown put =
        rw (node_unknown parent above depth at row bs (sym is) (judged ∙ rw unknown) unknown)
        (puts put found.few (omega arith) (omega (arith, found.within)))

    -- it is known
    module _ (known : is_known h.kind ≡ true) {q : Passed} (e : q ≡ passed_at at (inside h bs) h.properties) where
      abbrev p : PropertyWalk
      p = properties (inside h bs) h.properties

      end : p.at + 24 ≤ h.size
      end = omega (arith, found.own, properties_end (inside h bs) h.properties, length_inside h bs found.within)

      -- it has too many properties, or they are walked over
      by_count : {P : Type 0} → (q ≡ record { number = 9; at = at } → node_refusal h (length bs) parent row depth ≡ 9 → P)
          → (q ≡ record { number = p.number; at = at + 24 + p.at } → node_refusal h (length bs) parent row depth ≡ 0 → P) → P
      unfolding passed_at
      by_count f g =
          by_test (ltb 64 h.properties) (λ l. f (e ∙ rw l) (judged ∙ rw (known, l))) (λ l. g (e ∙ rw l) (judged ∙ rw (known, l)))

      -- it is refused for them
      pub body_bad : (q.number ≡ 0 → ⊥)
          → Came (record { number = q.number; at = q.at; rows = row }) (node_at parent above depth at row bs) at row bs t t
      body_bad z =
          by_count (λ i n. rw i (header_refused (sym n) (λ o. omega (arith, o)) (omega (arith, found.few))))
          (λ i n. rw i (stops (node_bad parent above depth at row bs (sym is) n known refl (λ o. z (ap (λ r. r.number) i ∙ o)))
          (omega (arith, found.few)) (omega arith) (omega (arith, end, found.within))))

      module _ (z : q.number ≡ 0) where
        on : (node_refusal h (length bs) parent row depth ≡ 0) × (p.number ≡ 0) × (q.at ≡ at + 24 + p.at)
        on = by_count (λ i n. absurd (omega (arith, z, ap (λ r. r.number) i))) (λ i n. (n, sym (ap (λ r. r.number) i) ∙ z, ap (λ r. r.at) i))

        -- they end within it
        pub ends : (at + 24 ≤ q.at) × (q.at ≤ at + h.size)
        ends = omega (arith, end, on.2)

        -- its row, and its children
        pub with_children : {u t' cs : List ℕ} {r : Reached} → u ≡ with_row t row (row_of_header h above (at + 24) q.at)
            → cs ≡ drop (q.at - (at + 24)) (inside h bs)
            → Came r (children_at (Some h.kind) row (depth + 1) h.children q.at (row + 1) cs) q.at (row + 1) cs u t'
            → Came r (node_at parent above depth at row bs) at row bs t t'
        with_children put part c =
            let whole = node_passed parent above depth at row bs (sym is) on.0 known on.1 in
            let place : q.at - (at + 24) ≡ p.at = omega (arith, on.2) in
            rw (whole, ← on.2, ← place)
            (then (puts put found.few (omega (arith, ends)) (omega (arith, ends, found.within))) (rw part at c)
            (omega (arith, ends, found.within, length-drop (q.at - (at + 24)) (inside h bs), length_inside h bs found.within)))

        -- its row, and no child
        pub childless : h.children ≡ 0 → {t' : List ℕ} → t' ≡ with_row t row (row_of_header h above (at + 24) q.at)
            → {n : ℕ} → n ≡ left_over (at + h.size - q.at)
            → Came (record { number = n; at = q.at; rows = row + 1 }) (node_at parent above depth at row bs) at row bs t t'
        childless none put l =
            let left : length (drop (q.at - (at + 24)) (inside h bs)) ≡ at + h.size - q.at
            = omega (arith, ends, length-drop (q.at - (at + 24)) (inside h bs), length_inside h bs found.within, found.own) in
            with_children put refl (rw none (none_left (Some h.kind) row (depth + 1) (l ∙ ap left_over (sym left)) (omega (arith, found.few))))
