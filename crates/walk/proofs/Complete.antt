-- Complete: the bytes of a well-formed forest walk to that forest, or to 6 or 7.
use Rattle.std.specs.Prelude.{Option, Some, None}
use Prim.Native.Nat.{ℕ, suc, ◌+◌, ◌-◌, ◌≤◌, ◌<◌}
use native.Mathlib.Omega.{arith}
use mathlib.Core.Path.{◌≡◌, refl, ap, sym, ◌∙◌, subst}
use mathlib.Core.Logic.{◌⊎◌, inl, inr}
use mathlib.Core.Bool.{true, cond, not}
use mathlib.Core.List.{List, [], ◌∷◌, ◌++◌, append_assoc}
use lib.Dec.{leb}
use lib.ListN.{length, take, drop, length-append}
use lib.Seq.{take_at, drop_at, drop-append_seam}
use borrow.Author.Tests.{le-ltb, le-leb}
use Rattle.kinds.specs.Kinds.{may_stand}
use Rattle.table.specs.declared.Row.{Row}
use Rattle.table.specs.Table.{no_parent}
use Rattle.format.specs.Forest.{Forest, end, known, unknown, count, nodes, encode, header, file_header, file_of}
use Rattle.format.specs.Rows.{node_row, rows, rows_of}
use Rattle.format.specs.Layout.{WellFormed, WellFormedFile, Placed, Few}
use Rattle.format.proofs.Headers.{length_header, header_drop, length_file_header, file_header_drop, file_header_first, file_header_version, file_header_roots, file_header_flags}
use Rattle.format.proofs.Rows.{length_rows, rows_unknown, rows_known}
use Rattle.format.proofs.Bodies.{body_good}
use Rattle.walk.specs.Walk.{Walked, after_rows, node_at, children_at, header_at, node_refusal, walk_of}
use Rattle.walk.specs.Statements.{Complete, Others}
use Rattle.walk.proofs.Laws.{node_unknown, node_passed, list_done}
use Rattle.walk.proofs.Outcomes.{headed, header_at_lem, verdict, Shallow, shallow_most, shallow_below, Whole, Bars, bars_more, told, Barred, Outcome, list_barred, Begins, list_on, judged}

-- ---- an unknown node, and those next to it
module _ (parent : Option ℕ) (above depth at row : ℕ) (k h p c : ℕ) (rest : List ℕ) (next : Forest) (wf : WellFormed (unknown k h p c rest next))
    (sh : Shallow parent depth) where
  abbrev unknown_size : ℕ
  unknown_size = 24 + length rest

  abbrev unknown_bytes : List ℕ
  unknown_bytes = header k unknown_size h p c ++ (rest ++ encode next)

  abbrev unknown_rows : List Row
  unknown_rows = node_row k h above (at + 24) (at + unknown_size) p c ∷ []

  unknown_long : length unknown_bytes ≡ unknown_size + length (encode next)
  unknown_long = simp (length-append, length_header) (omega arith)

  unknown_verdict : node_refusal (header_at unknown_bytes) (length unknown_bytes) parent row depth
      ≡ cond (not (may_stand parent k)) 6 (cond (leb 1024 row) 7 0)
  unknown_verdict = rw (header_at_lem k unknown_size h p c (rest ++ encode next) wf.1)
      (verdict (headed k unknown_size h p c) (length unknown_bytes) parent row depth (omega arith) (omega (arith, unknown_long))
      (shallow_most parent depth sh) (rw wf.0))

  unknown_begins : may_stand parent k ≡ true → Begins parent above at row unknown_bytes (unknown k h p c rest next) next unknown_size unknown_rows
  unknown_begins m =
      record {
        rest = ap (drop unknown_size) (sym (append_assoc (header k unknown_size h p c) rest (encode next)))
            ∙ drop_at (header k unknown_size h p c ++ rest) (encode next) unknown_size (simp (length-append, length_header) (omega arith));
        long = unknown_long;
        listed = rows_unknown k h p next above row at unknown_size c rest refl;
        numbered = omega arith;
        placed = λ q. (m, q);
        others = λ q. q.1;
      }

  unknown_outcome : (row < 1024 → Outcome parent above (at + unknown_size) (row + 1) next
      (children_at parent above depth (count next) (at + unknown_size) (row + 1) (encode next)))
      → Outcome parent above at row (unknown k h p c rest next) (children_at parent above depth (suc (count next)) at row unknown_bytes)
  unknown_outcome o =
      judged parent above depth at row unknown_bytes (unknown k h p c rest next) (count next) k unknown_verdict (λ q. q.0) (omega arith)
      (λ m e q.
      let head = header_at_lem k unknown_size h p c (rest ++ encode next) wf.1 in
      list_on parent above depth at row unknown_bytes (unknown k h p c rest next) next unknown_size unknown_rows (unknown_begins m)
      (node_unknown parent above depth at row unknown_bytes head (rw head at e) wf.0)
      (o q))

-- ---- a known node, the nodes below it, and those next to it
module _ (parent : Option ℕ) (above depth at row : ℕ) (k h p : ℕ) (body : List ℕ) (kids next : Forest) (wf : WellFormed (known k h p body kids next))
    (sh : Shallow parent depth) where
  abbrev known_size : ℕ
  known_size = 24 + length body + length (encode kids)

  abbrev known_bytes : List ℕ
  known_bytes = header k known_size h p (count kids) ++ (body ++ (encode kids ++ encode next))

  abbrev known_rows : List Row
  known_rows = node_row k h above (at + 24) (at + 24 + length body) p (count kids) ∷ rows kids row (row + 1) (at + 24 + length body)

  known_long : length known_bytes ≡ known_size + length (encode next)
  known_long = simp (length-append, length_header) (omega arith)

  known_head : header_at known_bytes ≡ headed k known_size h p (count kids)
  known_head = header_at_lem k known_size h p (count kids) (body ++ (encode kids ++ encode next)) wf.1

  known_verdict : node_refusal (header_at known_bytes) (length known_bytes) parent row depth ≡ cond (not (may_stand parent k)) 6 (cond (leb 1024 row) 7 0)
  known_verdict = rw known_head
      (verdict (headed k known_size h p (count kids)) (length known_bytes) parent row depth (omega arith) (omega (arith, known_long))
      (shallow_most parent depth sh) (rw (wf.0, le-ltb 64 p wf.3.most)))

  known_listed : length (rows kids row (row + 1) (at + 24 + length body)) ≡ nodes kids
  known_listed = length_rows kids row (row + 1) (at + 24 + length body)

  known_begins : may_stand parent k ≡ true → Placed (Some k) kids
      → Begins parent above at row known_bytes (known k h p body kids next) next known_size known_rows
  known_begins m below =
      record {
        rest = ap (drop known_size) (ap (λ l. header k known_size h p (count kids) ++ l) (sym (append_assoc body (encode kids) (encode next)))
            ∙ sym (append_assoc (header k known_size h p (count kids)) (body ++ encode kids) (encode next)))
            ∙ drop_at (header k known_size h p (count kids) ++ (body ++ encode kids)) (encode next) known_size
            (simp (length-append, length_header) (omega arith));
        long = known_long;
        listed = rows_known k h p next above row at known_size body kids (row + 1) (omega arith) refl;
        numbered = omega (arith, known_listed);
        placed = λ q. (m, below, q);
        others = λ q. q.2;
      }

  abbrev below : Walked
  below = children_at (Some k) row (depth + 1) (count kids) (at + 24 + length body) (row + 1) (encode kids)

  known_inside : take (known_size - 24) (drop 24 known_bytes) ≡ body ++ encode kids
  known_inside =
      let long : length (body ++ encode kids) ≡ known_size - 24 = simp length-append (omega arith) in
      ap (take (known_size - 24)) (header_drop k known_size h p (count kids) (body ++ (encode kids ++ encode next))
      ∙ sym (append_assoc body (encode kids) (encode next)))
      ∙ take_at (body ++ encode kids) (encode next) (known_size - 24) long

  -- its properties are good, and its children lie in the bytes after them
  known_node : node_refusal (header_at known_bytes) (length known_bytes) parent row depth ≡ 0
      → node_at parent above depth at row known_bytes ≡ after_rows (node_row k h above (at + 24) (at + 24 + length body) p (count kids) ∷ []) below
  known_node e =
      let good = body_good p body (encode kids) wf.3 in
      node_passed parent above depth at row known_bytes known_head (rw known_head at e) wf.0 (rw known_inside good.0)
      ∙ rw (known_inside, good.1, drop-append_seam body (encode kids))

  known_outcome : (may_stand parent k ≡ true → row < 1024 → Outcome (Some k) row (at + 24 + length body) (row + 1) kids below)
      → (row + length known_rows ≤ 1024 → Outcome parent above (at + known_size) (row + length known_rows) next
      (children_at parent above depth (count next) (at + known_size) (row + length known_rows) (encode next)))
      → Outcome parent above at row (known k h p body kids next) (children_at parent above depth (suc (count next)) at row known_bytes)
  known_outcome o others =
      judged parent above depth at row known_bytes (known k h p body kids next) (count next) k known_verdict (λ q. q.0) (omega arith)
      (λ m e q. by m (known_node e) (o m q))
    where
      by : may_stand parent k ≡ true → node_at parent above depth at row known_bytes
          ≡ after_rows (node_row k h above (at + 24) (at + 24 + length body) p (count kids) ∷ []) below
          → Outcome (Some k) row (at + 24 + length body) (row + 1) kids below
          → Outcome parent above at row (known k h p body kids next) (children_at parent above depth (suc (count next)) at row known_bytes)
      by m e (inl o) =
          let far : at + 24 + length body + length (encode kids) ≡ at + known_size = omega arith in
          list_on parent above depth at row known_bytes (known k h p body kids next) next known_size known_rows (known_begins m o.placed)
          (e ∙ ap (after_rows (node_row k h above (at + 24) (at + 24 + length body) p (count kids) ∷ [])) o.is ∙ rw far)
          (others (omega (arith, o.few, known_listed)))
      by m e (inr o) =
          list_barred parent above depth at row known_bytes (known k h p body kids next) (count next)
          (subst (Bars (row + nodes (known k h p body kids next))) (sym (ap (λ v. v.number) e)) (bars_more _ _ below.number (omega arith) o.number))
          (λ q n. o.barred q.1 (omega (arith, n)))

-- ---- any nodes
list_complete : (f : Forest) (parent : Option ℕ) (above depth at row : ℕ) → WellFormed f → Shallow parent depth → row ≤ 1024
    → Outcome parent above at row f (children_at parent above depth (count f) at row (encode f))
list_complete end parent above depth at row wf sh r =
    let here : at + 0 ≡ at = omega arith in
    inl (record { is = list_done parent above depth at row [] (omega arith) ∙ rw here; placed = tt; few = omega arith })
list_complete (unknown k h p c rest next) parent above depth at row wf sh r =
    unknown_outcome parent above depth at row k h p c rest next wf sh
    (λ q. list_complete next parent above depth (at + (24 + length rest)) (row + 1) wf.3 sh (omega (arith, q)))
list_complete (known k h p body kids next) parent above depth at row wf sh r =
    known_outcome parent above depth at row k h p body kids next wf sh
    (λ m q. list_complete kids (Some k) row (depth + 1) (at + 24 + length body) (row + 1) wf.4 (shallow_below parent k depth wf.0 m sh)
    (omega (arith, q)))
    (λ q. list_complete next parent above depth (at + (24 + length body + length (encode kids))) _ wf.5 sh q)

-- ---- the file
module _ (flags : ℕ) (f : Forest) (wf : WellFormedFile flags f) where
  abbrev file : List ℕ
  file = file_header (count f) flags ++ encode f

  file_long : 16 ≤ length file
  file_long = omega (arith, length-append (file_header (count f) flags) (encode f), length_file_header (count f) flags)

  file_walk : walk_of file ≡ children_at None no_parent 1 (count f) 16 0 (encode f)
  unfolding walk_of
  file_walk =
      rw (
        le-leb 16 (length file) file_long,
        file_header_first (count f) flags (encode f),
        file_header_version (count f) flags (encode f),
        file_header_roots (count f) flags (encode f) wf.1,
        file_header_drop (count f) flags (encode f),
      )

  file_outcome : Outcome None no_parent 16 0 f (walk_of file)
  file_outcome = rw file_walk (list_complete f None no_parent 1 16 0 wf.2 (omega arith) (omega arith))

by_outcome : {P : Type 0} (f : Forest) (w : Walked) → Outcome None no_parent 16 0 f w → (Whole None no_parent 16 0 f w → P) → (Barred None 0 f w → P)
    → P
by_outcome f w (inl o) p q = p o
by_outcome f w (inr o) p q = q o

pub complete : Complete
unfolding file_of
complete s flags f holds =
    rw holds.bytes
    (by_outcome f (walk_of (file flags f holds.well_formed)) (file_outcome flags f holds.well_formed)
    (λ o. (ap (λ w. w.number) o.is, ap (λ w. w.rows) o.is, file_header_flags (count f) flags (encode f) holds.well_formed.0))
    (λ o. absurd (o.barred holds.placed (omega (arith, holds.few)))))

pub others : Others
unfolding file_of
others flags f wf n =
    by_outcome f (walk_of (file flags f wf)) (file_outcome flags f wf)
    (λ o. absurd (n (o.placed, omega (arith, o.few))))
    (λ o. by (walk_of (file flags f wf)).number o.number)
  where
    by : (m : ℕ) → Bars (0 + nodes f) m → (m ≡ 6) ⊎ ((m ≡ 7) × (Few f → ⊥))
    by m (inl e) = inl e
    by m (inr e) = inr (e.0, λ few. omega (arith, e.1, few))

-- where the walk accepts the bytes of a well-formed forest, it came to that forest's rows
pub walked_back : (flags : ℕ) (f : Forest) → WellFormedFile flags f → (walk_of (file_of flags f)).number ≡ 0 → (walk_of (file_of flags f)).rows ≡ rows_of f
unfolding file_of
walked_back flags f wf e =
    by_outcome f (walk_of (file flags f wf)) (file_outcome flags f wf)
    (λ o. ap (λ w. w.rows) o.is)
    (λ o. absurd (told (0 + nodes f) (walk_of (file flags f wf)).number o.number e))
