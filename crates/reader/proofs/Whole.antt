-- The reading put together: what a walked file's rows are, and each way to its end.
use Rattle.std.specs.Prelude.{Some, None, Result, Ok, Err}
use Prim.Native.Nat.{ℕ, zero, suc, ◌+◌, ◌≤◌, ◌<◌, min}
use native.Mathlib.Nat.{min-eq_left}
use native.Mathlib.Omega.{arith}
use mathlib.Core.Path.{◌≡◌, refl, ap, sym, ◌∙◌, subst}
use mathlib.Core.Bool.{true, false}
use mathlib.Core.List.{List, [], ◌∷◌}
use lib.Dec.{eqb, ltb}
use lib.ListN.{length, get_or, length-append, get_or-eq_default}
use borrow.Author.Tests.{eqb-true, ltb-true, ltb-false}
use Rattle.base.proofs.Tests.{by_test}
use Rattle.base.specs.declared.Refusal.{Refusal}
use Rattle.base.specs.Refusals.{refused_or, reason_number}
use Rattle.base.proofs.Refusals.{is_refused}
use Rattle.le.specs.Le.{AreBytes}
use Rattle.kinds.specs.Kinds.{bone}
use Rattle.table.specs.declared.Row.{Row}
use Rattle.table.specs.Table.{blank, no_parent, row_at, rows_at, put_rows, has_room}
use Rattle.table.specs.Counts.{counts_under}
use Rattle.table.proofs.Rows.{row_at_put_rows}
use Rattle.table.proofs.Clearing.{has_room_has_row, cleared_put_rows}
use Rattle.table.proofs.ClearingFrom.{filled_from}
use Rattle.table.proofs.Plans.{rows_are}
use Rattle.table.proofs.Counts.{counted_none, counts_length, counts_tell}
use Rattle.format.specs.declared.OwnBytes.{OwnBytes}
use Rattle.format.specs.Forest.{Forest, nodes, encode, count, file_header, file_of}
use Rattle.format.specs.Rows.{rows_of, all_own_bytes}
use Rattle.base.specs.Lists.{Each}
use Rattle.format.specs.Layout.{WellFormedFile, Placed}
use Rattle.base.proofs.Lists.{each_both, each_map}
use Rattle.format.proofs.Headers.{length_file_header}
use Rattle.format.proofs.Rows.{length_rows, own_bytes_add_up}
use Rattle.format.proofs.Within.{Lies, BoneUnder, rows_lie, bones_under_lem}
use Rattle.links.specs.Links.{links_of, linked, accepted_links, refused_links, linked_told}
use Rattle.walk.specs.Walk.{Answer}
use Rattle.walk.specs.Walk.{Walked, limited, refused_answer, accepted_answer, answer, flags_of}
use Rattle.walk.proofs.Laws.{limited_is}
use Rattle.walk.proofs.Sound.{sound}
use Rattle.reader.specs.Reading.{Reading, Ruled}
use Rattle.reader.specs.Reading.{Accepted, Refused}
use Rattle.reader.specs.Reading.{bones_under, ruled, own_known, own_unknown, checked, verdict, reading_of, table_left, table_after}
use Rattle.reader.specs.Private.{Passed, RowOk, RowsOk, BonesCounted, JudgedAll, AllTo, left_after}
use Rattle.reader.proofs.Bounds.{links_lie, resolved_lies}
use Rattle.reader.proofs.Judging.{links_counted}
use Rattle.reader.proofs.Charges.{resolved_counts}
use Rattle.reader.proofs.Exactly.{short, checked_right}
use Rattle.reader.proofs.Passing.{file_passed}
use Rattle.reader.proofs.Linking.{links_refused, links_accepted}
use Rattle.base.proofs.Refusals.{numbered}

-- ---- rows in a table
each_get : (P : Row → Type 0) (rs : List Row) (d : Row) → Each P rs → (i : ℕ) → i < length rs → P (get_or rs i d)
each_get P [] d h i b = absurd (omega arith)
each_get P (r ∷ rs) d h zero b = h.0
each_get P (r ∷ rs) d h (suc i) b = each_get P rs d h.1 i (omega arith)

pub each_rows : (P : Row → Type 0) (t : List ℕ) (k n : ℕ) → ((i : ℕ) → i < n → P (row_at t (k + i))) → Each P (rows_at t k n)
unfolding rows_at
each_rows P t k zero h = tt
each_rows P t k (suc n) h =
    let first : k + 0 ≡ k = omega arith in (
      subst (λ i. P (row_at t i)) first (h 0 (omega arith)),
      each_rows P t (suc k) n (λ i b. let next : k + suc i ≡ suc k + i = omega arith in subst (λ j. P (row_at t j)) next (h (suc i) (omega arith))),
    )

-- rows that were put into a table with room
module _ (t : List ℕ) (rs : List Row) (room : has_room t ≡ true) (few : length rs ≤ 1024) where
  put_at : (j : ℕ) → j < length rs → row_at (put_rows t 0 rs) (0 + j) ≡ get_or rs j blank
  put_at j b = row_at_put_rows t 0 rs j b (has_room_has_row t (0 + j) room (omega arith))

  put_row_at : (j : ℕ) → j < length rs → row_at (put_rows t 0 rs) j ≡ get_or rs j blank
  put_row_at j b = (let z : j ≡ 0 + j = omega arith in ap (row_at (put_rows t 0 rs)) z) ∙ put_at j b

  pub put_rows_lem : rows_at (put_rows t 0 rs) 0 (length rs) ≡ rs
  put_rows_lem = rows_are (put_rows t 0 rs) 0 rs put_at

  pub put_ok : (s : List ℕ) → Each (RowOk s (length rs)) rs → RowsOk s (put_rows t 0 rs) (length rs)
  put_ok s h i b = subst (RowOk s (length rs)) (sym (put_row_at i b)) (each_get (RowOk s (length rs)) rs blank h i b)

-- ---- the rows of a file that was walked
row_ok : (s : List ℕ) (n : ℕ) (r : Row) → (Lies 16 (length s) r × BoneUnder n r) × Passed s r → RowOk s n r
row_ok s n r h = record { first = omega (arith, h.0.0.0); onward = h.0.0.1; within = h.0.0.2; bone_parent = h.0.1; passed = h.1 }

rows_ok : (s : List ℕ) (flags : ℕ) (f : Forest) → Placed None f → WellFormedFile flags f → s ≡ file_of flags f → Each (RowOk s (length (rows_of f))) (rows_of f)
unfolding file_of
rows_ok s flags f placed well e =
    let size : length s ≡ 16 + length (encode f)
    = ap length e ∙ length-append (file_header (count f) flags) (encode f) ∙ ap (λ n. n + length (encode f)) (length_file_header (count f) flags) in
    let n : length (rows_of f) ≡ 0 + nodes f = length_rows f no_parent 0 16 ∙ omega arith in
    let lies : Each (Lies 16 (length s)) (rows_of f) = subst (λ k. Each (Lies 16 k) (rows_of f)) (sym size) (rows_lie f no_parent 0 16) in
    let under : Each (BoneUnder (length (rows_of f))) (rows_of f) = subst (λ k. Each (BoneUnder k) (rows_of f)) (sym n) (bones_under_lem f 0 16 placed) in
    let m = length (rows_of f) in
    each_map (row_ok s m) (rows_of f)
    ((each_both (λ r. Lies 16 (length s) r × BoneUnder m r) (Passed s) (rows_of f)).0
    ((each_both (Lies 16 (length s)) (BoneUnder m) (rows_of f)).0 (lies, under), file_passed s flags f well e))

pub walked_ok : (s : List ℕ) → AreBytes s → (limited s).number ≡ 0 → Each (RowOk s (length (limited s).rows)) (limited s).rows
walked_ok s bytes e =
    let lim = (limited_is s).0 (short s e) in
    let walk = sound s bytes (ap (λ w. w.number) (sym lim) ∙ e) in
    let are : (limited s).rows ≡ rows_of walk.forest = ap (λ w. w.rows) lim ∙ walk.rows in
    subst (λ rs. Each (RowOk s (length rs)) rs) (sym are)
    (rows_ok s (flags_of s) walk.forest walk.holds.placed walk.holds.well_formed walk.holds.bytes)

-- the header and the own bytes are its length
pub walked_own : (s : List ℕ) → AreBytes s → (limited s).number ≡ 0 → 16 + all_own_bytes (limited s).rows ≡ length s
walked_own s bytes e =
    let lim = (limited_is s).0 (short s e) in
    let walk = sound s bytes (ap (λ w. w.number) (sym lim) ∙ e) in
    let are : (limited s).rows ≡ rows_of walk.forest = ap (λ w. w.rows) lim ∙ walk.rows in
    ap (λ rs. 16 + all_own_bytes rs) are ∙ own_bytes_add_up (flags_of s) walk.forest ∙ ap length (sym walk.holds.bytes)

-- ---- the stages after the walk
module _ (s : List ℕ) (rs : List Row) where
  refused_rules : ((ruled s rs rs).number ≡ 0 → ⊥) → Refused (ruled s rs rs).number (ruled s rs rs).place ≡ checked s rs
  unfolding checked
  refused_rules h = sym (is_refused (ruled s rs rs).number _ _ h)

  refused_links_lem : (ruled s rs rs).number ≡ 0 → ((linked s rs).number ≡ 0 → ⊥) → Refused (linked s rs).number (linked s rs).place ≡ checked s rs
  unfolding checked
  refused_links_lem r h = rw r (sym (is_refused (linked s rs).number _ _ h))

  links_place : (n : ℕ) → Each (RowOk s n) rs → (linked s rs).place ≤ length s
  unfolding linked
  links_place n h = resolved_lies 0 (length s) (links_of s rs) (links_lie s rs n 0 rs h)

  -- the account, from its numbers
  pub account_checked : (ruled s rs rs).number ≡ 0 → (linked s rs).number ≡ 0 → (n flags : ℕ) (known unknown : OwnBytes) (f d l : ℕ)
      → n ≡ length rs → flags ≡ flags_of s → known.0 ≡ own_known rs → unknown.0 ≡ own_unknown rs
      → f ≡ (ruled s rs rs).faces → d ≡ (ruled s rs rs).degenerate → l ≡ (linked s rs).links
      → Accepted (record { nodes = n; flags = flags; known = known; unknown = unknown; faces = record { 0 = f }; degenerate = d; links = l }) ≡ checked s rs
  account_checked r l n flags known unknown f d k a b c e g h i =
      let own : (x : OwnBytes) (m : ℕ) → x.0 ≡ m → x ≡ record { 0 = m } = λ x m p. ap (λ q. record { 0 = q }) p in
      rw (a, b, own known (own_known rs) c, own unknown (own_unknown rs) e, g, h, i) (sym (checked_right s rs r l))

-- where the rules refuse, as the code has it
pub rules_end : (s : List ℕ) (rs : List Row) (e : Refusal) → AllTo s rs (Err e) → Refused (reason_number e.reason) e.place ≡ checked s rs
rules_end s rs e h =
    ap (λ n. Refused n e.place) h.0 ∙ ap (Refused (ruled s rs rs).number) h.1 ∙ refused_rules s rs (λ z. numbered e.reason (h.0 ∙ z))

-- and where only a link fails
module _ (s : List ℕ) (rs : List Row) {rules : Ruled} {unknown : ℕ} {l : Result ℕ Refusal} {e : Refusal} (f : l ≡ Err e)
    (j : JudgedAll s rs rules (linked_told l) unknown) (z : rules.number ≡ 0) where
  fails : refused_links (reason_number e.reason) e.place ≡ linked s rs
  fails = links_refused (subst (λ x. JudgedAll s rs rules (linked_told x) unknown) f j) z (numbered e.reason)

  pub links_end : Refused (reason_number e.reason) e.place ≡ checked s rs
  links_end =
      ap (λ x. Refused x.number x.place) fails
      ∙ refused_links_lem s rs (ap (λ u. u.number) (sym j.rules_are) ∙ z) (λ y. numbered e.reason (ap (λ x. x.number) fails ∙ y))

  pub links_end_place : (n : ℕ) → Each (RowOk s n) rs → e.place ≤ length s
  links_end_place n h = omega (arith, ap (λ x. x.place) fails, links_place s rs n h)

-- and where none fails
pub links_full : (s : List ℕ) (rs : List Row) {rules : Ruled} {unknown : ℕ} {l : Result ℕ Refusal} {n : ℕ} → l ≡ Ok n → JudgedAll s rs rules (linked_told l) unknown
    → rules.number ≡ 0 → accepted_links n ≡ linked s rs
links_full s rs {rules} {unknown} f j z = links_accepted (subst (λ x. JudgedAll s rs rules (linked_told x) unknown) f j) z refl

-- of rows that pass with links that resolve, the rules have counted the links
pub links_number : (s : List ℕ) (rs : List Row) → (ruled s rs rs).number ≡ 0 → (linked s rs).number ≡ 0 → (ruled s rs rs).links ≡ (linked s rs).links
unfolding linked
links_number s rs r l = links_counted s rs 0 rs r ∙ omega (arith, (resolved_counts 0 (links_of s rs) l).0)

pub table_ok : (s t : List ℕ) (n : ℕ) → RowsOk s t n → Each (RowOk s n) (rows_at t 0 n)
table_ok s t n h = each_rows (RowOk s n) t 0 n (λ i b. (let z : i ≡ 0 + i = omega arith in subst (λ j. RowOk s n (row_at t j)) z (h i b)))

-- the Bones under each row of a table, counted for the first 1,024; under others there are none
pub bones_counted : (s t : List ℕ) (n : ℕ) → n ≤ 1024 → RowsOk s t n → (places : ℕ) → places ≡ 1024 → {bones : List ℕ}
    → bones ≡ counts_under (Some bone) (rows_at t 0 (min n 1024)) places → BonesCounted bones (rows_at t 0 n)
bones_counted s t n few ok places here {bones} e p =
    let past : 1024 ≤ p → (r : Row) → RowOk s n r → eqb r.kind bone ≡ true → r.parent ≡ p → ⊥
    = λ b r o k e. omega (arith, o.bone_parent (eqb-true r.kind bone k)) in
    let rows = rows_at t 0 (min n 1024) in
    by_test (ltb p 1024)
    (λ b.
    counts_tell (Some bone) rows places e p (omega (arith, ltb-true p 1024 b, here))
    ∙ ap (λ m. bones_under (rows_at t 0 m) p) (min-eq_left few))
    (λ b.
    let q = ltb-false p 1024 b in
    get_or-eq_default bones 0 (omega (arith, q, here, ap length e, counts_length (Some bone) rows 0 places))
    ∙ sym (counted_none (Some bone) (rows_at t 0 n) p (each_map (past q) (rows_at t 0 n) (table_ok s t n ok))))

-- ---- the reading
module _ (s t : List ℕ) where
  pub short_table : has_room t ≡ false → (Refused 1 0 ≡ reading_of s t) × (t ≡ table_after s t)
  unfolding reading_of table_after
  short_table h = (rw h, rw h)

  -- the walk's answer
  refused_by : (n : ℕ) (w : Walked) {a : Answer} → a ≡ refused_or n (refused_answer n w.at) (accepted_answer (length w.rows) (flags_of s)) → (a.number ≡ 0 → ⊥) → n ≡ w.number → (a.number ≡ w.number) × (a.place ≡ w.at)
  refused_by zero w e h m = absurd (h (ap (λ x. x.number) e))
  refused_by (suc n) w e h m = (ap (λ x. x.number) e ∙ m, ap (λ x. x.place) e)

  accepted_by : (n : ℕ) (w : Walked) {a : Answer} → a ≡ refused_or n (refused_answer n w.at) (accepted_answer (length w.rows) (flags_of s)) → a.number ≡ 0 → (n ≡ 0) × (a.nodes ≡ length w.rows) × (a.flags ≡ flags_of s)
  accepted_by zero w e h = (refl, ap (λ x. x.nodes) e, ap (λ x. x.flags) e)
  accepted_by (suc n) w e h = absurd (omega (arith, sym (ap (λ x. x.number) e) ∙ h))

  module _ {a : Answer} (e : a ≡ answer s) where
    pub walk_refused : (a.number ≡ 0 → ⊥) → (a.number ≡ (limited s).number) × (a.place ≡ (limited s).at)
    unfolding answer
    walk_refused h = refused_by (limited s).number (limited s) e h refl

    pub walk_accepted : a.number ≡ 0 → ((limited s).number ≡ 0) × (a.nodes ≡ length (limited s).rows) × (a.flags ≡ flags_of s)
    unfolding answer
    walk_accepted h = accepted_by (limited s).number (limited s) e h

  -- what is answered, and what is left in a table with room
  module _ (room : has_room t ≡ true) (few : length (limited s).rows ≤ 1024) where
    left : (r : Reading) → left_after r (length (limited s).rows) (put_rows t 0 (limited s).rows) ≡ table_left r (limited s).rows t
    left (Accepted a) = filled_from t (limited s).rows room few
    left (Refused n place) = cleared_put_rows t 0 (limited s).rows room (omega arith)

    pub checked_read : (limited s).number ≡ 0 → {r : Reading} → r ≡ checked s (limited s).rows → {u : List ℕ} → u ≡ put_rows t 0 (limited s).rows
        → (r ≡ reading_of s t) × (left_after r (length (limited s).rows) u ≡ table_after s t) × (r ≡ verdict s)
    unfolding reading_of table_after verdict
    checked_read h {r} e f = (rw (room, h) e, rw (room, h, ← e) (ap (left_after r (length (limited s).rows)) f ∙ left r), rw h e)
