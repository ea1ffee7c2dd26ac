-- What a walk promises, built up: one that ends where it stands, a row, one walk after another, and the loop over a given number of
-- nodes.
use Rattle.std.specs.Prelude.{Option, Result, Ok, Err}
use Prim.Native.Nat.{ℕ, suc, ◌+◌, ◌-◌, ◌<◌, ◌≤◌}
use native.Mathlib.Omega.{arith}
use native.Mathlib.Nat.{add-zero}
use mathlib.Core.Path.{◌≡◌, refl, sym, ap, ◌∙◌}
use mathlib.Core.List.{List, [], ◌∷◌, ◌++◌, append_assoc}
use lib.ListN.{length, drop, length-append, length-drop}
use lib.Seq.{drop-drop}
use lib.Dec.{ltb}
use borrow.Author.Tests.{ltb-true, ltb-false}
use Rattle.base.specs.declared.Refusal.{Refusal}
use Rattle.base.proofs.Tests.{by_test}
use Rattle.table.specs.declared.Row.{Row}
use Rattle.table.specs.Table.{with_row, put_rows}
use Rattle.table.proofs.Rows.{put_rows_append}
use Rattle.walk.specs.declared.Reached.{Reached as CodeReached}
use Rattle.walk.specs.Private.{Reached}
use Rattle.walk.specs.Walk.{Walked, refused_walk, walked_to, after_rows, node_at, children_at}
use Rattle.walk.specs.Private.{left_over, reached_told, Came, CameTo}
use Rattle.walk.proofs.Laws.{list_over, list_done, list_refused, list_next}

-- it ends with no row of its own
pub stops : {n p at row : ℕ} {bs t : List ℕ} {w : Walked} → w ≡ refused_walk n p → row ≤ 1024 → at ≤ p → p ≤ at + length bs
    → Came (record { number = n; at = p; rows = row }) w at row bs t t
unfolding put_rows
stops e few onward within = rw e record {
  number = refl;
  reached = refl;
  rows = sym (add-zero _);
  table = refl;
  few = few;
  onward = onward;
  within = within;
}

-- the rows of a walk that is refused are given
pub lost : {n p rows at row : ℕ} {bs t t' : List ℕ} {w : Walked} → Came (record { number = n; at = p; rows = rows }) w at row bs t t'
    → Came (record { number = n; at = p; rows = row + length w.rows }) w at row bs t t'
lost c = record {
  number = c.number;
  reached = c.reached;
  rows = refl;
  table = c.table;
  few = omega (arith, c.few, c.rows);
  onward = c.onward;
  within = c.within;
}

pub came_to : (r : Result CodeReached Refusal) (n : ℕ) {at row : ℕ} {bs t t' : List ℕ} {w : Walked} → Came (reached_told r n) w at row bs t t' → CameTo r w at row bs t t'
came_to (Ok r) n c = c
came_to (Err r) n c = lost c

-- a row, and then it stands at p
pub puts : {p at row : ℕ} {bs t t' : List ℕ} {r : Row} → t' ≡ with_row t row r → row < 1024 → at ≤ p → p ≤ at + length bs
    → Came (record { number = 0; at = p; rows = row + 1 }) (after_rows (r ∷ []) (walked_to p)) at row bs t t'
unfolding put_rows
puts e few onward within = record {
  number = refl;
  reached = refl;
  rows = refl;
  table = e;
  few = omega arith;
  onward = onward;
  within = within;
}

-- one walk, and another after it
pub then : {q r : Reached} {v w : Walked} {at row : ℕ} {bs cs t u t' : List ℕ} → Came q v at row bs t u → Came r w q.at q.rows cs u t'
    → q.at + length cs ≤ at + length bs → Came r (after_rows v.rows w) at row bs t t'
then {q} {r} {v} {w} {at} {row} {bs} {cs} {t} {u} {t'} first second fit = record {
  number = second.number;
  reached = second.reached;
  rows = simp length-append (omega (arith, first.rows, second.rows));
  table = rw (put_rows_append t row v.rows w.rows, ← first.rows, ← first.table) second.table;
  few = second.few;
  onward = omega (arith, first.onward, second.onward);
  within = omega (arith, second.within);
}

-- no node is left to walk
pub none_left : (parent : Option ℕ) (above depth : ℕ) {at row n : ℕ} {bs t : List ℕ} → n ≡ left_over (length bs) → row ≤ 1024
    → Came (record { number = n; at = at; rows = row }) (children_at parent above depth 0 at row bs) at row bs t t
none_left parent above depth {at} {row} {n} {bs} e few =
    rw e (by_test (ltb 0 (length bs))
    (λ q. rw q (stops (list_over parent above depth at row bs (ltb-true _ _ q)) few (omega arith) (omega arith)))
    (λ q. rw q (stops (list_done parent above depth at row bs (ltb-false _ _ q)) few (omega arith) (omega arith))))

-- where the loop over `count` nodes from a place on stands: the rows put, and what is left
pub record Going (parent : Option ℕ) (above depth count start row : ℕ) (bytes t u : List ℕ) (at rows left : ℕ) : Type 0 where
  pub put : List Row
  pub came : Came (record { number = 0; at = at; rows = rows }) (record { number = 0; at = at; rows = put }) start row (drop start bytes) t u
  pub whole : children_at parent above depth count start row (drop start bytes) ≡ after_rows put (children_at parent above depth left at rows (drop at bytes))

-- the loop starts with all of them left
pub going : {parent : Option ℕ} {above depth count start row left : ℕ} {bytes t : List ℕ} → left ≡ count → row ≤ 1024
    → Going parent above depth count start row bytes t t start row left
going all few = record { put = []; came = stops refl few (omega arith) (omega arith); whole = rw all }

module _ {parent : Option ℕ} {above depth count start row : ℕ} {bytes t u : List ℕ} {at rows left : ℕ} (g : Going parent above depth count start row bytes t u at rows left) where
  -- a walk from where the loop stands
  from : {r : Reached} {w : Walked} {t' : List ℕ} → Came r w at rows (drop at bytes) u t' → Came r (after_rows g.put w) start row (drop start bytes) t t'
  from c = then g.came c (omega (arith, g.came.within, length-drop start bytes, length-drop at bytes))

  -- none is left
  pub all_walked : left ≤ 0 → {n : ℕ} → n ≡ left_over (length bytes - at)
      → Came (record { number = n; at = at; rows = rows }) (children_at parent above depth count start row (drop start bytes)) start row (drop start bytes) t u
  all_walked none e =
      let zero : left ≡ 0 = omega arith in
      rw (g.whole, zero) (from (none_left parent above depth (e ∙ ap left_over (sym (length-drop at bytes))) g.came.few))

  -- a node is walked, and there are others
  module _ {r : Reached} {t' : List ℕ} {others : ℕ} (next : left ≡ suc others) (c : Came r (node_at parent above depth at rows (drop at bytes)) at rows (drop at bytes) u t') where
    pub turn_refused : (r.number ≡ 0 → ⊥) → Came r (children_at parent above depth count start row (drop start bytes)) start row (drop start bytes) t t'
    turn_refused z =
        rw (g.whole, next, list_refused parent above depth at rows (drop at bytes) others (λ e. z (c.number ∙ e))) (from c)

    pub turn : r.number ≡ 0 → Going parent above depth count start row bytes t t' r.at r.rows others
    turn z =
        let w = node_at parent above depth at rows (drop at bytes) in
        let all = from c in
        let sum : at + (r.at - at) ≡ r.at = omega (arith, c.onward) in
        record {
          put = g.put ++ w.rows;
          came = record { number = refl; reached = refl; rows = all.rows; table = all.table; few = all.few; onward = all.onward; within = all.within };
          whole =
              g.whole
              ∙ ap (λ k. after_rows g.put (children_at parent above depth k at rows (drop at bytes))) next
              ∙ ap (after_rows g.put) (list_next parent above depth at rows (drop at bytes) others refl (sym c.number ∙ z))
              ∙ rw (← c.reached, ← c.rows, drop-drop (r.at - at) at bytes, sum, append_assoc);
        }
