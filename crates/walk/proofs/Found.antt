-- Nodes that were walked: a list of them is a forest, made of its first node and the others.
use Rattle.std.specs.Prelude.{Option, Some}
use Prim.Native.Nat.{ℕ, zero, suc, ◌+◌, ◌-◌, ◌≤◌, ◌<◌}
use native.Mathlib.Omega.{arith}
use mathlib.Core.Path.{◌≡◌, refl, ap, sym, ◌∙◌, subst}
use mathlib.Core.Bool.{true, false}
use mathlib.Core.List.{List, [], ◌∷◌, ◌++◌}
use lib.ListN.{length, take, drop, take-append-drop, length-drop}
use Rattle.le.specs.Le.{AreBytes}
use Rattle.le.proofs.Laws.{bytes_drop}
use Rattle.kinds.specs.Kinds.{is_known, may_stand}
use Rattle.format.specs.Forest.{Forest, end, known, unknown, count, nodes, encode, header}
use Rattle.format.specs.Rows.{node_row, rows}
use Rattle.format.specs.Layout.{GoodBody, Fits, WellFormed, Placed}
use Rattle.format.proofs.Rows.{length_rows, rows_unknown, rows_known}
use Rattle.walk.specs.Walk.{Walked, after_rows, node_at, children_at}
use Rattle.walk.proofs.Laws.{list_over, list_done, list_next, list_first}

-- ---- the nodes of a list, and the first of them
-- c nodes fill the bytes
pub record Nodes (parent : Option ℕ) (above c at row : ℕ) (bs : List ℕ) (w : Walked) : Type 0 where
  pub forest : Forest
  pub bytes : bs ≡ encode forest
  pub counted : count forest ≡ c
  pub well_formed : WellFormed forest
  pub placed : Placed parent forest
  pub few : row + nodes forest ≤ 1024
  pub reached : w.at ≡ at + length bs
  pub walked : w.rows ≡ rows forest above row at

-- one node is at their start, and any others may come next to it
pub record First (parent : Option ℕ) (above at row : ℕ) (bs : List ℕ) (w : Walked) : Type 0 where
  pub before : Forest → Forest
  pub size : ℕ
  pub fits : size ≤ length bs
  pub reached : w.at ≡ at + size
  pub few : row + length w.rows ≤ 1024
  pub bytes : (next : Forest) → take size bs ++ encode next ≡ encode (before next)
  pub counted : (next : Forest) → count (before next) ≡ suc (count next)
  pub well_formed : (next : Forest) → WellFormed next → WellFormed (before next)
  pub placed : (next : Forest) → Placed parent next → Placed parent (before next)
  pub numbered : (next : Forest) → nodes (before next) ≡ length w.rows + nodes next
  pub walked : (next : Forest) → w.rows ++ rows next above (row + length w.rows) w.at ≡ rows (before next) above row at

module _ (parent : Option ℕ) (above at row : ℕ) (bs : List ℕ) (k s h p c : ℕ) (stands : may_stand parent k ≡ true) (fits : Fits k s h p c)
    (within : s ≤ length bs) where
  pub unknown_first : (rest : List ℕ) → is_known k ≡ false → AreBytes rest → 24 + length rest ≡ s → row < 1024
      → ((x : List ℕ) → take s bs ++ x ≡ header k s h p c ++ (rest ++ x))
      → First parent above at row bs (record { number = 0; at = at + s; rows = node_row k h above (at + 24) (at + s) p c ∷ [] })
  unknown_first rest u y e f b =
      record {
        before = unknown k h p c rest;
        size = s;
        fits = within;
        reached = refl;
        few = omega arith;
        bytes = λ next. rw e (b (encode next));
        counted = λ next. refl;
        well_formed = λ next w. (u, subst (λ n. Fits k n h p c) (sym e) fits, y, w);
        placed = λ next w. (stands, w);
        numbered = λ next. omega arith;
        walked = λ next. rows_unknown k h p next above row at s c rest e;
      }

  pub known_first : (body : List ℕ) (kids : Forest) → is_known k ≡ true → AreBytes body → GoodBody p body → WellFormed kids → Placed (Some k) kids
      → count kids ≡ c → 24 + length body + length (encode kids) ≡ s → row + 1 + nodes kids ≤ 1024
      → ((x : List ℕ) → take s bs ++ x ≡ header k s h p c ++ (body ++ (encode kids ++ x)))
      → First parent above at row bs
      (record {
        number = 0;
        at = at + s;
        rows = node_row k h above (at + 24) (at + 24 + length body) p c ∷ rows kids row (suc row)
            (at + 24 + length body);
      })
  known_first body kids u y g w q n e f b =
      let number : length (rows kids row (suc row) (at + 24 + length body)) ≡ nodes kids = length_rows kids row (suc row) (at + 24 + length body) in
      record {
        before = known k h p body kids;
        size = s;
        fits = within;
        reached = refl;
        few = omega (arith, number);
        bytes = λ next. rw (e, n) (b (encode next));
        counted = λ next. refl;
        well_formed = λ next v. (u, subst (λ i. Fits k i h p (count kids)) (sym e) (subst (λ i. Fits k s h p i) (sym n) fits), y, g, w, v);
        placed = λ next v. (stands, q, v);
        numbered = λ next. omega (arith, number);
        walked = λ next. rw (← n) (rows_known k h p next above row at s body kids (suc row) refl e);
      }

-- ---- a list, from its first node and the rest
list_none : (parent : Option ℕ) (above depth at row : ℕ) (bs : List ℕ) → row ≤ 1024 → (children_at parent above depth 0 at row bs).number ≡ 0
    → Nodes parent above 0 at row bs (children_at parent above depth 0 at row bs)
list_none parent above depth at row [] r e =
    rw (list_done parent above depth at row [] (omega arith))
    (record { forest = end; bytes = refl; counted = refl; well_formed = tt; placed = tt; few = omega arith; reached = omega arith; walked = refl })
list_none parent above depth at row (b ∷ bs) r e =
    absurd (omega (arith, sym (ap (λ w. w.number) (list_over parent above depth at row (b ∷ bs) (omega arith))) ∙ e))

list_more : (parent : Option ℕ) (above c at row : ℕ) (bs : List ℕ) (v w : Walked) → (f : First parent above at row bs v)
    → Nodes parent above c v.at (row + length v.rows) (drop (v.at - at) bs) w → Nodes parent above (suc c) at row bs (after_rows v.rows w)
list_more parent above c at row bs v w f n =
    let taken : v.at - at ≡ f.size = omega (arith, f.reached) in
    record {
      forest = f.before n.forest;
      bytes = sym (take-append-drop f.size bs) ∙ ap (λ l. take f.size bs ++ l) (sym (ap (λ i. drop i bs) taken) ∙ n.bytes)
          ∙ f.bytes n.forest;
      counted = f.counted n.forest ∙ ap suc n.counted;
      well_formed = f.well_formed n.forest n.well_formed;
      placed = f.placed n.forest n.placed;
      few = omega (arith, n.few, f.numbered n.forest);
      reached = omega (arith, n.reached, f.reached, f.fits, length-drop (v.at - at) bs);
      walked = ap (λ l. v.rows ++ l) n.walked ∙ f.walked n.forest;
    }

-- a node that is walked is one
abbrev pub NodeSound : ℕ → Type 0
NodeSound n = (parent : Option ℕ) (above depth at row : ℕ) (bs : List ℕ) → length bs ≤ n → AreBytes bs
    → (node_at parent above depth at row bs).number ≡ 0 → First parent above at row bs (node_at parent above depth at row bs)

pub list_sound : (n : ℕ) → NodeSound n → (parent : Option ℕ) (above depth c at row : ℕ) (bs : List ℕ) → length bs ≤ n → AreBytes bs → row ≤ 1024
    → (children_at parent above depth c at row bs).number ≡ 0 → Nodes parent above c at row bs (children_at parent above depth c at row bs)
list_sound n one parent above depth zero at row bs l y r e = list_none parent above depth at row bs r e
list_sound n one parent above depth (suc c) at row bs l y r e =
    let v = node_at parent above depth at row bs in
    let zero-first : v.number ≡ 0 = list_first parent above depth at row bs c e in
    let all = list_next parent above depth at row bs c {w = v} refl zero-first in
    let first = one parent above depth at row bs l y zero-first in
    let others = list_sound n one parent above depth c v.at (row + length v.rows) (drop (v.at - at) bs)
    (omega (arith, l, length-drop (v.at - at) bs)) (bytes_drop (v.at - at) bs y) first.few (sym (ap (λ w. w.number) all) ∙ e) in
    rw all (list_more parent above c at row bs v _ first others)
