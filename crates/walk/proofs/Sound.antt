-- Sound: what is walked without a refusal is the encoding of a well-formed forest.
use Rattle.std.specs.Prelude.{Option, Some, None}
use Prim.Native.Nat.{ℕ, zero, suc, ◌+◌, ◌-◌, ◌^◌, ◌≤◌, ◌<◌}
use native.Mathlib.Omega.{arith}
use native.Mathlib.Nat.{min-eq_left}
use mathlib.Core.Path.{◌≡◌, refl, ap, sym, ◌∙◌, subst}
use mathlib.Core.Bool.{Bool, true, false, cond, not, and-eq-true_iff}
use mathlib.Core.List.{List, [], ◌∷◌, ◌++◌, append_assoc}
use lib.Dec.{leb, eqb}
use lib.ListN.{length, take, drop, take-append-drop, length-take, length-drop, length-append}
use lib.Seq.{take-append-add}
use borrow.Author.Tests.{eqb-true}
use Rattle.le.specs.Le.{number_at, AreBytes}
use Rattle.le.proofs.Laws.{bytes_take, bytes_drop, number_at_lt, number_at_short, number_at_high}
use Rattle.base.proofs.Tests.{by_test}
use Rattle.kinds.specs.Kinds.{is_known}
use Rattle.table.specs.declared.Row.{Row}
use Rattle.table.specs.Table.{no_parent}
use Rattle.body.specs.Body.{properties}
use Rattle.format.specs.Forest.{encode, header, file_header, file_of}
use Rattle.format.specs.Rows.{node_row, rows}
use Rattle.format.specs.Layout.{Fits}
use Rattle.format.proofs.Headers.{length_header, header_of_lem, header_fits, file_header_of}
use Rattle.format.proofs.Bodies.{body_sound}
use Rattle.body.proofs.Places.{properties_end}
use Rattle.walk.specs.declared.Header.{Header}
use Rattle.walk.specs.Walk.{Walked, refused_walk, after_rows, inside, node_at, children_at, header_at, node_refusal, row_of_header, is_cast, walk_of}
use Rattle.walk.specs.Statements.{Sound}
use Rattle.walk.proofs.Laws.{node_refused, node_unknown, node_bad, node_passed}
use Rattle.walk.proofs.Cases.{Right, passes}
use Rattle.walk.proofs.Nodes.{length_inside}
use Rattle.walk.proofs.Whole.{header_there}
use Rattle.walk.proofs.Found.{Nodes, First, unknown_first, known_first, NodeSound, list_sound}

-- ---- a node
module _ (parent : Option ℕ) (above depth at row : ℕ) (bs : List ℕ) where
  header_right : (n : ℕ) → node_refusal (header_at bs) (length bs) parent row depth ≡ n → (node_at parent above depth at row bs).number ≡ 0 → n ≡ 0
  header_right zero e z = refl
  header_right (suc n) e z =
      absurd (omega (arith, sym (ap (λ w. w.number) (node_refused parent above depth at row bs refl e (λ h. omega (arith, h)))) ∙ z))

-- the node's header, as written
module _ (bs : List ℕ) (y : AreBytes bs) where
  row_of : (above start stop : ℕ) → row_of_header (header_at bs) above start stop
      ≡ node_row (header_at bs).kind (number_at 8 bs 8) above start stop (header_at bs).properties (header_at bs).children
  unfolding header_at
  row_of above start stop = rw (number_at_short 4 4 bs 8 y, number_at_high 4 4 bs 8 y)

  module _ (room : 24 ≤ length bs) where
    of_widths : Fits (header_at bs).kind (header_at bs).size (number_at 8 bs 8) (header_at bs).properties (header_at bs).children
    unfolding header_at
    of_widths = header_fits bs y room

    -- what a node takes is its header and what follows it up to its end
    as_written : (n : ℕ) → 24 ≤ n → (x : List ℕ)
        → take n bs ++ x ≡ header (header_at bs).kind (header_at bs).size (number_at 8 bs 8) (header_at bs).properties (header_at bs).children ++
        (take (n - 24) (drop 24 bs) ++ x)
    unfolding header_at
    as_written n h x =
        let a = header (number_at 4 bs 0) (number_at 4 bs 4) (number_at 8 bs 8) (number_at 4 bs 16) (number_at 4 bs 20) in
        let sum : length a + (n - 24) ≡ n = omega
        (arith, length_header (number_at 4 bs 0) (number_at 4 bs 4) (number_at 8 bs 8) (number_at 4 bs 16) (number_at 4 bs 20)) in
        ap (λ l. take n l ++ x) (sym (header_of_lem bs y room))
        ∙ ap (λ k. take k (a ++ drop 24 bs) ++ x) (sym sum)
        ∙ ap (λ l. l ++ x) (take-append-add a (drop 24 bs) (n - 24))
        ∙ append_assoc a (take (n - 24) (drop 24 bs)) x

walked_is : (r q : Row) (w : Walked) (to : ℕ) (qs : List Row) → r ≡ q → w.number ≡ 0 → w.at ≡ to → w.rows ≡ qs
    → record { number = 0; at = to; rows = q ∷ qs } ≡ after_rows (r ∷ []) w
walked_is r q w to qs e n a s = sym (rw (e, n, a, s))

module _ (parent : Option ℕ) (above depth at row : ℕ) (bs : List ℕ) (y : AreBytes bs) (e : node_refusal (header_at bs) (length bs) parent row depth ≡ 0)
  where
    abbrev h : Header
    h = header_at bs

    abbrev hash : ℕ
    hash = number_at 8 bs 8

    abbrev x : List ℕ
    x = inside h bs

    r : Right h (length bs) parent row
    r = passes h (length bs) parent row depth e

    room : 24 ≤ length bs
    room = omega (arith, r.own, r.within)

    rest_size : 24 + length x ≡ h.size
    rest_size = omega (arith, length_inside h bs r.within, r.own)

    unknown_sound : is_known h.kind ≡ false → First parent above at row bs (node_at parent above depth at row bs)
    unknown_sound u =
        let first = unknown_first parent above at row bs h.kind h.size hash h.properties h.children r.stands (of_widths bs y room)
        r.within x u (bytes_take (h.size - 24) (drop 24 bs) (bytes_drop 24 bs y)) rest_size r.few (as_written bs y room h.size r.own)
        in
        rw (node_unknown parent above depth at row bs refl e u, row_of bs y above (at + 24) (at + h.size)) first

    body_right : is_known h.kind ≡ true → (n : ℕ) → (properties x h.properties).number ≡ n → (node_at parent above depth at row bs).number ≡ 0 → n ≡ 0
    body_right u zero p z = refl
    body_right u (suc n) p z =
        absurd (omega (arith, sym (ap (λ w. w.number) (node_bad parent above depth at row bs refl e u p (λ i. omega (arith, i)))) ∙ z))

    module _ (u : is_known h.kind ≡ true) (pass : (properties x h.properties).number ≡ 0) where
      abbrev to : ℕ
      to = (properties x h.properties).at

      abbrev w : Walked
      w = children_at (Some h.kind) row (depth + 1) h.children (at + 24 + to) (row + 1) (drop to x)

      is : node_at parent above depth at row bs ≡ after_rows (row_of_header h above (at + 24) (at + 24 + to) ∷ []) w
      is = node_passed parent above depth at row bs refl e u pass

      known_sound : w.number ≡ 0 → Nodes (Some h.kind) row h.children (at + 24 + to) (row + 1) (drop to x) w
          → First parent above at row bs (node_at parent above depth at row bs)
      known_sound z kids =
          let body = take to x in
          let long : length body ≡ to = length-take to x ∙ min-eq_left (properties_end x h.properties) in
          let halves : body ++ encode kids.forest ≡ x = ap (λ l. body ++ l) (sym kids.bytes) ∙ take-append-drop to x in
          let size : 24 + length body + length (encode kids.forest) ≡ h.size
          = omega (arith, rest_size, ap length halves, length-append body (encode kids.forest)) in
          let bytes : AreBytes x = bytes_take (h.size - 24) (drop 24 bs) (bytes_drop 24 bs y) in
          let first =
          known_first parent above at row bs h.kind h.size hash h.properties h.children r.stands (of_widths bs y room) r.within
          body kids.forest u (bytes_take to x bytes) (body_sound x h.properties bytes pass) kids.well_formed kids.placed
          kids.counted size kids.few
          (λ l. as_written bs y room h.size r.own l
          ∙ ap (λ m. header h.kind h.size hash h.properties h.children ++ m)
          (ap (λ m. m ++ l) (sym halves) ∙ append_assoc body (encode kids.forest) l)) in
          let same : row_of_header h above (at + 24) (at + 24 + to)
          ≡ node_row h.kind hash above (at + 24) (at + 24 + length body) h.properties h.children
          = row_of bs y above (at + 24) (at + 24 + to)
          ∙ ap (λ n. node_row h.kind hash above (at + 24) (at + 24 + n) h.properties h.children) (sym long) in
          let next : row + 1 ≡ suc row = omega arith in
          let below : w.rows ≡ rows kids.forest row (suc row) (at + 24 + length body)
          = kids.walked ∙ ap (λ i. rows kids.forest row i (at + 24 + to)) next
          ∙ ap (λ n. rows kids.forest row (suc row) (at + 24 + n)) (sym long) in
          let reached : w.at ≡ at + h.size = omega (arith, kids.reached, length-drop to x, rest_size, properties_end x h.properties) in
          subst (First parent above at row bs) (walked_is _ _ w (at + h.size) _ same z reached below ∙ sym is) first

    known_node : (n : ℕ) → NodeSound n → length bs ≤ suc n → is_known h.kind ≡ true → (node_at parent above depth at row bs).number ≡ 0
        → First parent above at row bs (node_at parent above depth at row bs)
    known_node n one l u z =
        let number : (properties x h.properties).number ≡ 0 = body_right u (properties x h.properties).number refl z in
        let done : (w u number).number ≡ 0 = sym (ap (λ v. v.number) (is u number)) ∙ z in
        known_sound u number done
        (list_sound n one (Some h.kind) row (depth + 1) h.children (at + 24 + to u number) (row + 1) (drop (to u number) x)
        (omega (arith, l, room, length-drop (to u number) x, rest_size, r.within))
        (bytes_drop (to u number) x (bytes_take (h.size - 24) (drop 24 bs) (bytes_drop 24 bs y))) (omega (arith, r.few)) done)

header_zero : (parent : Option ℕ) (above depth at row : ℕ) (bs : List ℕ) → (node_at parent above depth at row bs).number ≡ 0
    → node_refusal (header_at bs) (length bs) parent row depth ≡ 0
header_zero parent above depth at row bs z = header_right parent above depth at row bs (node_refusal (header_at bs) (length bs) parent row depth) refl z

node_sound : (n : ℕ) → NodeSound n
node_sound zero parent above depth at row bs l y z =
    absurd (omega (arith, l, room parent above depth at row bs y (header_zero parent above depth at row bs z)))
node_sound (suc n) parent above depth at row bs l y z =
    let right-header = header_zero parent above depth at row bs z in
    by_test (is_known (header_at bs).kind)
    (λ u. known_node parent above depth at row bs y right-header n (node_sound n) l u z)
    (unknown_sound parent above depth at row bs y right-header)

-- ---- the file
file_right : (a b : Bool) (w : Walked) → (cond (not a) (refused_walk 3 0) (cond (not b) (refused_walk 4 4) w)).number ≡ 0 → (a ≡ true) × (b ≡ true)
file_right true true w e = (refl, refl)
file_right true false w e = absurd (omega (arith, e))
file_right false b w e = absurd (omega (arith, e))

pub sound : Sound
unfolding walk_of file_of
sound s y e =
    let roots = number_at 4 s 8 in
    let w = children_at None no_parent 1 roots 16 0 (drop 16 s) in
    let right-file = file_right (is_cast s) (eqb (number_at 4 s 4) 1) w e in
    let cast = (and-eq-true_iff (leb 16 (length s)) (eqb (number_at 4 s 0) 0x74736163)).0 right-file.0 in
    let room : 16 ≤ length s = header_there s right-file.0 in
    let walk : walk_of s ≡ w = rw (right-file.0, right-file.1) in
    let all = list_sound (length s) (node_sound (length s)) None no_parent 1 roots 16 0 (drop 16 s) (omega (arith, length-drop 16 s))
    (bytes_drop 16 s y) (omega arith) (sym (ap (λ v. v.number) walk) ∙ e) in
    record {
      forest = all.forest;
      holds = record {
        well_formed = (number_at_lt 4 s 12 y, subst (λ n. n < 256 ^ 4) (sym all.counted) (number_at_lt 4 s 8 y), all.well_formed);
        placed = all.placed;
        few = omega (arith, all.few);
        bytes = sym (file_header_of s y room (eqb-true (number_at 4 s 0) 0x74736163 cast.1) (eqb-true (number_at 4 s 4) 1 right-file.1))
            ∙ ap (λ l. file_header roots (number_at 4 s 12) ++ l) all.bytes
            ∙ ap (λ n. file_header n (number_at 4 s 12) ++ encode all.forest) (sym all.counted);
      };
      rows = ap (λ v. v.rows) walk ∙ all.walked;
    }
