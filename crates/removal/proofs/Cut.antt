-- The first file's bytes without those of marked nodes are its pieces, one after the other.
use Prim.Native.Nat.{ℕ, suc, ◌+◌, ◌-◌, ◌≤◌, ◌<◌}
use native.Mathlib.Omega.{arith}
use mathlib.Core.Path.{◌≡◌, refl, ap, sym, ◌∙◌}
use mathlib.Core.Bool.{Bool, true, false, cond, and-true, and-false, or-false}
use mathlib.Core.List.{List, [], ◌∷◌, ◌++◌, append_assoc, flat_map}
use lib.Dec.{leb}
use lib.ListN.{length, take, drop, length-append, length-drop, take-append-drop, drop_of_length-le}
use lib.Seq.{length-take-le}
use borrow.Author.Tests.{lt-ltb, le-ltb, le-leb, lt-leb}
use Rattle.le.proofs.Laws.{part_front}
use Rattle.table.specs.declared.Row.{Row}
use Rattle.format.specs.Forest.{Forest, end, known, unknown, nodes, encode}
use Rattle.format.specs.Rows.{rows, body_of}
use Rattle.format.proofs.Headers.{length_header}
use Rattle.removal.specs.Tally.{header_in}
use Rattle.removal.specs.Left.{unmarked_of, in_marked, bytes_from, bytes_left}
use Rattle.removal.proofs.Differ.{pieces}

-- rows whose nodes lie one after the other, from a place to another
abbrev pub Tiles : (from : ℕ) → List Row → (to : ℕ) → Type 0
Tiles from [] to = from ≡ to
Tiles from (r ∷ rs) to = (r.start ≡ from + 24) × (r.start ≤ r.end) × Tiles r.end rs to

tiles_append : (a b c : ℕ) (xs ys : List Row) → Tiles a xs b → Tiles b ys c → Tiles a (xs ++ ys) c
tiles_append a b c [] ys t u = rw t u
tiles_append a b c (x ∷ xs) ys t u = (t.0, t.1, tiles_append x.end b c xs ys t.2 u)

tiles_le : (a b : ℕ) (rs : List Row) → Tiles a rs b → a ≤ b
tiles_le a b [] t = omega arith
tiles_le a b (r ∷ rs) t = omega (arith, tiles_le r.end b rs t.2)

pub rows_tile : (f : Forest) (parent row at : ℕ) → Tiles at (rows f parent row at) (at + length (encode f))
rows_tile end parent row at = omega arith
rows_tile (known k h p body kids next) parent row at =
    let here : ℕ = at + 24 + length body in
    let there : ℕ = here + length (encode kids) in
    let size : at + length (encode (known k h p body kids next)) ≡ there + length (encode next) = simp (length-append, length_header) (omega arith) in
    let below = rows_tile kids row (suc row) here in
    let beside = rows_tile next parent (suc row + nodes kids) there in
    rw size (refl, omega arith, tiles_append here there (there + length (encode next)) (rows kids _ _ _) (rows next _ _ _) below beside)
rows_tile (unknown k h p c rest next) parent row at =
    let there : ℕ = at + 24 + length rest in
    let size : at + length (encode (unknown k h p c rest next)) ≡ there + length (encode next) = simp (length-append, length_header) (omega arith) in
    rw size (refl, omega arith, rows_tile next parent (suc row) there)

-- ---- which places lie in marked nodes

-- none before the first node
before : (a b : ℕ) (rs : List Row) (ms : List Bool) → Tiles a rs b → (p : ℕ) → p < a → in_marked rs ms p ≡ false
unfolding in_marked
before a b [] ms t p l = refl
before a b (r ∷ rs) [] t p l = refl
before a b (r ∷ rs) (mark ∷ ms) t p l =
    rw (lt-leb r.start (p + 24) (omega arith), and-false mark) (before r.end b rs ms t.2 p (omega arith))

module _ (r : Row) (rs : List Row) (mark : Bool) (ms : List Bool) (p : ℕ) where
  -- all of the first node, if it is marked
  within : (a b : ℕ) → Tiles a (r ∷ rs) b → a ≤ p → p < r.end → in_marked (r ∷ rs) (mark ∷ ms) p ≡ mark
  unfolding in_marked
  within a b t l u =
      rw (le-leb r.start (p + 24) (omega arith), lt-ltb p r.end u, and-true mark, before r.end b rs ms t.2 p u) (or-false mark)

  -- after it, those of the others
  past_it : r.end ≤ p → in_marked (r ∷ rs) (mark ∷ ms) p ≡ in_marked rs ms p
  unfolding in_marked
  past_it l = rw (le-ltb p r.end l, and-false (leb r.start (p + 24)), and-false mark)

-- ---- the bytes that are left

-- header and body of a row, and the bytes after them
module _ (s : List ℕ) (r : Row) (at : ℕ) (e : r.start ≡ at + 24) (l : r.start ≤ r.end) where
  node_front : (header_in s r ++ body_of s r) ++ drop r.end s ≡ drop at s
  node_front =
      let f : r.start - 24 ≡ at = omega arith in
      rw (append_assoc, part_front (r.end - r.start) s r.start r.end (omega arith), f) (part_front 24 s at r.start (sym e))

  node_length : r.end ≤ length s → at + length (header_in s r ++ body_of s r) ≡ r.end
  node_length k = simp length-append (omega (arith, simp (length-append, length-drop) at (ap length node_front)))

module _ (all : List Row) (marked : List Bool) where
  -- of places that all lie in marked nodes, or all in none
  run : (at next : ℕ) (xs ys : List ℕ) (z : Bool) → at + length xs ≡ next → ((p : ℕ) → at ≤ p → p < next → in_marked all marked p ≡ z)
      → bytes_from all marked at (xs ++ ys) ≡ cond z [] xs ++ bytes_from all marked next ys
  unfolding bytes_from
  run at next [] ys true e h = let f : at ≡ next = omega arith in rw f
  run at next [] ys false e h = let f : at ≡ next = omega arith in rw f
  run at next (x ∷ xs) ys true e h =
      rw (h at (omega arith) (omega arith)) (run (suc at) next xs ys true (omega arith) (λ p l u. h p (omega arith) u))
  run at next (x ∷ xs) ys false e h =
      rw (h at (omega arith) (omega arith)) (ap (λ l. x ∷ l) (run (suc at) next xs ys false (omega arith) (λ p l u. h p (omega arith) u)))

  -- from the node of a row on, at and after which the marked nodes are those of the rows from it on
  along : (s : List ℕ) (at : ℕ) (rs : List Row) (ms : List Bool) → Tiles at rs (length s) → length rs ≡ length ms
      → ((p : ℕ) → at ≤ p → in_marked all marked p ≡ in_marked rs ms p)
      → bytes_from all marked at (drop at s) ≡ flat_map (λ r. header_in s r ++ body_of s r) (unmarked_of rs ms)
  unfolding bytes_from unmarked_of flat_map
  along s at [] ms t l h = rw (drop_of_length-le s {i = at} (omega arith))
  along s at (r ∷ rs) [] t l h = absurd (omega arith)
  along s at (r ∷ rs) (mark ∷ ms) t l h =
      let long = node_length s r at t.0 t.1 (tiles_le r.end (length s) rs t.2) in
      rw (← (node_front s r at t.0 t.1))
      (run at r.end (header_in s r ++ body_of s r) (drop r.end s) mark long (λ p k u. h p k ∙ within r rs mark ms p at (length s) t k u)
      ∙ joined mark (along s r.end rs ms t.2 (omega arith) (λ p k. h p (omega arith) ∙ past_it r rs mark ms p k)))
    where
      joined : (mark : Bool) {rest : List ℕ} → rest ≡ flat_map (λ r. header_in s r ++ body_of s r) (unmarked_of rs ms)
          → cond mark [] (header_in s r ++ body_of s r) ++ rest ≡ flat_map (λ r. header_in s r ++ body_of s r) (unmarked_of (r ∷ rs) (mark ∷ ms))
      joined true e = e
      joined false e = ap (λ l. (header_in s r ++ body_of s r) ++ l) e

pub cut : (s : List ℕ) (rs : List Row) (marks : List Bool) → Tiles 16 rs (length s) → length rs ≡ length marks
    → bytes_left s rs marks ≡ pieces s rs marks
cut s rs marks t l =
    let long : length (take 16 s) ≡ 16 = length-take-le 16 s (tiles_le 16 (length s) rs t) in
    ap (bytes_from rs marks 0) (sym (take-append-drop 16 s))
    ∙ run rs marks 0 16 (take 16 s) (drop 16 s) false (omega arith) (λ p k u. before 16 (length s) rs marks t p u)
    ∙ ap (λ rest. take 16 s ++ rest) (along rs marks s 16 rs marks t l (λ p k. refl))
