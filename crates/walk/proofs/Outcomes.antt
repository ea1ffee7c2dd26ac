-- What the bytes of a well-formed list of nodes walk to: the list, or a refusal for its kinds or number.
use Rattle.std.specs.Prelude.{Option, Some, None}
use Prim.Native.Nat.{ℕ, suc, ◌+◌, ◌-◌, ◌/◌, ◌%◌, ◌^◌, ◌≤◌, ◌<◌}
use native.Mathlib.Omega.{arith}
use mathlib.Core.Path.{◌≡◌, refl, ap, sym, ◌∙◌}
use mathlib.Core.Logic.{◌⊎◌, inl, inr}
use mathlib.Core.Bool.{true, false, cond, not, true≢false}
use mathlib.Core.List.{List, ◌++◌}
use lib.Dec.{leb}
use lib.ListN.{length, drop}
use borrow.Author.Tests.{leb-true, leb-false, le-ltb}
use Rattle.base.proofs.Tests.{by_test}
use Rattle.kinds.specs.Kinds.{is_known, may_stand}
use Rattle.kinds.proofs.Levels.{level, level_bounds, deeper}
use Rattle.table.specs.declared.Row.{Row}
use Rattle.format.specs.Forest.{Forest, count, nodes, encode, header}
use Rattle.format.specs.Rows.{rows}
use Rattle.format.specs.Layout.{Placed, Fits}
use Rattle.format.proofs.Headers.{header_kind, header_size, header_low, header_high, header_properties, header_children}
use Rattle.walk.specs.declared.Header.{Header}
use Rattle.walk.specs.Walk.{Walked, after_rows, node_at, children_at, header_at, node_refusal, too_many}
use Rattle.walk.proofs.Laws.{node_refused, list_next, list_refused}

-- ---- how deep the rule of kinds lets a child lie
abbrev pub Shallow : Option ℕ → ℕ → Type 0
Shallow None depth = depth ≤ 1
Shallow (Some p) depth = depth ≤ level p + 1

pub shallow_most : (parent : Option ℕ) (depth : ℕ) → Shallow parent depth → depth ≤ 8
shallow_most None depth h = omega (arith, h)
shallow_most (Some p) depth h = omega (arith, h, (level_bounds p).1)

pub shallow_below : (parent : Option ℕ) (k depth : ℕ) → is_known k ≡ true → may_stand parent k ≡ true → Shallow parent depth
    → Shallow (Some k) (depth + 1)
unfolding may_stand
shallow_below None k depth n e h = omega (arith, h, (level_bounds k).0)
shallow_below (Some p) k depth n e h = omega (arith, h, deeper p k n e)

-- ---- a well-formed header is refused for its kind or its row
abbrev pub headed : ℕ → ℕ → ℕ → ℕ → ℕ → Header
headed k s h p c = record { kind = k; size = s; low = h % 256 ^ 4; high = h / 256 ^ 4; properties = p; children = c }

pub header_at_lem : (k s h p c : ℕ) (rest : List ℕ) → Fits k s h p c → header_at (header k s h p c ++ rest) ≡ headed k s h p c
unfolding header_at
header_at_lem k s h p c rest f =
    rw (
      header_kind k s h p c rest f,
      header_size k s h p c rest f,
      header_low k s h p c rest f,
      header_high k s h p c rest f,
      header_properties k s h p c rest f,
      header_children k s h p c rest f,
    )

pub verdict : (h : Header) (room : ℕ) (parent : Option ℕ) (row depth : ℕ) → 24 ≤ h.size → h.size ≤ room → depth ≤ 8
    → too_many h.kind h.properties ≡ false
    → node_refusal h room parent row depth ≡ cond (not (may_stand parent h.kind)) 6 (cond (leb 1024 row) 7 0)
unfolding node_refusal
verdict h room parent row depth own within deep few =
    rw (le-ltb room 24 (omega arith), le-ltb h.size 24 own, le-ltb room h.size within, le-ltb 8 depth deep, few)

-- ---- what comes of a list of nodes: all of it, or a refusal for kinds or number
abbrev pub whole : Forest → ℕ → ℕ → ℕ → Walked
whole f above row at = record { number = 0; at = at + length (encode f); rows = rows f above row at }

pub record Whole (parent : Option ℕ) (above at row : ℕ) (f : Forest) (w : Walked) : Type 0 where
  pub is : w ≡ whole f above row at
  pub placed : Placed parent f
  pub few : row + nodes f ≤ 1024

-- a refusal for a kind, or for the number of nodes
abbrev pub Bars : (many number : ℕ) → Type 0
Bars many n = (n ≡ 6) ⊎ ((n ≡ 7) × (1024 < many))

pub bars_more : (many more n : ℕ) → many ≤ more → Bars many n → Bars more n
bars_more many more n h (inl e) = inl e
bars_more many more n h (inr e) = inr (e.0, omega (arith, e.1))

pub record Barred (parent : Option ℕ) (row : ℕ) (f : Forest) (w : Walked) : Type 0 where
  pub number : Bars (row + nodes f) w.number
  pub barred : Placed parent f → row + nodes f ≤ 1024 → ⊥

abbrev pub Outcome : Option ℕ → ℕ → ℕ → ℕ → Forest → Walked → Type 0
Outcome parent above at row f w = Whole parent above at row f w ⊎ Barred parent row f w

-- which is a refusal
pub told : (many n : ℕ) → Bars many n → n ≡ 0 → ⊥
told many n (inl e) z = omega (arith, e, z)
told many n (inr e) z = omega (arith, e.0, z)

-- the first node of a list is refused, and with it the list
module _ (parent : Option ℕ) (above depth at row : ℕ) (bs : List ℕ) (f : Forest) (c : ℕ) where
  pub list_barred : Bars (row + nodes f) (node_at parent above depth at row bs).number
      → (Placed parent f → row + nodes f ≤ 1024 → ⊥) → Outcome parent above at row f (children_at parent above depth (suc c) at row bs)
  list_barred n b =
      rw (list_refused parent above depth at row bs c (told (row + nodes f) (node_at parent above depth at row bs).number n))
      (inr (record { number = n; barred = b }))

-- the first node is done, and the outcome is that of the others
pub record Begins (parent : Option ℕ) (above at row : ℕ) (bs : List ℕ) (f next : Forest) (size : ℕ) (rs : List Row) : Type 0 where
  pub rest : drop size bs ≡ encode next
  pub long : length (encode f) ≡ size + length (encode next)
  pub listed : rs ++ rows next above (row + length rs) (at + size) ≡ rows f above row at
  pub numbered : nodes f ≡ length rs + nodes next
  pub placed : Placed parent next → Placed parent f
  pub others : Placed parent f → Placed parent next

module _ (parent : Option ℕ) (above depth at row : ℕ) (bs : List ℕ) (f next : Forest) (size : ℕ) (rs : List Row)
    (b : Begins parent above at row bs f next size rs) where
  abbrev w : Walked
  w = children_at parent above depth (count next) (at + size) (row + length rs) (encode next)

  pub list_on : node_at parent above depth at row bs ≡ record { number = 0; at = at + size; rows = rs }
      → Outcome parent above (at + size) (row + length rs) next w
      → Outcome parent above at row f (children_at parent above depth (suc (count next)) at row bs)
  list_on e o =
      let taken : at + size - at ≡ size = omega arith in
      rw (list_next parent above depth at row bs (count next) e refl, taken, b.rest) (by w o)
    where
      by : (w : Walked) → Outcome parent above (at + size) (row + length rs) next w → Outcome parent above at row f (after_rows rs w)
      by w (inl o) =
          let far : at + size + length (encode next) ≡ at + length (encode f) = omega (arith, b.long) in
          inl (record { is = ap (after_rows rs) o.is ∙ rw (far, b.listed); placed = b.placed o.placed; few = omega (arith, o.few, b.numbered) })
      by w (inr o) = inr (record { number = bars_more _ (row + nodes f) w.number (omega (arith, b.numbered)) o.number; barred = λ p q. o.barred (b.others p) (omega (arith, q, b.numbered)) })

-- the first node by its kind and its row
pub judged : (parent : Option ℕ) (above depth at row : ℕ) (bs : List ℕ) (f : Forest) (c k : ℕ)
    → node_refusal (header_at bs) (length bs) parent row depth ≡ cond (not (may_stand parent k)) 6 (cond (leb 1024 row) 7 0)
    → (Placed parent f → may_stand parent k ≡ true) → 1 ≤ nodes f
    → (may_stand parent k ≡ true → node_refusal (header_at bs) (length bs) parent row depth ≡ 0 → row < 1024
    → Outcome parent above at row f (children_at parent above depth (suc c) at row bs))
    → Outcome parent above at row f (children_at parent above depth (suc c) at row bs)
judged parent above depth at row bs f c k v stands some on =
    by_test (may_stand parent k)
    (λ m. by_test (leb 1024 row)
    (λ q. list_barred parent above depth at row bs f c (inr (number 7 (v ∙ rw (m, q)) (λ z. omega (arith, z)), omega (arith, some, leb-true 1024 row q)))
    (λ p n. omega (arith, n, some, leb-true 1024 row q)))
    (λ q. on m (v ∙ rw (m, q)) (leb-false 1024 row q)))
    (λ m. list_barred parent above depth at row bs f c (inl (number 6 (v ∙ rw m) (λ z. omega (arith, z)))) (λ p n. true≢false (sym (stands p) ∙ m)))
  where
    number : (n : ℕ) → node_refusal (header_at bs) (length bs) parent row depth ≡ n → (n ≡ 0 → ⊥) → (node_at parent above depth at row bs).number ≡ n
    number n e z = ap (λ w. w.number) (node_refused parent above depth at row bs refl e z)
