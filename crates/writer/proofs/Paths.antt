-- Rows that come parent before child: each is under a row of the path, and those that the path has left get no more.
use Rattle.std.specs.Prelude.{None}
use Prim.Native.Nat.{ℕ, suc, ◌+◌, ◌≤◌, ◌<◌}
use native.Mathlib.Omega.{arith}
use mathlib.Core.Path.{◌≡◌, refl, ap, sym, ◌∙◌}
use mathlib.Core.Bool.{true, false, cond, true≢false}
use mathlib.Core.List.{List, [], ◌∷◌, ◌++◌}
use lib.Dec.{eqb}
use lib.ListN.{length, length-append}
use borrow.Author.Tests.{eqb-true, eqb-false}
use Rattle.base.proofs.Tests.{by_test}
use Rattle.kinds.specs.Kinds.{is_known}
use Rattle.table.specs.declared.Row.{Row}
use Rattle.table.proofs.Counts.{counted_other}
use Rattle.table.specs.Counts.{count_under}
use Rattle.format.specs.Forest.{encode}
use Rattle.base.specs.Lists.{Each}
use Rattle.base.proofs.Lists.{each_append, each_map}
use Rattle.format.proofs.Headers.{length_header}
use Rattle.plan.specs.Plan.{naming}
use Rattle.emit.specs.Emission.{sizes_under}
use Rattle.emit.proofs.Sizes.{sized_own, sized_other}
use Rattle.writer.specs.Forest.{nodes_under}
use Rattle.writer.proofs.Under.{under_other, none_sized, size_none, under_own}

-- the path after row k, whose parent is on the path, with these above it
abbrev pub onward : (k : ℕ) → Row → (above : List ℕ) → List ℕ
onward k r above = cond (is_known r.kind) (k ∷ r.parent ∷ above) (r.parent ∷ above)

-- rows from row k on, each under a number of the path
abbrev pub Right : (k : ℕ) (path : List ℕ) → List Row → Type 0
Right k path [] = Unit {0}
Right k path (r ∷ rs) = (top : List ℕ) × (above : List ℕ) × (path ≡ top ++ (r.parent ∷ above)) × Right (suc k) (onward k r above) rs

-- a number that is none of the rows from row k on
abbrev pub Older : (k p : ℕ) → Type 0
Older k p = k ≤ p → 1024 ≤ p

abbrev pub Not : (p q : ℕ) → Type 0
Not p q = q ≡ p → ⊥

abbrev pub Distinct : List ℕ → Type 0
Distinct [] = Unit {0}
Distinct (q ∷ qs) = Each (Not q) qs × Distinct qs

pub each_onward : (P : ℕ → Type 0) (k : ℕ) (r : Row) (above : List ℕ) → (is_known r.kind ≡ true → P k) → P r.parent → Each P above → Each P (onward k r above)
each_onward P k r above a b c = by_test (is_known r.kind) (λ t. rw t (a t, (b, c))) (λ t. rw t (b, c))

distinct_from : (xs ys : List ℕ) → Distinct (xs ++ ys) → Distinct ys × Each (λ x. Each (Not x) ys) xs
distinct_from [] ys d = (d, tt)
distinct_from (x ∷ xs) ys d =
    let rest = distinct_from xs ys d.1 in
    (rest.0, (((each_append (Not x) xs ys).0 d.0).1, rest.1))

-- a first row and its path: the part that is left, and the parent with what is above it
module _ (k : ℕ) (path : List ℕ) (r : Row) (rs : List Row) (w : Right k path (r ∷ rs)) where
  abbrev top : List ℕ
  top = w.0

  abbrev rest : List ℕ
  rest = r.parent ∷ w.1

  -- what holds of each number of the path
  pub split : (P : ℕ → Type 0) → Each P path → Each P top × Each P rest
  split P h = (each_append P top rest).0 (rw w.2 at h)

  pub apart : Distinct path → Distinct rest × Each (λ x. Each (Not x) rest) top
  apart d = distinct_from top rest (rw w.2 at d)

  pub new : (few : k < 1024) (q : ℕ) → Older k q → Not k q
  new few q h f = omega (arith, h (omega (arith, f)))

  -- the path after it has no number twice, and none of the later rows
  pub distinct_onward : k < 1024 → Distinct path → Each (Older k) path → Distinct (onward k r w.1)
  distinct_onward few d o =
      let following = (apart d).0 in
      let older = (split (Older k) o).1 in
      by_test (is_known r.kind) (λ t. rw t (each_map (new few) rest older, following)) (λ t. rw t following)

  pub older_onward : Each (Older k) path → Each (Older (suc k)) (onward k r w.1)
  older_onward o =
      let older = each_map {Q = Older (suc k)} (λ q h b. h (omega arith)) rest (split (Older k) o).1 in
      each_onward (Older (suc k)) k r w.1 (λ t b. omega arith) older.0 older.1

-- ---- a number that is not on the path is named by no later row
pub closed : (k : ℕ) (path : List ℕ) (rs : List Row) → Right k path rs → (p : ℕ) → Each (Not p) path → Older k p → k + length rs ≤ 1024 → naming rs p ≡ 0
unfolding count_under
closed k path [] w p n o few = refl
closed k path (r ∷ rs) w p n o few =
    let here = (split k path r rs w (Not p) n).1 in
    let new : Not p k = λ f. omega (arith, o (omega (arith, f))) in
    counted_other None r rs p here.0
    ∙ closed (suc k) (onward k r w.1) rs w.3 p (each_onward (Not p) k r w.1 (λ t. new) here.0 here.1) (λ b. o (omega arith)) (omega (arith, few))

-- ---- so what is under an unknown row is nothing, and sizes are those of the nodes' bytes
module _ (k : ℕ) (path : List ℕ) (r : Row) (rs : List Row) (w : Right k path (r ∷ rs)) (o : Each (Older k) path)
    (few : k + length (r ∷ rs) ≤ 1024) where
  pub nothing_below : is_known r.kind ≡ false → naming rs k ≡ 0
  nothing_below u =
      let others = each_map (new k path r rs w (omega (arith, few))) (r.parent ∷ w.1) (split k path r rs w (Older k) o).1 in
      closed (suc k) (onward k r w.1) rs w.3 k
      (each_onward (Not k) k r w.1 (λ t. absurd (true≢false (sym t ∙ u))) others.0 others.1)
      (λ b. omega arith)
      (omega (arith, few))

pub size_under : (s : List ℕ) (k : ℕ) (path : List ℕ) (rs : List Row) → Right k path rs → Each (Older k) path → k + length rs ≤ 1024
    → (p : ℕ) → sizes_under s p k rs ≡ length (encode (nodes_under s k rs p))
size_under s k path [] w o few p = size_none s k p
size_under s k path (r ∷ rs) w o few p =
    let ih = size_under s (suc k) (onward k r w.1) rs w.3 (older_onward k path r rs w o) (omega (arith, few)) in
    by_test (eqb r.parent p)
    (λ t.
    let tree = under_own s k r rs p (eqb-true r.parent p t) in
    sized_own s p k r rs (eqb-true r.parent p t)
    ∙ by_test (is_known r.kind)
    (λ u. rw (tree, u) (simp (length-append, length_header) (omega (arith, ih k, ih p))))
    (λ u.
    let none = none_sized s (suc k) rs k (nothing_below k path r rs w o few u) in
    rw (tree, u) (simp (length-append, length_header) (omega (arith, none, ih p)))))
    (λ t. sized_other s p k r rs (eqb-false r.parent p t) ∙ ih p ∙ ap (λ f. length (encode f)) (sym (under_other s k r rs p (eqb-false r.parent p t))))
