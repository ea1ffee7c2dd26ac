-- Each row of a forest whose Roots are at the top, and nowhere else, has a right parent.
use Rattle.std.specs.Prelude.{Option, Some, None}
use Prim.Native.Nat.{ℕ, suc, ◌+◌, ◌≤◌, ◌<◌}
use native.Mathlib.Omega.{arith}
use mathlib.Core.Path.{◌≡◌, refl, ap, sym, subst, ◌∙◌}
use mathlib.Core.Bool.{true, false}
use mathlib.Core.List.{List, [], ◌∷◌, ◌++◌, append_assoc}
use lib.Dec.{eqb}
use lib.ListN.{length}
use borrow.Author.Tests.{eq-eqb, ne_eqb}
use Rattle.base.proofs.Tests.{by_test}
use Rattle.kinds.specs.Kinds.{root, is_known, may_stand}
use Rattle.kinds.proofs.Tops.{top_root, below_other}
use Rattle.table.specs.declared.Row.{Row}
use Rattle.table.specs.Table.{no_parent}
use Rattle.format.specs.Forest.{Forest, end, known, unknown, count, nodes, encode}
use Rattle.format.specs.Rows.{node_row, rows}
use Rattle.base.specs.Lists.{Each}
use Rattle.format.specs.Layout.{WellFormed, Placed}
use Rattle.base.proofs.Lists.{each_append, each_map}
use Rattle.plan.specs.Plan.{up_from, path_of, is_on, right_parent}
use Rattle.writer.proofs.Paths.{Older, Not}
use Rattle.writer.proofs.Judged.{Parents}

-- ---- paths
up_past : (p : ℕ) (top path : List ℕ) → Each (Not p) top → up_from p (top ++ path) ≡ up_from p path
unfolding up_from
up_past p [] path h = refl
up_past p (q ∷ qs) path h = rw (ne_eqb q p h.0) (up_past p qs path h.1)

up_first : (p : ℕ) (path : List ℕ) → up_from p (p ∷ path) ≡ p ∷ path
unfolding up_from
up_first p path = rw (eq-eqb p p refl)

up_on : (p : ℕ) (path above : List ℕ) → up_from p path ≡ p ∷ above → is_on p path ≡ true
unfolding up_from is_on
up_on p [] above e = absurd (differ e)
  where
    differ : {A : Type 0} {x : ℕ} {xs : List ℕ} → [] ≡ x ∷ xs → A
    differ e = absurd (omega (arith, ap length e))
up_on p (q ∷ qs) above e = by_test (eqb q p) (λ t. rw t) (λ t. rw t (up_on p qs above (rw t at e)))

path_known : (k : ℕ) (r : Row) (path above : List ℕ) → is_known r.kind ≡ true → up_from r.parent path ≡ above → path_of k r path ≡ k ∷ above
unfolding path_of
path_known k r path above t e = rw (t, e)

path_unknown : (k : ℕ) (r : Row) (path above : List ℕ) → is_known r.kind ≡ false → up_from r.parent path ≡ above → path_of k r path ≡ above
unfolding path_of
path_unknown k r path above t e = rw (t, e)

-- the path of a parent: none at the top; else its row, and those above it
abbrev pub Stand : Option ℕ → (p : ℕ) (path : List ℕ) → Type 0
Stand None p path = (p ≡ no_parent) × (path ≡ [])
Stand (Some q) p path = (above : List ℕ) × (path ≡ p ∷ above)

stand_up : (parent : Option ℕ) (p : ℕ) (path : List ℕ) → Stand parent p path → up_from p path ≡ path
unfolding up_from
stand_up None p path st = rw st.1
stand_up (Some q) p path st = rw st.1 (up_first p st.0)

-- Roots at the top, and nowhere else
abbrev pub Top : Option ℕ → (kind : ℕ) → Type 0
Top None k = k ≡ root
Top (Some q) k = k ≡ root → ⊥

abbrev pub Tops : Option ℕ → Forest → Type 0
Tops parent end = Unit {0}
Tops parent (known k h p body kids next) = Top parent k × Tops (Some k) kids × Tops parent next
Tops parent (unknown k h p c rest next) = Top parent k × Tops parent next

may_top : (parent : Option ℕ) (k : ℕ) → may_stand parent k ≡ true → Top parent k
may_top None k m = top_root k m
may_top (Some q) k m = below_other q k m

pub placed_tops : (f : Forest) (parent : Option ℕ) → Placed parent f → Tops parent f
placed_tops end parent p = tt
placed_tops (known k h ps body kids next) parent p = (may_top parent k p.0, placed_tops kids (Some k) p.1, placed_tops next parent p.2)
placed_tops (unknown k h ps c rest next) parent p = (may_top parent k p.0, placed_tops next parent p.1)

right : (parent : Option ℕ) (r : Row) (previous path : List ℕ) → Top parent r.kind → Stand parent r.parent path → up_from r.parent previous ≡ path
    → right_parent r previous ≡ true
unfolding right_parent
right None r previous path m st e = rw (eq-eqb r.kind root m) (eq-eqb r.parent no_parent st.0)
right (Some q) r previous path m st e =
    rw (ne_eqb r.kind root m) (up_on r.parent previous st.0 (e ∙ st.1))

-- a path, with rows on it that came later
pub record Over (base : ℕ) (path now : List ℕ) : Type 0 where
  pub top : List ℕ
  pub parts : now ≡ top ++ path
  pub later : Each (λ q. (base ≤ q) × (q < 1024)) top

over_up : (base : ℕ) (parent : Option ℕ) (p : ℕ) (path now : List ℕ) → Stand parent p path → Older base p → Over base path now → up_from p now ≡ path
over_up base parent p path now st o v =
    ap (up_from p) v.parts
    ∙ up_past p v.top path (each_map (λ q h e. omega (arith, h.0, h.1, e, o (omega (arith, h.0, e)))) v.top v.later)
    ∙ stand_up parent p path st

pub over_self : (base : ℕ) (path : List ℕ) → Over base path path
over_self base path = record { top = []; parts = refl; later = tt }

over_less : (base k : ℕ) (path now : List ℕ) → base ≤ k → k < 1024 → Over (suc k) (k ∷ path) now → Over base path now
over_less base k path now h few v =
    record {
      top = v.top ++ (k ∷ []);
      parts = v.parts ∙ sym (append_assoc v.top (k ∷ []) path);
      later = (each_append _ v.top (k ∷ [])).1 (each_map (λ q l. (omega (arith, l.0), l.1)) v.top v.later, ((h, few), tt));
    }

-- ---- the rows of nodes side by side, and rows after them
pub rows_parents : (f : Forest) (parent : Option ℕ) (p base k at : ℕ) (path now : List ℕ) (rs : List Row) → WellFormed f → Tops parent f → Stand parent p path → Older base p
    → base ≤ k → Over base path now → k + nodes f ≤ 1024 → ((then : List ℕ) → Over base path then → Parents (k + nodes f) then rs)
    → Parents k now (rows f p k at ++ rs)
rows_parents end parent p base k at path now rs well tops st o b v few on =
    let here : k + 0 ≡ k = omega arith in
    subst (λ n. Parents n now rs) here (on now v)
rows_parents (known kind h ps body kids next) parent p base k at path now rs well tops st o b v few on =
    let here : ℕ = at + 24 + length body in
    let there : ℕ = here + length (encode kids) in
    let r : Row = node_row kind h p (at + 24) here ps (count kids) in
    let up = over_up base parent p path now st o v in
    let n : suc k + nodes kids + nodes next ≡ k + nodes (known kind h ps body kids next) = omega arith in
    let below = rows kids k (suc k) here in
    let beside = rows next p (suc k + nodes kids) there in
    let rest : Parents (suc k) (k ∷ path) (below ++ (beside ++ rs))
    = rows_parents kids (Some kind) k (suc k) (suc k) here (k ∷ path) (k ∷ path) (beside ++ rs) well.4 tops.1 (path, refl) (λ c. omega arith) (omega arith)
    (over_self (suc k) (k ∷ path)) (omega (arith, few))
    (λ then w. rows_parents next parent p base (suc k + nodes kids) there path then rs well.5 tops.2 st o (omega arith)
    (over_less base k path then b (omega (arith, few)) w) (omega (arith, few))
    (λ last u. subst (λ m. Parents m last rs) (sym n) (on last u))) in (
      right parent r now path tops.0 st up,
      subst (λ q. Parents (suc k) q ((below ++ beside) ++ rs)) (sym (path_known k r now path well.0 up))
          (subst (Parents (suc k) (k ∷ path)) (sym (append_assoc below beside rs)) rest),
    )
rows_parents (unknown kind h ps c rest next) parent p base k at path now rs well tops st o b v few on =
    let there : ℕ = at + 24 + length rest in
    let r : Row = node_row kind h p (at + 24) there ps c in
    let up = over_up base parent p path now st o v in
    let n : suc k + nodes next ≡ k + nodes (unknown kind h ps c rest next) = omega arith in (
      right parent r now path tops.0 st up,
      subst (λ q. Parents (suc k) q (rows next p (suc k) there ++ rs)) (sym (path_unknown k r now path well.0 up))
          (rows_parents next parent p base (suc k) there path path rs well.3 tops.1 st o (omega arith) (over_self base path) (omega (arith, few))
          (λ last u. subst (λ m. Parents m last rs) (sym n) (on last u))),
    )
