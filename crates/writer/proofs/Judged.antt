-- What a plan that is judged right has: each row under a row of the path, its body in the source and of its count of
-- properties, its child count the rows naming it.
use Rattle.std.specs.Prelude.{None}
use Prim.Native.Nat.{ℕ, zero, suc, ◌+◌, ◌≤◌, ◌<◌}
use native.Mathlib.Omega.{arith}
use mathlib.Core.Path.{◌≡◌, refl, ap, sym, subst, ◌∙◌}
use mathlib.Core.Logic.{◌↔◌}
use mathlib.Core.Bool.{Bool, true, false, cond, not, true≢false}
use mathlib.Core.List.{List, [], ◌∷◌, ◌++◌, append_assoc}
use lib.Dec.{eqb}
use lib.ListN.{length}
use borrow.Author.Tests.{eq-eqb, ne_eqb, eqb-true, eqb-false}
use Rattle.base.specs.Refusals.{refusal, no_refusal, refused_or}
use Rattle.base.proofs.Tests.{by_test}
use Rattle.kinds.specs.Kinds.{root, is_known}
use Rattle.table.specs.declared.Row.{Row}
use Rattle.table.specs.Table.{no_parent}
use Rattle.table.specs.Counts.{count_under}
use Rattle.body.specs.Body.{exactly}
use Rattle.format.specs.Rows.{body_of, outside}
use Rattle.base.specs.Lists.{Each}
use Rattle.base.proofs.Lists.{each_append, each_map}
use Rattle.base.specs.Refusals.{Refusal}
use Rattle.plan.specs.Plan.{up_from, path_of, is_on, right_parent, naming, row_refusal, plan_refusal_from, plan_refusal}
use Rattle.emit.specs.Emission.{roots}
use Rattle.table.proofs.Counts.{counted_other}
use Rattle.writer.proofs.Paths.{onward, Right, Older, Not, split, older_onward}
use Rattle.writer.proofs.Order.{Counts}

-- ---- no refusal, row by row
abbrev pub Parents : (k : ℕ) (previous : List ℕ) → List Row → Type 0
Parents k previous [] = Unit {0}
Parents k previous (r ∷ rs) = (right_parent r previous ≡ true) × Parents (suc k) (path_of k r previous) rs

abbrev pub Fitting : (s : List ℕ) → Row → Type 0
Fitting s r = (outside (length s) r ≡ false) × (is_known r.kind ≡ true → exactly (body_of s r) r.properties ≡ true)

abbrev pub Named : (all : List Row) (k : ℕ) → List Row → Type 0
Named all k [] = Unit {0}
Named all k (r ∷ rs) = (is_known r.kind ≡ true → r.children ≡ naming all k) × Named all (suc k) rs

-- tests in turn, as a row has them
abbrev in_turn : (a b c d e : Bool) → ℕ
in_turn a b c d e = cond (not a) 21 (cond b 22 (cond (not c) 0 (cond (not d) 23 (cond (not e) 24 0))))

by_tests : (a b c d e : Bool) → in_turn a b c d e ≡ 0
    → (a ≡ true) × (b ≡ false) × (c ≡ true → (d ≡ true) × (e ≡ true))
by_tests true false true true true h = (refl, refl, λ t. (refl, refl))
by_tests true false false d e h = (refl, refl, λ t. absurd (true≢false (sym t)))
by_tests false b c d e h = absurd (omega (arith, h))
by_tests true true c d e h = absurd (omega (arith, h))
by_tests true false true false e h = absurd (omega (arith, h))
by_tests true false true true false h = absurd (omega (arith, h))

to_tests : (a b c d e : Bool) → a ≡ true → b ≡ false → (c ≡ true → d ≡ true) → (c ≡ true → e ≡ true)
    → in_turn a b c d e ≡ 0
to_tests a b true d e p q f g = rw (p, q, f refl, g refl)
to_tests a b false d e p q f g = rw (p, q)

module _ (s : List ℕ) (previous : List ℕ) (named : ℕ) (r : Row) where
  row_right : row_refusal s previous named r ≡ 0 → (right_parent r previous ≡ true) × Fitting s r × (is_known r.kind ≡ true → r.children ≡ named)
  unfolding row_refusal
  row_right e =
      let t = by_tests (right_parent r previous) (outside (length s) r) (is_known r.kind) (exactly (body_of s r) r.properties) (eqb r.children named) e in
      (t.0, (t.1, λ k. (t.2 k).0), λ k. eqb-true r.children named (t.2 k).1)

  right_row : right_parent r previous ≡ true → Fitting s r → (is_known r.kind ≡ true → r.children ≡ named) → row_refusal s previous named r ≡ 0
  unfolding row_refusal
  right_row p f c =
      to_tests (right_parent r previous) (outside (length s) r) (is_known r.kind) (exactly (body_of s r) r.properties) (eqb r.children named)
      p f.0 f.1 (λ k. eq-eqb r.children named (c k))

by_zero : (n k : ℕ) (next : Refusal) → (refused_or n (refusal n k) next).number ≡ 0 → (n ≡ 0) × (next.number ≡ 0)
by_zero zero k next e = (refl, e)
by_zero (suc n) k next e = absurd (omega (arith, e))

judged_each : (s : List ℕ) (all : List Row) (k : ℕ) (previous : List ℕ) (rs : List Row) → (plan_refusal_from s all k previous rs).number ≡ 0
    → Parents k previous rs × Each (Fitting s) rs × Named all k rs
unfolding plan_refusal_from
judged_each s all k previous [] e = (tt, tt, tt)
judged_each s all k previous (r ∷ rs) e =
    let now = by_zero (row_refusal s previous (naming all k) r) k (plan_refusal_from s all (suc k) (path_of k r previous) rs) e in
    let here = row_right s previous (naming all k) r now.0 in
    let ih = judged_each s all (suc k) (path_of k r previous) rs now.1 in
    ((here.0, ih.0), (here.1, ih.1), (here.2, ih.2))

pub judged_parts : (s : List ℕ) (rs : List Row) → (plan_refusal s rs).number ≡ 0 → Parents 0 [] rs × Each (Fitting s) rs × Named rs 0 rs
unfolding plan_refusal
judged_parts s rs e = judged_each s rs 0 [] rs e

pub each_judged : (s : List ℕ) (all : List Row) (k : ℕ) (previous : List ℕ) (rs : List Row) → Parents k previous rs → Each (Fitting s) rs → Named all k rs
    → plan_refusal_from s all k previous rs ≡ no_refusal
unfolding plan_refusal_from
each_judged s all k previous [] p f c = refl
each_judged s all k previous (r ∷ rs) p f c =
    rw (right_row s previous (naming all k) r p.0 f.0 c.0)
    (each_judged s all (suc k) (path_of k r previous) rs p.1 f.1 c.1)

-- ---- a parent on the path
pub record On (p : ℕ) (path : List ℕ) : Type 0 where
  pub top : List ℕ
  pub above : List ℕ
  pub parts : path ≡ top ++ (p ∷ above)
  pub from : up_from p path ≡ p ∷ above

on : (p : ℕ) (path : List ℕ) → is_on p path ≡ true → On p path
unfolding is_on up_from
on p [] e = absurd (true≢false (sym e))
on p (q ∷ qs) e =
    by_test (eqb q p)
    (λ t. let same = eqb-true q p t in record { top = []; above = qs; parts = ap (λ z. z ∷ qs) same; from = rw t (ap (λ z. z ∷ qs) same) })
    (λ t.
    let ih = on p qs (rw t at e) in
    record { top = q ∷ ih.top; above = ih.above; parts = ap (λ z. q ∷ z) ih.parts; from = rw t ih.from })

pub not_on : (p : ℕ) (path : List ℕ) → Each (Not p) path → up_from p path ≡ []
unfolding up_from
not_on p [] n = refl
not_on p (q ∷ qs) n = rw (ne_eqb q p n.0) (not_on p qs n.1)

root_parent : (r : Row) (previous : List ℕ) → eqb r.kind root ≡ true → right_parent r previous ≡ true → eqb r.parent no_parent ≡ true
unfolding right_parent
root_parent r previous t e = rw t at e

other_parent : (r : Row) (previous : List ℕ) → eqb r.kind root ≡ false → right_parent r previous ≡ true → is_on r.parent previous ≡ true
unfolding right_parent
other_parent r previous t e = rw t at e

-- ---- the same by the path with none at its end
abbrev pub with_none : List ℕ → List ℕ
with_none path = path ++ (no_parent ∷ [])

abbrev pub Below : (k q : ℕ) → Type 0
Below k q = q < k

onward_root : (k : ℕ) (r : Row) (previous : List ℕ) → r.parent ≡ no_parent → up_from no_parent previous ≡ [] → with_none (path_of k r previous) ≡ onward k r []
unfolding path_of
onward_root k r previous e n = by_test (is_known r.kind) (λ t. rw (t, e, n)) (λ t. rw (t, e, n))

onward_on : (k : ℕ) (r : Row) (previous above : List ℕ) → up_from r.parent previous ≡ r.parent ∷ above → with_none (path_of k r previous) ≡ onward k r (with_none above)
unfolding path_of
onward_on k r previous above e = by_test (is_known r.kind) (λ t. rw (t, e)) (λ t. rw (t, e))

pub below_path : (k : ℕ) (r : Row) (previous : List ℕ) → Each (Below k) previous → Each (Below (suc k)) (path_of k r previous)
unfolding path_of up_from
below_path k r previous b =
    let up = up_below r.parent previous (each_map {Q = Below (suc k)} (λ q h. omega (arith, h)) previous b) in
    by_test (is_known r.kind) (λ t. rw t (omega arith, up)) (λ t. rw t up)
  where
    up_below : (p : ℕ) (qs : List ℕ) → Each (Below (suc k)) qs → Each (Below (suc k)) (up_from p qs)
    up_below p [] h = tt
    up_below p (q ∷ qs) h = by_test (eqb q p) (λ t. rw t h) (λ t. rw t (up_below p qs h.1))

pub parents_right : (k : ℕ) (previous : List ℕ) (rs : List Row) → Parents k previous rs → Each (Below k) previous → k + length rs ≤ 1024 → Right k (with_none previous) rs
parents_right k previous [] w b few = tt
parents_right k previous (r ∷ rs) w b few =
    let ih = parents_right (suc k) (path_of k r previous) rs w.1 (below_path k r previous b) (omega (arith, few)) in
    by_test (eqb r.kind root)
    (λ t.
    let none : r.parent ≡ no_parent = eqb-true r.parent no_parent (root_parent r previous t w.0) in
    let off = not_on no_parent previous (each_map (λ q h e. omega (arith, h, e, few)) previous b) in
    (previous, [], ap (λ z. previous ++ (z ∷ [])) (sym none), subst (λ p. Right (suc k) p rs) (onward_root k r previous none off) ih))
    (λ t.
    let o = on r.parent previous (other_parent r previous t w.0) in (
      o.top,
      with_none o.above,
      ap with_none o.parts ∙ append_assoc o.top (r.parent ∷ o.above) (no_parent ∷ []),
      subst (λ p. Right (suc k) p rs) (onward_on k r previous o.above o.from) ih,
    ))

-- ---- exactly the Roots are under none
abbrev pub RootOnly : Row → Type 0
RootOnly r = (r.kind ≡ root) ↔ (r.parent ≡ no_parent)

pub parents_roots : (k : ℕ) (previous : List ℕ) (rs : List Row) → Parents k previous rs → Each (Below k) previous → k + length rs ≤ 1024 → Each RootOnly rs
parents_roots k previous [] w b few = tt
parents_roots k previous (r ∷ rs) w b few =
    let ih = parents_roots (suc k) (path_of k r previous) rs w.1 (below_path k r previous b) (omega (arith, few)) in (
      by_test (eqb r.kind root)
          (λ t. (λ e. eqb-true r.parent no_parent (root_parent r previous t w.0), λ e. eqb-true r.kind root t))
          (λ t.
          let o = on r.parent previous (other_parent r previous t w.0) in
          let here = ((each_append (Below k) o.top (r.parent ∷ o.above)).0 (rw o.parts at b)).1.0 in
          (λ e. absurd (eqb-false r.kind root t e), λ e. absurd (omega (arith, here, e, few)))),
      ih,
    )

pub roots_named : (rs : List Row) → Each RootOnly rs → roots rs ≡ naming rs no_parent
unfolding roots count_under
roots_named [] h = refl
roots_named (r ∷ rs) h =
    by_test (eqb r.kind root)
    (λ t. rw (t, eq-eqb r.parent no_parent (h.0.0 (eqb-true r.kind root t))) (ap suc (roots_named rs h.1)))
    (λ t. rw (t, ne_eqb r.parent no_parent (λ e. eqb-false r.kind root t (h.0.1 e))) (roots_named rs h.1))

-- ---- the rows naming a row are later ones
module _ (all : List Row) where
  pub named_counts : (k : ℕ) (path : List ℕ) (rs : List Row) → Right k path rs → Each (Older k) path → k + length rs ≤ 1024
      → ((j : ℕ) → k ≤ j → j < 1024 → naming all j ≡ naming rs j) → (Named all k rs ↔ Counts k rs)
  named_counts k path [] w o few h = (λ c. tt, λ c. tt)
  named_counts k path (r ∷ rs) w o few h =
      let older : Older k r.parent = (split k path r rs w (Older k) o).1.0 in
      let later : (j : ℕ) → k ≤ j → j < 1024 → naming all j ≡ naming rs j
      = λ j a b. h j a b ∙ counted_other None r rs j (λ e. omega (arith, older (omega (arith, e)), e)) in
      let ih = named_counts (suc k) (onward k r w.1) rs w.3 (older_onward k path r rs w o) (omega (arith, few)) (λ j a b. later j (omega arith) b) in
      let here = later k (omega arith) (omega (arith, few)) in
      (λ c. (λ t. c.0 t ∙ here, ih.0 c.1), λ c. (λ t. c.0 t ∙ sym here, ih.1 c.1))
