-- The rows of a forest tell that forest again, and are a right plan over the file's bytes.
use Rattle.std.specs.Prelude.{None}
use Prim.Native.Nat.{ℕ, suc, ◌+◌, ◌≤◌, ◌<◌}
use native.Mathlib.Omega.{arith}
use mathlib.Core.Path.{◌≡◌, refl, ap, sym, subst, ◌∙◌}
use mathlib.Core.Bool.{false, true≢false}
use mathlib.Core.List.{List, [], ◌∷◌, ◌++◌, append_assoc}
use lib.Dec.{eqb}
use lib.ListN.{length, length-append}
use borrow.Author.Tests.{eqb-true, eqb-false, le-ltb}
use Rattle.base.proofs.Tests.{by_test}
use Rattle.kinds.specs.Kinds.{is_known}
use Rattle.table.specs.declared.Row.{Row}
use Rattle.table.proofs.Counts.{counted_append}
use Rattle.body.specs.Body.{exactly}
use Rattle.format.specs.Forest.{Forest, end, known, unknown, count, nodes, header, encode}
use Rattle.format.specs.Rows.{node_row, rows, body_of, outside}
use Rattle.base.specs.Lists.{Each}
use Rattle.format.specs.Layout.{WellFormed}
use Rattle.base.proofs.Lists.{each_append}
use Rattle.format.proofs.Headers.{length_header}
use Rattle.format.proofs.Rows.{hash_back, part, length_rows}
use Rattle.format.proofs.Within.{rows_none}
use Rattle.format.proofs.Bodies.{good_exactly}
use Rattle.plan.specs.Plan.{naming}
use Rattle.writer.specs.Forest.{node_of, nodes_under}
use Rattle.writer.proofs.Under.{count_under_lem, under_other, under_own, none_named, nothing_under}
use Rattle.writer.proofs.Paths.{Older}
use Rattle.writer.proofs.Order.{Counts}
use Rattle.writer.proofs.Judged.{Fitting}

-- ---- rows after rows

-- nodes, and others next to the last of them
graft : Forest → Forest → Forest
graft end g = g
graft (known k h p body kids next) g = known k h p body kids (graft next g)
graft (unknown k h p c rest next) g = unknown k h p c rest (graft next g)

graft_end : (f : Forest) → graft f end ≡ f
unfolding graft
graft_end end = refl
graft_end (known k h p body kids next) = ap (known k h p body kids) (graft_end next)
graft_end (unknown k h p c rest next) = ap (unknown k h p c rest) (graft_end next)

graft_node : (s : List ℕ) (r : Row) (kids next g : Forest) → node_of s r kids (graft next g) ≡ graft (node_of s r kids next) g
unfolding graft
graft_node s r kids next g = by_test (is_known r.kind) (λ t. rw t) (λ t. rw t)

graft_none : (g : Forest) → graft end g ≡ g
unfolding graft
graft_none g = refl

-- later rows that are under none of these
abbrev Apart : (k : ℕ) (xs ys : List Row) → Type 0
Apart k xs ys = (j : ℕ) → k ≤ j → j < k + length xs → naming ys j ≡ 0

under_append : (s : List ℕ) (k : ℕ) (xs ys : List Row) → Apart k xs ys → (q : ℕ)
    → nodes_under s k (xs ++ ys) q ≡ graft (nodes_under s k xs q) (nodes_under s (k + length xs) ys q)
under_append s k [] ys a q =
    let here : k ≡ k + 0 = omega arith in
    ap (λ n. nodes_under s n ys q) here ∙ sym (ap (λ f. graft f (nodes_under s (k + 0) ys q)) (nothing_under s k q) ∙ graft_none (nodes_under s (k + 0) ys q))
under_append s k (x ∷ xs) ys a q =
    let n : suc k + length xs ≡ k + suc (length xs) = omega arith in
    let ih : (q : ℕ) → nodes_under s (suc k) (xs ++ ys) q ≡ graft (nodes_under s (suc k) xs q) (nodes_under s (k + suc (length xs)) ys q)
    = λ q. under_append s (suc k) xs ys (λ j b c. a j (omega arith) (omega (arith, c))) q ∙ ap (λ m. graft (nodes_under s (suc k) xs q) (nodes_under s m ys q)) n in
    let kids : nodes_under s (suc k) (xs ++ ys) k ≡ nodes_under s (suc k) xs k
    = ih k ∙ ap (graft (nodes_under s (suc k) xs k)) (none_named s (k + suc (length xs)) ys k (a k (omega arith) (omega arith))) ∙ graft_end (nodes_under s (suc k) xs k) in
    by_test (eqb x.parent q)
    (λ t.
    let e = eqb-true x.parent q t in
    under_own s k x (xs ++ ys) q e
    ∙ ap (λ f. node_of s x f (nodes_under s (suc k) (xs ++ ys) q)) kids
    ∙ ap (node_of s x (nodes_under s (suc k) xs k)) (ih q)
    ∙ graft_node s x (nodes_under s (suc k) xs k) (nodes_under s (suc k) xs q) (nodes_under s (k + suc (length xs)) ys q)
    ∙ ap (λ f. graft f (nodes_under s (k + suc (length xs)) ys q)) (sym (under_own s k x xs q e)))
    (λ t.
    let e = eqb-false x.parent q t in
    under_other s k x (xs ++ ys) q e ∙ ih q ∙ ap (λ f. graft f (nodes_under s (k + suc (length xs)) ys q)) (sym (under_other s k x xs q e)))

counts_append : (k : ℕ) (xs ys : List Row) → Apart k xs ys → Counts k xs → Counts (k + length xs) ys → Counts k (xs ++ ys)
counts_append k [] ys a c d = rw (zero_after k) at d
  where
    zero_after : (k : ℕ) → k + 0 ≡ k
    zero_after k = omega arith
counts_append k (x ∷ xs) ys a c d =
    let n : k + suc (length xs) ≡ suc k + length xs = omega arith in
    let none : naming xs k + naming ys k ≡ naming xs k = omega (arith, a k (omega arith) (omega arith)) in
    (λ t. c.0 t ∙ sym (counted_append None xs ys k ∙ none), counts_append (suc k) xs ys (λ j b e. a j (omega arith) (omega (arith, e))) c.1 (rw n at d))

-- ---- the rows of a forest

pub record Rebuilt (s : List ℕ) (f : Forest) (p k at : ℕ) : Type 0 where
  pub same : nodes_under s k (rows f p k at) p ≡ f
  pub fitting : Each (Fitting s) (rows f p k at)
  pub counts : Counts k (rows f p k at)

-- one row, its body in the file
module _ (s pre body post : List ℕ) (kind h p at properties children : ℕ) (e : s ≡ pre ++ (body ++ post)) (a : at + 24 ≡ length pre) where
  abbrev row : Row
  row = node_row kind h p (at + 24) (at + 24 + length body) properties children

  row_body : body_of s row ≡ body
  row_body = part s pre body post (at + 24) e a

  row_inside : outside (length s) row ≡ false
  row_inside =
      let long : length s ≡ length pre + (length body + length post) = ap length e ∙ simp length-append in
      rw (le-ltb (at + 24 + length body) (at + 24) (omega arith), le-ltb (length s) (at + 24 + length body) (omega (arith, long, a)))

pub rebuilt : (s : List ℕ) (f : Forest) (pre post : List ℕ) (p k at : ℕ) → WellFormed f → s ≡ pre ++ (encode f ++ post) → at ≡ length pre
    → Older k p → k + nodes f ≤ 1024 → Rebuilt s f p k at
rebuilt s end pre post p k at well e a o few = record { same = nothing_under s k p; fitting = tt; counts = tt }
rebuilt s (known kind h ps body kids next) pre post p k at well e a o few =
    let hd = header kind (24 + length body + length (encode kids)) h ps (count kids) in
    let here : ℕ = at + 24 + length body in
    let there : ℕ = here + length (encode kids) in
    let r : Row = node_row kind h p (at + 24) here ps (count kids) in
    let below = rows kids k (suc k) here in
    let beside = rows next p (suc k + nodes kids) there in
    let e1 : s ≡ (pre ++ hd) ++ (body ++ (encode kids ++ (encode next ++ post))) = e ∙ simp append_assoc in
    let e2 : s ≡ ((pre ++ hd) ++ body) ++ (encode kids ++ (encode next ++ post)) = e ∙ simp append_assoc in
    let e3 : s ≡ (((pre ++ hd) ++ body) ++ encode kids) ++ (encode next ++ post) = e ∙ simp append_assoc in
    let a1 : at + 24 ≡ length (pre ++ hd) = simp (length-append, length_header) (omega arith) in
    let a2 : here ≡ length ((pre ++ hd) ++ body) = simp (length-append, length_header) (omega arith) in
    let a3 : there ≡ length (((pre ++ hd) ++ body) ++ encode kids) = simp (length-append, length_header) (omega arith) in
    let ih-kids = rebuilt s kids ((pre ++ hd) ++ body) (encode next ++ post) k (suc k) here well.4 e2 a2 (λ b. omega arith) (omega (arith, few)) in
    let ih-next = rebuilt s next (((pre ++ hd) ++ body) ++ encode kids) post p (suc k + nodes kids) there well.5 e3 a3 (λ b. o (omega (arith, b))) (omega (arith, few)) in
    let is = row_body s (pre ++ hd) body (encode kids ++ (encode next ++ post)) kind h p at ps (count kids) e1 a1 in
    let long : length below ≡ nodes kids = length_rows kids k (suc k) here in
    let apart : Apart (suc k) below beside
    = λ j b c. rows_none None next p (suc k + nodes kids) there j (λ q. omega (arith, o (omega (arith, q)), c, long, q, few)) (λ q. absurd (omega (arith, q, c, long))) in
    let numbered : suc k + length below ≡ suc k + nodes kids = omega (arith, long) in
    let following : (q : ℕ) → nodes_under s (suc k) (below ++ beside) q ≡ graft (nodes_under s (suc k) below q) (nodes_under s (suc k + nodes kids) beside q)
    = λ q. under_append s (suc k) below beside apart q ∙ ap (λ n. graft (nodes_under s (suc k) below q) (nodes_under s n beside q)) numbered in
    let no-k : naming beside k ≡ 0 = rows_none None next p (suc k + nodes kids) there k (λ q. omega (arith, o (omega (arith, q)), q, few)) (λ q. absurd (omega (arith, q))) in
    let no-p : naming below p ≡ 0 = rows_none None kids k (suc k) here p (λ q. omega (arith, o (omega (arith, q)), q, few)) (λ q. omega (arith, o (omega (arith, q)), few)) in
    let the-kids : nodes_under s (suc k) (below ++ beside) k ≡ kids
    = following k ∙ ap (graft (nodes_under s (suc k) below k)) (none_named s (suc k + nodes kids) beside k no-k) ∙ graft_end (nodes_under s (suc k) below k) ∙ ih-kids.same in
    let the-next : nodes_under s (suc k) (below ++ beside) p ≡ next
    = following p ∙ ap (λ f. graft f (nodes_under s (suc k + nodes kids) beside p)) (none_named s (suc k) below p no-p) ∙ graft_none _ ∙ ih-next.same in
    let node : node_of s r kids next ≡ known kind h ps body kids next = rw (well.0, is, hash_back h) in
    let all : naming (below ++ beside) k ≡ count kids
    = counted_append None below beside k ∙ (let own = sym (count_under_lem s (suc k) below k) ∙ ap count ih-kids.same in omega (arith, own, no-k)) in
    record {
      same = under_own s k r (below ++ beside) p refl ∙ ap (λ f. node_of s r f (nodes_under s (suc k) (below ++ beside) p)) the-kids ∙ ap (node_of s r kids) the-next ∙ node;
      fitting = (
        (row_inside s (pre ++ hd) body (encode kids ++ (encode next ++ post)) kind h p at ps (count kids) e1 a1, λ t. ap (λ b. exactly b ps) is ∙ good_exactly ps body well.3),
        (each_append (Fitting s) below beside).1 (ih-kids.fitting, ih-next.fitting),
      );
      counts = (λ t. sym all, counts_append (suc k) below beside apart ih-kids.counts (subst (λ n. Counts n beside) (sym numbered) ih-next.counts));
    }
rebuilt s (unknown kind h ps c rest next) pre post p k at well e a o few =
    let hd = header kind (24 + length rest) h ps c in
    let there : ℕ = at + 24 + length rest in
    let r : Row = node_row kind h p (at + 24) there ps c in
    let beside = rows next p (suc k) there in
    let e1 : s ≡ (pre ++ hd) ++ (rest ++ (encode next ++ post)) = e ∙ simp append_assoc in
    let e3 : s ≡ ((pre ++ hd) ++ rest) ++ (encode next ++ post) = e ∙ simp append_assoc in
    let a1 : at + 24 ≡ length (pre ++ hd) = simp (length-append, length_header) (omega arith) in
    let a3 : there ≡ length ((pre ++ hd) ++ rest) = simp (length-append, length_header) (omega arith) in
    let ih = rebuilt s next ((pre ++ hd) ++ rest) post p (suc k) there well.3 e3 a3 (λ b. o (omega (arith, b))) (omega (arith, few)) in
    let is = row_body s (pre ++ hd) rest (encode next ++ post) kind h p at ps c e1 a1 in
    let node : node_of s r (nodes_under s (suc k) beside k) next ≡ unknown kind h ps c rest next = rw (well.0, is, hash_back h) in
    record {
      same = under_own s k r beside p refl ∙ ap (node_of s r (nodes_under s (suc k) beside k)) ih.same ∙ node;
      fitting = (
        (row_inside s (pre ++ hd) rest (encode next ++ post) kind h p at ps c e1 a1, λ t. absurd (true≢false (sym t ∙ well.0))),
        ih.fitting,
      );
      counts = (λ t. absurd (true≢false (sym t ∙ well.0)), ih.counts);
    }
