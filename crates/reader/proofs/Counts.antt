-- The Bones under a parent, and the nodes of a kind and hash: the same by rows and by nodes.
use Rattle.std.specs.Prelude.{Some}
use Prim.Native.Nat.{ℕ, suc, ◌+◌, ◌≤◌, ◌<◌}
use native.Mathlib.Omega.{arith}
use mathlib.Core.Path.{◌≡◌, refl, ap, ◌∙◌}
use mathlib.Core.Logic.{◌⊎◌, inl, inr}
use mathlib.Core.Bool.{◌&&◌}
use mathlib.Core.List.{List, [], ◌∷◌, ◌++◌}
use lib.Dec.{eqb}
use lib.ListN.{length}
use borrow.Author.Tests.{eq-eqb}
use Rattle.base.proofs.Tests.{by_test}
use Rattle.kinds.specs.Kinds.{bone}
use Rattle.table.specs.declared.Row.{Row}
use Rattle.table.specs.Counts.{count_under}
use Rattle.table.proofs.Counts.{counted_other, counted_append}
use Rattle.format.specs.Forest.{Forest, end, known, unknown, count, nodes, encode}
use Rattle.format.specs.Rows.{node_row, hash_of, rows}
use Rattle.format.proofs.Rows.{hash_back}
use Rattle.format.proofs.Within.{rows_none}
use Rattle.links.specs.Links.{reached}
use Rattle.reader.specs.Reading.{bones_under}
use Rattle.valid.specs.Valid.{bones, reaches}

-- a row number that is none of n rows from `row` on
abbrev pub Outside : (p row n : ℕ) → Type 0
Outside p row n = (p < row) ⊎ (row + n ≤ p)

pub within : (p row n row' n' : ℕ) → Outside p row n → row ≤ row' → row' + n' ≤ row + n → Outside p row' n'
within p row n row' n' (inl h) a b = inl (omega arith)
within p row n row' n' (inr h) a b = inr (omega arith)

pub not_first : (p row n : ℕ) → Outside p row (suc n) → row ≡ p → ⊥
not_first p row n (inl h) e = omega arith
not_first p row n (inr h) e = omega arith

-- no row of some nodes is under a parent that is neither theirs nor one of them
pub none_under : (f : Forest) (parent row at p : ℕ) → (parent ≡ p → ⊥) → Outside p row (nodes f) → bones_under (rows f parent row at) p ≡ 0
none_under f parent row at p n h = rows_none (Some bone) f parent row at p n (by h)
  where
    by : Outside p row (nodes f) → row ≤ p → row + nodes f ≤ p
    by (inl a) b = absurd (omega arith)
    by (inr a) b = a

-- the Bones under a parent are those among its children
pub own_under : (f : Forest) (parent row at : ℕ) → Outside parent row (nodes f) → bones_under (rows f parent row at) parent ≡ bones f
unfolding count_under
own_under end parent row at h = refl
own_under (known k hash ps body kids next) parent row at h =
    let here : ℕ = at + 24 + length body in
    let below = rows kids row (suc row) here in
    let beside = rows next parent (suc row + nodes kids) (here + length (encode kids)) in
    let a = none_under kids row (suc row) here parent (not_first parent row (nodes kids + nodes next) h) (within parent row (nodes (known k hash ps body kids next)) (suc row) (nodes kids) h (omega arith) (omega arith)) in
    let b = own_under next parent (suc row + nodes kids) (here + length (encode kids)) (within parent row (nodes (known k hash ps body kids next)) (suc row + nodes kids) (nodes next) h (omega arith) (omega arith)) in
    let rest : bones_under (below ++ beside) parent ≡ bones next = counted_append (Some bone) below beside parent ∙ rw (a, b) (omega arith) in
    rw (eq-eqb parent parent refl) (by_test (eqb k bone) (λ t. rw (t, rest)) (λ t. rw (t, rest)))
own_under (unknown k hash ps c rest next) parent row at h =
    let b = own_under next parent (suc row) (at + 24 + length rest) (within parent row (nodes (unknown k hash ps c rest next)) (suc row) (nodes next) h (omega arith) (omega arith)) in
    rw (eq-eqb parent parent refl) (by_test (eqb k bone) (λ t. rw (t, b)) (λ t. rw (t, b)))

-- rows among which those from `row` on are these, so that what is under each of these is among them
abbrev pub Inside : (all rs : List Row) (row n : ℕ) → Type 0
Inside all rs row n = (p : ℕ) → row ≤ p → p < row + n → bones_under all p ≡ bones_under rs p

-- a first node's row, those below it and those beside it
module _ (all : List Row) (k h ps : ℕ) (body : List ℕ) (kids next : Forest) (parent row at : ℕ)
    (out : Outside parent row (nodes (known k h ps body kids next)))
    (inside : Inside all (rows (known k h ps body kids next) parent row at) row (nodes (known k h ps body kids next))) where
  abbrev below : List Row
  below = rows kids row (suc row) (at + 24 + length body)

  abbrev beside : List Row
  beside = rows next parent (suc row + nodes kids) (at + 24 + length body + length (encode kids))

  parent_not : (p : ℕ) → row ≤ p → p < row + nodes (known k h ps body kids next) → parent ≡ p → ⊥
  parent_not p a b e = by out
    where
      by : Outside parent row (nodes (known k h ps body kids next)) → ⊥
      by (inl c) = omega arith
      by (inr c) = omega arith

  split : (p : ℕ) → row ≤ p → p < row + nodes (known k h ps body kids next) → bones_under all p ≡ bones_under below p + bones_under beside p
  split p a b =
      inside p a b
      ∙ counted_other (Some bone) (node_row k h parent (at + 24) (at + 24 + length body) ps (count kids)) (below ++ beside) p (parent_not p a b)
      ∙ counted_append (Some bone) below beside p

  not_beside : (p : ℕ) → row ≤ p → p < suc row + nodes kids → bones_under beside p ≡ 0
  not_beside p a b =
      none_under next parent (suc row + nodes kids) (at + 24 + length body + length (encode kids)) p (parent_not p a (omega arith)) (inl b)

  pub bones_below : bones_under all row ≡ bones kids
  bones_below =
      split row (omega arith) (omega arith)
      ∙ rw (own_under kids row (suc row) (at + 24 + length body) (inl (omega arith)), not_beside row (omega arith) (omega arith)) (omega arith)

  pub inside_below : Inside all below (suc row) (nodes kids)
  inside_below p a b = split p (omega arith) (omega arith) ∙ rw (not_beside p (omega arith) b) (omega arith)

  pub inside_beside : Inside all beside (suc row + nodes kids) (nodes next)
  inside_beside p a b =
      let none = none_under kids row (suc row) (at + 24 + length body) p (λ e. omega arith) (inr a) in
      split p (omega arith) (omega arith) ∙ rw none (omega arith)

  pub outside_beside : Outside parent (suc row + nodes kids) (nodes next)
  outside_beside =
      within parent row (nodes (known k h ps body kids next)) (suc row + nodes kids) (nodes next) out (omega arith) (omega arith)

-- the same of an unknown one
module _ (all : List Row) (k h ps c : ℕ) (rest : List ℕ) (next : Forest) (parent row at : ℕ)
    (out : Outside parent row (nodes (unknown k h ps c rest next)))
    (inside : Inside all (rows (unknown k h ps c rest next) parent row at) row (nodes (unknown k h ps c rest next))) where
  pub inside_next : Inside all (rows next parent (suc row) (at + 24 + length rest)) (suc row) (nodes next)
  inside_next p a b =
      let no : parent ≡ p → ⊥ = λ e. by out e in
      inside p (omega arith) (omega arith)
      ∙ counted_other (Some bone) (node_row k h parent (at + 24) (at + 24 + length rest) ps c) (rows next parent (suc row) (at + 24 + length rest)) p no
    where
      by : Outside parent row (nodes (unknown k h ps c rest next)) → parent ≡ p → ⊥
      by (inl d) e = omega arith
      by (inr d) e = omega arith

  pub outside_next : Outside parent (suc row) (nodes next)
  outside_next = within parent row (nodes (unknown k h ps c rest next)) (suc row) (nodes next) out (omega arith) (omega arith)

-- ---- nodes of a kind and hash

-- how many are reached does not depend on how the rows are numbered
reached_any : (kind hash i j : ℕ) (xs : List Row) → length (reached kind hash i xs) ≡ length (reached kind hash j xs)
unfolding reached
reached_any kind hash i j [] = refl
reached_any kind hash i j (x ∷ xs) =
    by_test (eqb x.kind kind && eqb (hash_of x) hash)
    (λ t. rw t (ap suc (reached_any kind hash (suc i) (suc j) xs)))
    (λ t. rw t (reached_any kind hash (suc i) (suc j) xs))

reached_append : (kind hash i : ℕ) (xs ys : List Row) → length (reached kind hash i (xs ++ ys)) ≡ length (reached kind hash i xs) + length (reached kind hash i ys)
unfolding reached
reached_append kind hash i [] ys = omega arith
reached_append kind hash i (x ∷ xs) ys =
    let e = reached_append kind hash (suc i) xs ys ∙ ap (λ n. length (reached kind hash (suc i) xs) + n) (reached_any kind hash (suc i) i ys) in
    by_test (eqb x.kind kind && eqb (hash_of x) hash) (λ t. rw (t, e) (omega arith)) (λ t. rw (t, e))

pub reached_nodes : (kind hash : ℕ) (f : Forest) (i parent row at : ℕ) → length (reached kind hash i (rows f parent row at)) ≡ reaches kind hash f
unfolding reached
reached_nodes kind hash end i parent row at = refl
reached_nodes kind hash (known k h ps body kids next) i parent row at =
    let here : ℕ = at + 24 + length body in
    let below = rows kids row (suc row) here in
    let beside = rows next parent (suc row + nodes kids) (here + length (encode kids)) in
    let rest : length (reached kind hash (suc i) (below ++ beside)) ≡ reaches kind hash kids + reaches kind hash next
    = reached_append kind hash (suc i) below beside
    ∙ rw (reached_nodes kind hash kids (suc i) row (suc row) here, reached_nodes kind hash next (suc i) parent (suc row + nodes kids) (here + length (encode kids))) in
    rw (hash_back h) (by_test (eqb k kind && eqb h hash) (λ t. rw t (ap suc rest)) (λ t. rw t rest))
reached_nodes kind hash (unknown k h ps c rest next) i parent row at =
    let e = reached_nodes kind hash next (suc i) parent (suc row) (at + 24 + length rest) in
    rw (hash_back h) (by_test (eqb k kind && eqb h hash) (λ t. rw t (ap suc e)) (λ t. rw t e))
