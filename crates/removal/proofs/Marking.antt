-- Where the k-th row that is left stands among all rows, and the forest with one mark more.
use Prim.Native.Nat.{ℕ, zero, suc, ◌+◌, ◌-◌, ◌≤◌, ◌<◌}
use native.Mathlib.Omega.{arith}
use mathlib.Core.Path.{◌≡◌, refl, ap, sym, subst, ◌∙◌}
use mathlib.Core.Logic.{◌⊎◌, inl, inr}
use mathlib.Core.Bool.{Bool, true, false, not, true≢false}
use mathlib.Core.Option.{none, some}
use mathlib.Core.List.{List, [], ◌∷◌, ◌++◌, map-append}
use lib.ListN.{length, get_or, set, length-append, get_or-append}
use lib.Seq.{set-append_left, get_or-append-add}
use Rattle.kinds.specs.Kinds.{is_known}
use Rattle.table.specs.declared.Row.{Row}
use Rattle.table.specs.Table.{blank}
use Rattle.format.specs.Forest.{Forest, end, known, unknown, nodes, encode}
use Rattle.format.specs.Rows.{rows, own_bytes}
use Rattle.format.specs.Layout.{WellFormed}
use Rattle.format.proofs.Headers.{length_header}
use Rattle.format.proofs.Rows.{length_rows}
use Rattle.removal.specs.Tally.{row_numbered, no_marks}
use Rattle.removal.specs.Left.{unmarked}
use Rattle.removal.proofs.Marked.{Marked, mend, mkn, mun, bare, kept, marks, fresh, bare_fresh, kept_fresh, length_marks}

-- the row k of those that are left is row i of all; whether its node is a known one
pub data At : Marked → Bool → (k i : ℕ) → Type 0 where
  here_known : {c h p : ℕ} {body : List ℕ} {kids next : Marked} → At (mkn c h p body kids next) true 0 0
  here_unknown : {c h p n : ℕ} {rest : List ℕ} {next : Marked} → At (mun false c h p n rest next) false 0 0
  past_gone : {b : Bool} {k i c h p n : ℕ} {rest : List ℕ} {next : Marked} → At next b k i → At (mun true c h p n rest next) b k (suc i)
  past_left : {b : Bool} {k i c h p n : ℕ} {rest : List ℕ} {next : Marked} → At next b k i → At (mun false c h p n rest next) b (suc k) (suc i)
  below : {b : Bool} {k i c h p : ℕ} {body : List ℕ} {kids next : Marked} → At kids b k i → At (mkn c h p body kids next) b (suc k) (suc i)
  beside : {b : Bool} {k i c h p : ℕ} {body : List ℕ} {kids next : Marked} → At next b k i
      → At (mkn c h p body kids next) b (suc (nodes (kept kids) + k)) (suc (nodes (bare kids) + i))

-- a row that is left stands somewhere; there is no other
pub record Stands (m : Marked) (k : ℕ) : Type 0 where
  pub is_known_node : Bool
  pub row : ℕ
  pub stands : At m is_known_node k row

stands_beside : {c h p : ℕ} {body : List ℕ} {kids next : Marked} (k : ℕ) → nodes (kept kids) ≤ k → Stands next (k - nodes (kept kids))
    → Stands (mkn c h p body kids next) (suc k)
stands_beside {c} {h} {p} {body} {kids} {next} k l st =
    let e : nodes (kept kids) + (k - nodes (kept kids)) ≡ k = omega arith in
    let there : ℕ = suc (nodes (bare kids) + st.row) in
    record {
      is_known_node = st.is_known_node;
      row = there;
      stands = subst (λ n. At (mkn c h p body kids next) st.is_known_node (suc n) there) e (beside st.stands);
    }

pub stands_at : (m : Marked) (k : ℕ) → Stands m k ⊎ (nodes (kept m) ≤ k)
stands_at mend k = inr (omega arith)
stands_at (mkn c h p body kids next) zero = inl (record { is_known_node = true; row = 0; stands = here_known })
stands_at (mkn c h p body kids next) (suc k) = go (stands_at kids k) (stands_at next (k - nodes (kept kids)))
  where
    go : Stands kids k ⊎ (nodes (kept kids) ≤ k) → Stands next (k - nodes (kept kids)) ⊎ (nodes (kept next) ≤ k - nodes (kept kids))
        → Stands (mkn c h p body kids next) (suc k) ⊎ (nodes (kept (mkn c h p body kids next)) ≤ suc k)
    go (inl st) o = inl (record { is_known_node = st.is_known_node; row = suc st.row; stands = below st.stands })
    go (inr l) (inl st) = inl (stands_beside k l st)
    go (inr l) (inr n) = inr (omega arith)
stands_at (mun true c h p n rest next) k = go (stands_at next k)
  where
    go : Stands next k ⊎ (nodes (kept next) ≤ k) → Stands (mun true c h p n rest next) k ⊎ (nodes (kept next) ≤ k)
    go (inl st) = inl (record { is_known_node = st.is_known_node; row = suc st.row; stands = past_gone st.stands })
    go (inr l) = inr l
stands_at (mun false c h p n rest next) zero = inl (record { is_known_node = false; row = 0; stands = here_unknown })
stands_at (mun false c h p n rest next) (suc k) = go (stands_at next k)
  where
    go : Stands next k ⊎ (nodes (kept next) ≤ k) → Stands (mun false c h p n rest next) (suc k) ⊎ (suc (nodes (kept next)) ≤ suc k)
    go (inl st) = inl (record { is_known_node = st.is_known_node; row = suc st.row; stands = past_left st.stands })
    go (inr l) = inr (omega arith)

-- ---- the tally's numbering of the rows
pub unmarked_append : (xs ys : List Bool) → unmarked (xs ++ ys) ≡ unmarked xs + unmarked ys
unfolding unmarked
unmarked_append [] ys = omega arith
unmarked_append (true ∷ xs) ys = unmarked_append xs ys
unmarked_append (false ∷ xs) ys = omega (arith, unmarked_append xs ys)

pub unmarked_marks : (m : Marked) → unmarked (marks m) ≡ nodes (kept m)
unfolding unmarked
unmarked_marks mend = refl
unmarked_marks (mkn c h p body kids next) = omega (arith, unmarked_append (marks kids) (marks next), unmarked_marks kids, unmarked_marks next)
unmarked_marks (mun true c h p n rest next) = unmarked_marks next
unmarked_marks (mun false c h p n rest next) = ap suc (unmarked_marks next)

numbered_first : (b : ℕ) (xs ys : List Bool) (k i : ℕ) → row_numbered b xs k ≡ some i → row_numbered b (xs ++ ys) k ≡ some i
unfolding row_numbered
numbered_first b [] ys k i e = absurd (let z : ◌≡◌ {A = ℕ} 0 1 = cc in omega arith)
numbered_first b (true ∷ xs) ys k i e = numbered_first (suc b) xs ys k i e
numbered_first b (false ∷ xs) ys zero i e = e
numbered_first b (false ∷ xs) ys (suc k) i e = numbered_first (suc b) xs ys k i e

numbered_second : (b : ℕ) (xs ys : List Bool) (k : ℕ) → row_numbered b (xs ++ ys) (unmarked xs + k) ≡ row_numbered (b + length xs) ys k
unfolding row_numbered unmarked
numbered_second b [] ys k =
    let e : 0 + k ≡ k = omega arith in
    let f : b + 0 ≡ b = omega arith in
    rw (e, f)
numbered_second b (true ∷ xs) ys k =
    let e : b + suc (length xs) ≡ suc b + length xs = omega arith in
    numbered_second (suc b) xs ys k ∙ ap (λ n. row_numbered n ys k) (sym e)
numbered_second b (false ∷ xs) ys k =
    let e : b + suc (length xs) ≡ suc b + length xs = omega arith in
    let f : suc (unmarked xs) + k ≡ suc (unmarked xs + k) = omega arith in
    rw f (numbered_second (suc b) xs ys k ∙ ap (λ n. row_numbered n ys k) (sym e))

pub numbered_at : {m : Marked} {z : Bool} {k i : ℕ} → At m z k i → (b : ℕ) → row_numbered b (marks m) k ≡ some (b + i)
unfolding row_numbered
numbered_at here_known b = ap some (omega arith)
numbered_at here_unknown b = ap some (omega arith)
numbered_at (past_gone a) b = numbered_at a (suc b) ∙ ap some (omega arith)
numbered_at (past_left a) b = numbered_at a (suc b) ∙ ap some (omega arith)
numbered_at (below {k = k} {i = i} {kids = kids} {next = next} a) b =
    numbered_first (suc b) (marks kids) (marks next) k (b + suc i) (numbered_at a (suc b) ∙ ap some (omega arith))
numbered_at (beside {k = k} {i = i} {kids = kids} {next = next} a) b =
    rw (← (unmarked_marks kids))
    (numbered_second (suc b) (marks kids) (marks next) k ∙ numbered_at a (suc b + length (marks kids)) ∙ ap some (omega (arith, length_marks kids)))

pub numbered_none : (b : ℕ) (ms : List Bool) (k : ℕ) → unmarked ms ≤ k → row_numbered b ms k ≡ none
unfolding row_numbered unmarked
numbered_none b [] k l = refl
numbered_none b (true ∷ ms) k l = numbered_none (suc b) ms k l
numbered_none b (false ∷ ms) zero l = absurd (omega arith)
numbered_none b (false ∷ ms) (suc k) l = numbered_none (suc b) ms k (omega arith)

-- ---- the node at a row
get_d_second : (xs ys : List Row) (n i : ℕ) → n ≡ length xs → get_or (xs ++ ys) (n + i) blank ≡ get_or ys i blank
get_d_second xs ys n i e = rw e (get_or-append-add xs ys i blank)

module _ (P : Row → Type 0) where
  row_below : (kids next : Forest) (p row at p' row' at' i : ℕ) → i < nodes kids → P (get_or (rows kids p row at) i blank)
      → P (get_or (rows kids p row at ++ rows next p' row' at') i blank)
  row_below kids next p row at p' row' at' i l h =
      rw (get_or-append (rows kids p row at) (rows next p' row' at') blank i (omega (arith, length_rows kids p row at))) h

  row_beside : (kids next : Forest) (p row at p' row' at' i : ℕ) → P (get_or (rows next p' row' at') i blank)
      → P (get_or (rows kids p row at ++ rows next p' row' at') (nodes kids + i) blank)
  row_beside kids next p row at p' row' at' i h = rw (get_d_second (rows kids p row at) (rows next p' row' at') (nodes kids) i (sym (length_rows kids p row at))) h

pub at_left : {m : Marked} {z : Bool} {k i : ℕ} → At m z k i → k < nodes (kept m)
at_left here_known = omega arith
at_left here_unknown = omega arith
at_left (past_gone a) = at_left a
at_left (past_left a) = omega (arith, at_left a)
at_left (below a) = omega (arith, at_left a)
at_left (beside a) = omega (arith, at_left a)

pub at_all : {m : Marked} {z : Bool} {k i : ℕ} → At m z k i → i < nodes (bare m)
at_all here_known = omega arith
at_all here_unknown = omega arith
at_all (past_gone a) = omega (arith, at_all a)
at_all (past_left a) = omega (arith, at_all a)
at_all (below a) = omega (arith, at_all a)
at_all (beside a) = omega (arith, at_all a)

abbrev IsOf : Bool → Row → Type 0
IsOf z r = is_known r.kind ≡ z

pub kind_at : {m : Marked} {z : Bool} {k i : ℕ} → At m z k i → WellFormed (bare m) → (p row at : ℕ) → is_known (get_or (rows (bare m) p row at) i blank).kind ≡ z
kind_at here_known w p row at = w.0
kind_at here_unknown w p row at = w.0
kind_at (past_gone a) w p row at = kind_at a w.3 p (suc row) _
kind_at (past_left a) w p row at = kind_at a w.3 p (suc row) _
kind_at (below {b = z} {i = i} {kids = kids} {next = next} a) w p row at =
    row_below (IsOf z) (bare kids) (bare next) _ _ _ _ _ _ i (at_all a) (kind_at a w.4 row (suc row) _)
kind_at (beside {b = z} {i = i} {kids = kids} {next = next} a) w p row at =
    row_beside (IsOf z) (bare kids) (bare next) _ _ _ _ _ _ i (kind_at a w.5 p (suc row + nodes (bare kids)) _)

-- ---- the same forest with an unknown node marked; and what is left of it, with just that mark
abbrev pub mark : {m : Marked} {z : Bool} {k i : ℕ} → At m z k i → Marked
mark (here_known {c} {h} {p} {body} {kids} {next}) = mkn c h p body kids next
mark (here_unknown {c} {h} {p} {n} {rest} {next}) = mun true c h p n rest next
mark (past_gone {c = c} {h = h} {p = p} {n = n} {rest = rest} a) = mun true c h p n rest (mark a)
mark (past_left {c = c} {h = h} {p = p} {n = n} {rest = rest} a) = mun false c h p n rest (mark a)
mark (below {c = c} {h = h} {p = p} {body = body} {next = next} a) = mkn c h p body (mark a) next
mark (beside {c = c} {h = h} {p = p} {body = body} {kids = kids} a) = mkn c h p body kids (mark a)

abbrev pub single : {m : Marked} {z : Bool} {k i : ℕ} → At m z k i → Marked
single (here_known {c} {h} {p} {body} {kids} {next}) = mkn c h p body (fresh (kept kids)) (fresh (kept next))
single (here_unknown {c} {h} {p} {n} {rest} {next}) = mun true c h p n rest (fresh (kept next))
single (past_gone a) = single a
single (past_left {c = c} {h = h} {p = p} {n = n} {rest = rest} a) = mun false c h p n rest (single a)
single (below {c = c} {h = h} {p = p} {body = body} {next = next} a) = mkn c h p body (single a) (fresh (kept next))
single (beside {c = c} {h = h} {p = p} {body = body} {kids = kids} a) = mkn c h p body (fresh (kept kids)) (single a)

pub bare_mark : {m : Marked} {z : Bool} {k i : ℕ} (a : At m z k i) → bare (mark a) ≡ bare m
bare_mark here_known = refl
bare_mark here_unknown = refl
bare_mark (past_gone a) = cc (bare_mark a)
bare_mark (past_left a) = cc (bare_mark a)
bare_mark (below a) = cc (bare_mark a)
bare_mark (beside a) = cc (bare_mark a)

pub bare_single : {m : Marked} {z : Bool} {k i : ℕ} (a : At m z k i) → bare (single a) ≡ kept m
bare_single (here_known {kids = kids} {next = next}) = cc (bare_fresh (kept kids), bare_fresh (kept next))
bare_single (here_unknown {next = next}) = cc (bare_fresh (kept next))
bare_single (past_gone a) = bare_single a
bare_single (past_left a) = cc (bare_single a)
bare_single (below {next = next} a) = cc (bare_single a, bare_fresh (kept next))
bare_single (beside {kids = kids} a) = cc (bare_single a, bare_fresh (kept kids))

pub kept_single : {m : Marked} {z : Bool} {k i : ℕ} (a : At m z k i) → kept (single a) ≡ kept (mark a)
kept_single (here_known {kids = kids} {next = next}) = cc (kept_fresh (kept kids), kept_fresh (kept next))
kept_single (here_unknown {next = next}) = kept_fresh (kept next)
kept_single (past_gone a) = kept_single a
kept_single (past_left a) = cc (kept_single a)
kept_single (below {next = next} a) = cc (kept_single a, kept_fresh (kept next))
kept_single (beside {kids = kids} a) = cc (kept_single a, kept_fresh (kept kids))

-- a mark set in the first of two lists, and in the second
set_first : (xs ys xs' : List Bool) (n i : ℕ) (z : Bool) → i < n → length xs ≡ n → xs' ≡ set xs i z → xs' ++ ys ≡ set (xs ++ ys) i z
set_first xs ys xs' n i z l h e = ap (λ x. x ++ ys) e ∙ sym (set-append_left xs ys i z (omega arith))

set_second : (xs ys ys' : List Bool) (n i : ℕ) (z : Bool) → length xs ≡ n → ys' ≡ set ys i z → xs ++ ys' ≡ set (xs ++ ys) (n + i) z
set_second [] ys ys' n i z h e = let f : n + i ≡ i = omega arith in rw f e
set_second (x ∷ xs) ys ys' n i z h e =
    let f : n + i ≡ suc (length xs + i) = omega arith in
    rw f (ap (λ l. x ∷ l) (set_second xs ys ys' (length xs) i z refl e))

pub marks_mark : {m : Marked} {z : Bool} {k i : ℕ} (a : At m z k i) → marks (mark a) ≡ set (marks m) i (not z)
marks_mark here_known = refl
marks_mark here_unknown = refl
marks_mark (past_gone a) = cc (marks_mark a)
marks_mark (past_left a) = cc (marks_mark a)
marks_mark (below {i = i} {kids = kids} {next = next} a) =
    ap (λ l. false ∷ l) (set_first (marks kids) (marks next) (marks (mark a)) (nodes (bare kids)) i _ (at_all a) (length_marks kids) (marks_mark a))
marks_mark (beside {i = i} {kids = kids} {next = next} a) =
    ap (λ l. false ∷ l) (set_second (marks kids) (marks next) (marks (mark a)) (nodes (bare kids)) i _ (length_marks kids) (marks_mark a))

-- no row is marked
pub marks_fresh : (f : Forest) (p row at : ℕ) → marks (fresh f) ≡ no_marks (rows f p row at)
marks_fresh end p row at = refl
marks_fresh (known k h n body kids next) p row at =
    let here : ℕ = at + 24 + length body in
    let there : ℕ = here + length (encode kids) in
    let below = marks_fresh kids row (suc row) here in
    let beside = marks_fresh next p (suc row + nodes kids) there in
    ap (λ l. false ∷ l) (cc (below, beside) ∙ sym (map-append _ (rows kids row (suc row) here) (rows next p (suc row + nodes kids) there)))
marks_fresh (unknown k h n c rest next) p row at = ap (λ l. false ∷ l) (marks_fresh next p (suc row) (at + 24 + length rest))

fresh_length : (f : Forest) → length (marks (fresh f)) ≡ nodes f
fresh_length f = length_marks (fresh f) ∙ ap nodes (bare_fresh f)

pub marks_single : {m : Marked} {z : Bool} {k i : ℕ} (a : At m z k i) → marks (single a) ≡ set (marks (fresh (kept m))) k (not z)
marks_single here_known = refl
marks_single here_unknown = refl
marks_single (past_gone a) = marks_single a
marks_single (past_left a) = cc (marks_single a)
marks_single (below {k = k} {kids = kids} {next = next} a) =
    let f = kept kids in
    let g = kept next in
    ap (λ l. false ∷ l) (set_first (marks (fresh f)) (marks (fresh g)) (marks (single a)) (nodes f) k _ (at_left a) (fresh_length f) (marks_single a))
marks_single (beside {k = k} {kids = kids} {next = next} a) =
    let f = kept kids in
    let g = kept next in
    ap (λ l. false ∷ l) (set_second (marks (fresh f)) (marks (fresh g)) (marks (single a)) (nodes f) k _ (fresh_length f) (marks_single a))

-- ---- the length without it

-- the own bytes of an unknown node
abbrev pub field_own : {m : Marked} {z : Bool} {k i : ℕ} → At m z k i → ℕ
field_own here_known = 0
field_own (here_unknown {rest = rest}) = 24 + length rest
field_own (past_gone a) = field_own a
field_own (past_left a) = field_own a
field_own (below a) = field_own a
field_own (beside a) = field_own a

pub length_mark : {m : Marked} {z : Bool} {k i : ℕ} (a : At m z k i) → length (encode (kept (mark a))) + field_own a ≡ length (encode (kept m))
length_mark here_known = omega arith
length_mark here_unknown = simp (length-append, length_header) (omega arith)
length_mark (past_gone a) = length_mark a
length_mark (past_left a) = let b = length_mark a in simp (length-append, length_header) (omega arith)
length_mark (below a) = let b = length_mark a in simp (length-append, length_header) (omega arith)
length_mark (beside a) = let b = length_mark a in simp (length-append, length_header) (omega arith)

abbrev OwnIs : ℕ → Row → Type 0
OwnIs n r = own_bytes r ≡ n

pub own_at : {m : Marked} {z : Bool} {k i : ℕ} (a : At m z k i) → (p row at : ℕ) → z ≡ false → own_bytes (get_or (rows (kept m) p row at) k blank) ≡ field_own a
own_at here_known p row at e = absurd (true≢false e)
own_at here_unknown p row at e = omega arith
own_at (past_gone a) p row at e = own_at a p row at e
own_at (past_left a) p row at e = own_at a p (suc row) _ e
own_at (below {k = k} {kids = kids} {next = next} a) p row at e =
    row_below (OwnIs (field_own a)) (kept kids) (kept next) _ _ _ _ _ _ k (at_left a) (own_at a row (suc row) _ e)
own_at (beside {k = k} {kids = kids} {next = next} a) p row at e =
    row_beside (OwnIs (field_own a)) (kept kids) (kept next) _ _ _ _ _ _ k (own_at a p (suc row + nodes (kept kids)) _ e)

pub kind_left : {m : Marked} {z : Bool} {k i : ℕ} → At m z k i → WellFormed (bare m) → (p row at : ℕ) → is_known (get_or (rows (kept m) p row at) k blank).kind ≡ z
kind_left here_known w p row at = w.0
kind_left here_unknown w p row at = w.0
kind_left (past_gone a) w p row at = kind_left a w.3 p row at
kind_left (past_left a) w p row at = kind_left a w.3 p (suc row) _
kind_left (below {b = z} {k = k} {kids = kids} {next = next} a) w p row at =
    row_below (IsOf z) (kept kids) (kept next) _ _ _ _ _ _ k (at_left a) (kind_left a w.4 row (suc row) _)
kind_left (beside {b = z} {k = k} {kids = kids} {next = next} a) w p row at =
    row_beside (IsOf z) (kept kids) (kept next) _ _ _ _ _ _ k (kind_left a w.5 p (suc row + nodes (kept kids)) _)
