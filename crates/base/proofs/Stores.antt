-- Laws of stores at a place, and of what is read where nothing was stored.
use Prim.Native.Nat.{ℕ, zero, suc, ◌+◌, ◌≤◌, ◌<◌}
use native.Mathlib.Omega.{arith}
use native.Mathlib.Numerals.{add-one}
use mathlib.Core.Path.{◌≡◌, refl, ap, sym, ◌∙◌}
use mathlib.Core.List.{List, [], ◌∷◌, ◌++◌, map, map-append}
use lib.Dec.{ltb}
use lib.ListN.{length, get_or, take, drop, set, take-append-drop, length-map, length-set, replicate, length-replicate, get_or-replicate, get_or-eq_default}
use lib.Seq.{sets, set_out, take-nil, take-suc, length-take-le, take-set-le, drop-set-add, drop-set-lt, get_or-set_same, get_or-set_other, set_comm}
use borrow.Author.Tests.{ltb-true, ltb-false}
use Rattle.base.proofs.Tests.{by_test}

module _ {A : Type 0} where
  pub sets_past : (l : List A) (i : ℕ) (vs : List A) → length l ≤ i → sets l i vs ≡ l
  sets_past l i [] h = refl
  sets_past l i (v ∷ vs) h = rw (set_out l i v h) (sets_past l (suc i) vs (omega arith))

  pub sets_append : (l : List A) (i : ℕ) (us vs : List A) → sets l i (us ++ vs) ≡ sets (sets l i us) (i + length us) vs
  sets_append l i [] vs = ap (λ k. sets l k vs) (omega arith)
  sets_append l i (u ∷ us) vs = sets_append (set l i u) (suc i) us vs ∙ ap (λ k. sets (sets (set l i u) (suc i) us) k vs) (omega arith)

  -- one more is stored, after those that were
  pub sets_next : (old : List A) (at : ℕ) (so : List A) {i : ℕ} (v : A) {new : List A} → length so ≡ i → new ≡ sets old at so → set new (at + i) v ≡ sets old at (so ++ (v ∷ []))
  sets_next old at so {i} v here e =
      ap (λ m. set m (at + i) v) e ∙ ap (λ k. set (sets old at so) (at + k) v) (sym here) ∙ sym (sets_append old at so (v ∷ []))

  -- one more of a list is stored after those that were
  pub copy_next : (old : List A) (at : ℕ) (bytes : List A) (i : ℕ) (d : A) → i < length bytes → {new : List A} → new ≡ sets old at (take i bytes)
      → set new (at + i) (get_or bytes i d) ≡ sets old at (take (i + 1) bytes)
  copy_next old at bytes i d h e =
      let here : length (take i bytes) ≡ i = length-take-le i bytes (omega arith) in
      let more : take (i + 1) bytes ≡ take i bytes ++ (get_or bytes i d ∷ []) = rw (add-one i) (take-suc bytes i d h) in
      sets_next old at (take i bytes) (get_or bytes i d) here e ∙ ap (sets old at) (sym more)

  -- stores past the end may be left out
  pub sets_cut : (l : List A) (i n : ℕ) (vs : List A) → length l ≤ i + n → sets l i (take n vs) ≡ sets l i vs
  sets_cut l i n [] h = ap (sets l i) (take-nil n)
  sets_cut l i zero (v ∷ vs) h = sym (sets_past l i (v ∷ vs) (omega (arith, h)))
  sets_cut l i (suc n) (v ∷ vs) h = sets_cut (set l i v) (suc i) n vs (rw length-set (omega (arith, h)))

  -- a store before others
  pub set_sets : (l : List A) (i : ℕ) (a : A) (j : ℕ) (vs : List A) → i < j → set (sets l j vs) i a ≡ sets (set l i a) j vs
  set_sets l i a j [] h = refl
  set_sets l i a j (v ∷ vs) h = set_sets (set l j v) i a (suc j) vs (omega arith) ∙ ap (λ z. sets z (suc j) vs) (set_comm l j i v a (λ e. omega arith))

  -- stores into the part from `a` on
  pub sets_rest : (a : ℕ) (vs l : List A) (j : ℕ) → take a l ++ sets (drop a l) j vs ≡ sets l (a + j) vs
  sets_rest a [] l j = take-append-drop a l
  sets_rest a (v ∷ vs) l j =
      ap (λ d. take a l ++ sets d (suc j) vs) (sym (drop-set-add a l j v))
      ∙ ap (λ t. t ++ sets (drop a (set l (a + j) v)) (suc j) vs) (sym (take-set-le a l (a + j) v (omega arith)))
      ∙ sets_rest a vs (set l (a + j) v) (suc j)
      ∙ ap (λ k. sets (set l (a + j) v) k vs) (omega arith)

  -- what stands before the stores, or after them
  pub get_d_sets_other : (l : List A) (i : ℕ) (vs : List A) (j : ℕ) (d : A) → (i ≤ j → i + length vs ≤ j) → get_or (sets l i vs) j d ≡ get_or l j d
  get_d_sets_other l i [] j d h = refl
  get_d_sets_other l i (v ∷ vs) j d h =
      get_d_sets_other (set l i v) (suc i) vs j d (λ b. omega (arith, h (omega arith)))
      ∙ get_or-set_other l i j v d (λ e. omega (arith, h (omega arith)))

  pub get_d_sets : (l : List A) (i : ℕ) (vs : List A) (j : ℕ) (d : A) → i + length vs ≤ length l → j < length vs → get_or (sets l i vs) (i + j) d ≡ get_or vs j d
  get_d_sets l i [] j d h b = absurd (omega arith)
  get_d_sets l i (v ∷ vs) zero d h b =
      ap (λ k. get_or (sets (set l i v) (suc i) vs) k d) (omega arith)
      ∙ get_d_sets_other (set l i v) (suc i) vs i d (λ e. omega arith)
      ∙ get_or-set_same l i v d (omega arith)
  get_d_sets l i (v ∷ vs) (suc j) d h b =
      ap (λ k. get_or (sets (set l i v) (suc i) vs) k d) (omega arith)
      ∙ get_d_sets (set l i v) (suc i) vs j d (simp length-set (omega arith)) (omega arith)

  pub drop_sets : (n : ℕ) (l : List A) (i : ℕ) (vs : List A) → i + length vs ≤ n → drop n (sets l i vs) ≡ drop n l
  drop_sets n l i [] h = refl
  drop_sets n l i (v ∷ vs) h = drop_sets n (set l i v) (suc i) vs (omega arith) ∙ drop-set-lt n l i v (omega arith)

-- one more of a list is stored from the start on, after what was stored of it before
pub sets_more : {A B : Type 0} (f : A → B) (l : List A) (i : ℕ) (d : A) → i < length l → {v : B} → v ≡ f (get_or l i d) →
    (old : List B) {new : List B} → new ≡ sets old 0 (map f (take i l)) → set new i v ≡ sets old 0 (map f (take (i + 1) l))
sets_more f l i d h {v} e old {new} n =
    let so = map f (take i l) in
    let here : length so ≡ i = length-map (take i l) f ∙ length-take-le i l (omega arith) in
    let first : i ≡ 0 + i = omega arith in
    let all : map f (take (i + 1) l) ≡ so ++ (v ∷ []) = rw (add-one i, take-suc l i d h, e) (map-append f (take i l) (get_or l i d ∷ [])) in
    ap (λ k. set new k v) first ∙ sets_next old 0 so v here n ∙ ap (sets old 0) (sym all)

-- what is read of a list of zeros
pub zeros : (n p : ℕ) → get_or {A = ℕ} (replicate n 0) p 0 ≡ 0
zeros n p =
    by_test (ltb p n) (λ t. get_or-replicate n p 0 0 (ltb-true p n t))
    (λ t. get_or-eq_default (replicate n 0) 0 {n = p} (omega (arith, ltb-false p n t, length-replicate {A = ℕ} n 0)))
