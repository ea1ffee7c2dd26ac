-- A table that is filled with rows: others put in their place, fewer of them, and filled anew.
use Prim.Native.Nat.{ℕ, ◌+◌, ◌-◌, ◌*◌, ◌≤◌, ◌<◌}
use native.Mathlib.Omega.{arith}
use mathlib.Core.Path.{◌≡◌, refl, ap, sym, ◌∙◌}
use mathlib.Core.Bool.{true}
use mathlib.Core.List.{List, [], ◌∷◌, ◌++◌, append_assoc}
use lib.ListN.{length, drop, replicate, length-replicate, replicate-append-replicate, length-append}
use lib.Seq.{sets-eq, drop_at}
use Rattle.table.specs.declared.Row.{Row}
use Rattle.table.specs.Table.{fields, blank, with_row, put_rows, has_room, cleared, flat, filled}
use Rattle.table.proofs.Rows.{put_rows_sets, put_rows_append, length_flat}
use Rattle.table.proofs.Clearing.{has_room_fits, has_room_length, cleared_again, filled_put_rows, length_filled}

-- the zeros after n rows
abbrev zeros : ℕ → List ℕ
zeros n = replicate (8192 - n * 8) 0

filled_is : (t : List ℕ) (rs : List Row) → filled rs t ≡ flat rs ++ (zeros (length rs) ++ drop 8192 t)
unfolding filled
filled_is t rs = append_assoc (flat rs) (zeros (length rs)) (drop 8192 t)

after : (t : List ℕ) (rs : List Row) (n : ℕ) → n ≡ length rs * 8 → drop n (filled rs t) ≡ zeros (length rs) ++ drop 8192 t
after t rs n b = ap (drop n) (filled_is t rs) ∙ drop_at (flat rs) (zeros (length rs) ++ drop 8192 t) n (length_flat rs ∙ sym b)

-- as many rows put from the first on
pub put_filled : (t : List ℕ) (rs qs : List Row) → has_room t ≡ true → length rs ≤ 1024 → length qs ≡ length rs → put_rows (filled rs t) 0 qs ≡ filled qs t
put_filled t rs qs h few e =
    let long = length_filled t rs h few in
    put_rows_sets (filled rs t) 0 qs (omega (arith, has_room_fits t h))
    ∙ sets-eq (flat qs) (filled rs t) (0 * 8) (omega (arith, has_room_fits t h, length_flat qs))
    ∙ ap (λ l. flat qs ++ l) (after t rs (0 * 8 + length (flat qs)) (omega (arith, length_flat qs)))
    ∙ ap (λ n. flat qs ++ (zeros n ++ drop 8192 t)) (sym e)
    ∙ sym (filled_is t qs)

-- a table filled or cleared anew: only what is after its rows matters
module _ (t : List ℕ) (rs : List Row) (h : has_room t ≡ true) (few : length rs ≤ 1024) where
  after_filled : drop 8192 (filled rs t) ≡ drop 8192 t
  unfolding filled
  after_filled = drop_at (flat rs ++ zeros (length rs)) (drop 8192 t) 8192 (length-append (flat rs) (zeros (length rs)) ∙ rw (length-replicate {A = ℕ} (8192 - length rs * 8) 0) (omega (arith, length_flat rs)))

  pub room_filled : has_room (filled rs t) ≡ true
  room_filled = has_room_length (filled rs t) t (length_filled t rs h few) ∙ h

  pub filled_again : (qs : List Row) → filled qs (filled rs t) ≡ filled qs t
  unfolding filled
  filled_again qs = ap (λ l. flat qs ++ zeros (length qs) ++ l) after_filled

  pub cleared_filled : cleared (filled rs t) ≡ cleared t
  cleared_filled = ap cleared (sym (filled_put_rows t rs h few)) ∙ cleared_again t rs h few

flat_append : (xs ys : List Row) → flat (xs ++ ys) ≡ flat xs ++ flat ys
unfolding flat
flat_append [] ys = refl
flat_append (x ∷ xs) ys = ap (λ l. fields x ++ l) (flat_append xs ys) ∙ sym (append_assoc (fields x) (flat xs) (flat ys))

flat_blank : flat (blank ∷ []) ≡ replicate 8 0
unfolding flat
flat_blank = refl

-- a last row of zeros is none
filled_blank : (t : List ℕ) (rs : List Row) → length rs < 1024 → filled (rs ++ blank ∷ []) t ≡ filled rs t
filled_blank t rs less =
    let more : List ℕ = replicate (8192 - (length rs + 1) * 8) 0 in
    let n : 8 + (8192 - (length rs + 1) * 8) ≡ 8192 - length rs * 8 = omega arith in
    let eight : replicate 8 0 ++ (more ++ drop 8192 t) ≡ zeros (length rs) ++ drop 8192 t
    = sym (append_assoc (replicate 8 0) more (drop 8192 t))
    ∙ ap (λ l. l ++ drop 8192 t) (replicate-append-replicate 8 (8192 - (length rs + 1) * 8) 0 ∙ ap (λ m. replicate m 0) n) in
    filled_is t (rs ++ blank ∷ [])
    ∙ ap (λ m. flat (rs ++ blank ∷ []) ++ (zeros m ++ drop 8192 t)) (length-append rs (blank ∷ []))
    ∙ ap (λ l. l ++ (more ++ drop 8192 t)) (flat_append rs (blank ∷ []) ∙ ap (λ l. flat rs ++ l) flat_blank)
    ∙ append_assoc (flat rs) (replicate 8 0) (more ++ drop 8192 t)
    ∙ ap (λ l. flat rs ++ l) eight
    ∙ sym (filled_is t rs)

-- of a filled table's rows one fewer: others put in their place, and zeros for the last
pub fewer_filled : (t : List ℕ) (rs qs : List Row) → has_room t ≡ true → length rs ≤ 1024 → length qs + 1 ≡ length rs
    → with_row (put_rows (filled rs t) 0 qs) (length qs) blank ≡ filled qs t
unfolding put_rows
fewer_filled t rs qs h few e =
    ap (λ i. with_row (put_rows (filled rs t) 0 qs) i blank) (omega arith)
    ∙ sym (put_rows_append (filled rs t) 0 qs (blank ∷ []))
    ∙ put_filled t rs (qs ++ blank ∷ []) h few (length-append qs (blank ∷ []) ∙ e)
    ∙ filled_blank t qs (omega arith)
