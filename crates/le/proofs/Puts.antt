-- What is stored into the part of some bytes from a place on.
use Prim.Native.Nat.{ℕ, ◌+◌, ◌-◌, ◌/◌, ◌%◌, ◌^◌, ◌≤◌, min}
use native.Mathlib.Omega.{arith}
use native.Mathlib.Nat.{zero-add, add-zero}
use mathlib.Core.Path.{◌≡◌, ap, sym, ◌∙◌}
use mathlib.Core.Logic.{◌⊎◌, inl, inr}
use mathlib.Core.List.{List, [], ◌++◌, append-nil}
use lib.ListN.{length, take, drop, length-drop, drop_of_length-le}
use lib.Dec.{ltb}
use lib.Seq.{sets, sets-eq, take-length, take-add, length-take-le}
use borrow.Rule.Slice.PartMut.{put_mid}
use borrow.Author.Tests.{ltb-true, ltb-false}
use Rattle.base.proofs.Tests.{by_test}
use Rattle.base.proofs.Stores.{sets_past, sets_append, sets_rest, sets_cut}
use Rattle.le.specs.Le.{le}
use Rattle.le.proofs.Laws.{rest, rest_drop, length_rest, le_halves, length_le}

-- nothing is stored past the end
pub put_past : (w : ℕ) (l : List ℕ) (at x : ℕ) → length l ≤ at → l ≡ sets l at (le w x)
put_past w l at x h = sym (sets_past l at (le w x) h)

-- some bytes stored into the part from a place on
pub put_rest : (l : List ℕ) (at : ℕ) (bytes : List ℕ) {both : List ℕ} → both ≡ sets (rest l at) 0 bytes → put_mid at (length l - at) l both ≡ sets l at bytes
put_rest l at bytes {both} e =
    let stored : both ≡ sets (drop at l) 0 bytes = e ∙ ap (λ d. sets d 0 bytes) (rest_drop l at) in
    let none : drop (length l - at) (drop at l) ≡ [] = drop_of_length-le (drop at l) {i = length l - at} (simp length-drop (omega arith)) in
    rw (stored, none, append-nil) (sets_rest at bytes l 0 ∙ ap (λ k. sets l k bytes) (add-zero at))

-- bytes stored at the start, all there
pub put_first : (l bytes : List ℕ) (n : ℕ) → length bytes ≡ n → n ≤ length l → bytes ++ drop n l ≡ sets l 0 bytes
put_first l bytes n e h = rw (← e) (rw (← (zero-add (length bytes))) (sym (sets-eq bytes l 0 (omega (arith, e, h)))))

-- two halves stored into the part from a place on are the number stored at the place
pub put_halves : (w : ℕ) (l : List ℕ) (at x : ℕ) {first both : List ℕ} → first ≡ sets (rest l at) 0 (le w (x % 256 ^ w)) → both ≡ sets first w (le w (x / 256 ^ w))
    → put_mid at (length l - at) l both ≡ sets l at (le (w + w) x)
put_halves w l at x {first} {both} e f =
    put_rest l at (le (w + w) x) {both = both}
    (rw (f, e, le_halves w x, sets_append (rest l at) 0 (le w (x % 256 ^ w)) (le w (x / 256 ^ w)), length_le w (x % 256 ^ w), zero-add w))

-- n bytes, all of them or as many as have room
pub put_part : (l : List ℕ) (at : ℕ) (bytes : List ℕ) (n : ℕ) → (n ≡ length bytes) ⊎ (n ≡ length (rest l at)) → {both : List ℕ} → both ≡ sets (rest l at) 0 (take n bytes)
    → put_mid at (length l - at) l both ≡ sets l at bytes
put_part l at bytes n h e = put_rest l at bytes (e ∙ all h)
  where
    all : (n ≡ length bytes) ⊎ (n ≡ length (rest l at)) → sets (rest l at) 0 (take n bytes) ≡ sets (rest l at) 0 bytes
    all (inl f) = ap (λ k. sets (rest l at) 0 (take k bytes)) f ∙ ap (sets (rest l at) 0) (take-length bytes)
    all (inr f) = sets_cut (rest l at) 0 n bytes (omega (arith, f))

-- n bytes, the first of them before the others
pub put_two : (l bytes : List ℕ) (n head : ℕ) → head ≤ n → n ≤ length bytes → {first both : List ℕ} → first ≡ sets l 0 (take head bytes) →
    both ≡ sets (rest first head) 0 (take (n - head) (rest bytes head)) → put_mid head (length first - head) first both ≡ sets l 0 (take n bytes)
put_two l bytes n head h k {first} e f =
    let others = take (n - head) (drop head bytes) in
    let many : 0 + length (take head bytes) ≡ head = omega (arith, length-take-le head bytes (omega (arith, h, k))) in
    let whole : head + (n - head) ≡ n = omega (arith, h) in
    put_rest first head others (f ∙ ap (λ d. sets (rest first head) 0 (take (n - head) d)) (rest_drop bytes head))
    ∙ ap (λ m. sets m head others) e ∙ ap (λ i. sets (sets l 0 (take head bytes)) i others) (sym many) ∙ sym (sets_append l 0 (take head bytes) others)
    ∙ ap (sets l 0) (sym (take-add head (n - head) bytes) ∙ ap (λ i. take i bytes) whole)

-- as many of the bytes as have room, into the part from a place on
pub put_most : (l : List ℕ) (at : ℕ) (bytes : List ℕ) (n : ℕ) → n ≡ min (length bytes) (length l - at) → {both : List ℕ} → both ≡ sets (rest l at) 0 (take n bytes)
    → put_mid at (length l - at) l both ≡ sets l at bytes
put_most l at bytes n e {both} f =
    by_test (ltb (length bytes) (length l - at))
    (λ t. put_part l at bytes n (inl (omega (arith, e, ltb-true (length bytes) (length l - at) t))) f)
    (λ t. put_part l at bytes n (inr (omega (arith, e, length_rest l at, ltb-false (length bytes) (length l - at) t))) f)
