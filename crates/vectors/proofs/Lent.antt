-- Laws of what lent buffers hold at first, and of checksums.
use Prim.Native.Nat.{ℕ, zero, suc, ◌+◌, ◌-◌, ◌*◌, ◌%◌, ◌≤◌, ◌<◌}
use native.Mathlib.Omega.{arith}
use native.Mathlib.Numerals.{add-one}
use mathlib.Core.Path.{◌≡◌, refl, ap, sym, ◌∙◌}
use mathlib.Core.List.{List, [], ◌∷◌, ◌++◌, append-nil, append_assoc, map}
use Rattle.std.specs.List.{fold}
use Rattle.std.proofs.lemmas.List.{map-id}
use lib.ListN.{length, take, set, replicate}
use lib.Seq.{take_all, take-suc-set}
use Rattle.le.specs.Le.{number_at}
use Rattle.vectors.specs.Buffers.{space, rising, numbers_read, taking, checksum_from, checksum}

-- ---- numbers stored one after the other: those that are stored, and those that are left, are the whole

module _ (l : List ℕ) (i : ℕ) {whole : List ℕ} where
  pub stored_more : (x : ℕ) (rest : List ℕ) → i < length l → take i l ++ (x ∷ rest) ≡ whole → take (i + 1) (set l i x) ++ rest ≡ whole
  stored_more x rest h e =
      ap (λ k. take k (set l i x) ++ rest) (add-one i) ∙ ap (λ t. t ++ rest) (take-suc-set l i x h) ∙ append_assoc (take i l) (x ∷ []) rest ∙ e

  pub stored_all : length l ≤ i → take i l ++ [] ≡ whole → l ≡ whole
  stored_all h e = sym (append-nil (take i l) ∙ take_all i l h) ∙ e

-- of a buffer of n, what is left from the i-th on
module _ (n i : ℕ) where
  pub rising_more : (v : ℕ) → i < n → rising (n - i) v ≡ v ∷ rising (n - (i + 1)) ((v + 37) % 256)
  unfolding rising
  rising_more v h = let one : n - i ≡ suc (n - (i + 1)) = omega arith in rw one

  pub rising_none : (v : ℕ) → n ≤ i → rising (n - i) v ≡ []
  unfolding rising
  rising_none v h = let none : n - i ≡ 0 = omega arith in rw none

  pub numbers_more : (s : List ℕ) → i < n → numbers_read s i (n - i) ≡ number_at 4 s (i * 4) ∷ numbers_read s (i + 1) (n - (i + 1))
  unfolding numbers_read
  numbers_more s h = let one : n - i ≡ suc (n - (i + 1)) = omega arith in ap (numbers_read s i) one ∙ ap (λ k. number_at 4 s (i * 4) ∷ numbers_read s k (n - (i + 1))) (sym (add-one i))

  pub numbers_none : (s : List ℕ) → n ≤ i → numbers_read s i (n - i) ≡ []
  unfolding numbers_read
  numbers_none s h = let none : n - i ≡ 0 = omega arith in rw none

-- ---- checksums, for every type of number

-- of numbers of any type, each by its value
pub folded : {A : Type 0} (value : A → ℕ) (sum : ℕ) (xs : List A) → fold (λ s x. taking s (value x)) sum xs ≡ checksum_from sum (map value xs)
unfolding checksum_from
folded value sum [] = refl
folded value sum (x ∷ xs) = folded value (taking sum (value x)) xs

pub plain : (ns : List ℕ) → checksum (map (λ n. n) ns) ≡ checksum ns
plain ns = ap checksum (map-id ns)

-- ---- the numbers of a lent table

taken : (n m x : ℕ) → n ≤ m → take n (replicate m x) ≡ replicate n x
taken zero m x h = refl
taken (suc n) zero x h = absurd (omega (arith, h))
taken (suc n) (suc m) x h = ap (λ l. x ∷ l) (taken n m x (omega (arith, h)))

pub taken_space : (n seed : ℕ) → n ≤ 8300 → take n (space seed) ≡ replicate n seed
unfolding space
taken_space n seed h = taken n 8300 seed h
