-- Laws of names as lists: what one byte decides in each walk, and what `same` means.
use Prim.Native.Nat.{ℕ, zero, suc, ◌+◌, ◌-◌, ◌*◌, ◌^◌, ◌≤◌, ◌<◌}
use native.Mathlib.Nat.{mul_assoc, pow-suc, pow-succ', pow-le-pow_right}
use native.Mathlib.Numerals.{add-one}
use native.Mathlib.Omega.{arith}
use mathlib.Core.Path.{◌≡◌, refl, ap, sym, ◌∙◌}
use mathlib.Core.Bool.{Bool, true, false, cond, not, ◌&&◌, and-true, and_assoc, and-eq-true_iff}
use mathlib.Core.Logic.{◌⊎◌, inl, inr}
use mathlib.Core.List.{List, [], ◌∷◌, ◌++◌}
use lib.Dec.{eqb, leb, leb-suc-suc}
use lib.ListN.{length, take, drop, get_or, take-append-drop}
use lib.Seq.{drop-drop, take_all}
use borrow.Author.Tests.{leb-true, le-leb, lt-leb}
use Rattle.std.specs.List.{list_all, fold, zip}
use Rattle.std.specs.Prelude.{nat_eq, Option, Some, None}
use Rattle.std.specs.Simd.{first_chunks}
use Rattle.std.specs.Cmp.Lexicographic.{pointwise, unequal}
use Rattle.std.proofs.lemmas.Slice.Eq.{bytes_eq-Decides}
use Rattle.std.proofs.lemmas.List.Recursion.{same_from_clauses}
use Rattle.std.proofs.lemmas.List.{drop-take, take_rest}
use Rattle.names.specs.Names.{byte_ok, bytes_ok, same, is_digit, read_digits, number, number_after}

pub bytes_all : (l : List ℕ) → list_all byte_ok l ≡ bytes_ok l
unfolding bytes_ok
bytes_all l = same_from_clauses (list_all byte_ok) bytes_ok (λ b t. byte_ok b && t) refl (λ _ _. refl) (λ _ _. refl) l

pub bytes_folded : (ok : Bool) (l : List ℕ) → fold (λ t b. t && byte_ok b) ok l ≡ (ok && bytes_ok l)
unfolding bytes_ok
bytes_folded ok [] = sym (and-true ok)
bytes_folded ok (b ∷ l) = bytes_folded (ok && byte_ok b) l ∙ and_assoc ok (byte_ok b) (bytes_ok l)

-- bytes are right where those before a place and those from it on are
bytes_split : (k : ℕ) (l : List ℕ) → bytes_ok l ≡ (bytes_ok (take k l) && bytes_ok (drop k l))
unfolding bytes_ok
bytes_split zero l = refl
bytes_split (suc k) [] = refl
bytes_split (suc k) (b ∷ l) = ap (λ t. byte_ok b && t) (bytes_split k l) ∙ sym (and_assoc (byte_ok b) (bytes_ok (take k l)) (bytes_ok (drop k l)))

-- they are where the first k and the last k are, if these have every byte
pub ends_are : (k : ℕ) (l : List ℕ) → k ≤ length l → length l ≤ k + k → (bytes_ok (take k l) && bytes_ok (drop (length l - k) l)) ≡ bytes_ok l
ends_are k l h g =
    let m = length l - k in
    let sum : m + (k - m) ≡ k = omega arith in
    let both = drop m (take k l) in
    let first : bytes_ok (take k l) ≡ (bytes_ok (take m (take k l)) && bytes_ok both) = bytes_split m (take k l) in
    let last : bytes_ok (drop m l) ≡ (bytes_ok both && bytes_ok (drop k l))
    = bytes_split (k - m) (drop m l)
    ∙ ap (λ t. bytes_ok t && bytes_ok (drop (k - m) (drop m l))) (sym (ap (λ n. drop m (take n l)) (sym sum) ∙ drop-take m (k - m) l))
    ∙ ap (λ t. bytes_ok both && bytes_ok t) (drop-drop (k - m) m l ∙ ap (λ n. drop n l) sum) in
    rw (bytes_split k l, first, last) (twice (bytes_ok (take m (take k l))) (bytes_ok both) (bytes_ok (drop k l)))
  where
    twice : (x o z : Bool) → ((x && o) && (o && z)) ≡ ((x && o) && z)
    twice true true z = refl
    twice true false z = refl
    twice false o z = refl

same_all : (a b : List ℕ) → pointwise nat_eq a b ≡ same a b
unfolding same
same_all [] [] = refl
same_all [] (y ∷ b) = refl
same_all (x ∷ a) [] = refl
same_all (x ∷ a) (y ∷ b) = ap (λ t. eqb x y && t) (same_all a b)

pub same_refl : (l : List ℕ) → same l l ≡ true
same_refl l = sym (same_all l l) ∙ (bytes_eq-Decides l l).1 refl

pub same_eq : (a b : List ℕ) → same a b ≡ true → a ≡ b
same_eq a b e = (bytes_eq-Decides a b).0 (same_all a b ∙ e)

pub same_length_lem : (a b : List ℕ) → (length a ≡ length b → ⊥) → same a b ≡ false
same_length_lem a b h = sym (same_all a b) ∙ unequal nat_eq a b h

-- `all` of the pairs of two lists of one length
pub pairs_all : {X : Type 0} (E : X → X → Bool) (a b : List X) → length a ≡ length b → list_all (λ p. E p.0 p.1) (zip a b) ≡ pointwise E a b
pairs_all E [] [] e = refl
pairs_all E [] (y ∷ b) e = absurd (omega arith)
pairs_all E (x ∷ a) [] e = absurd (omega arith)
pairs_all E (x ∷ a) (y ∷ b) e = ap (λ t. E x y && t) (pairs_all E a b (omega arith))

-- two lists are the same where their first n elements and the others are
same_split : (n : ℕ) (a b : List ℕ) → (pointwise nat_eq (take n a) (take n b) && same (drop n a) (drop n b)) ≡ same a b
unfolding same
same_split zero a b = refl
same_split (suc n) [] [] = refl
same_split (suc n) [] (y ∷ b) = refl
same_split (suc n) (x ∷ a) [] = refl
same_split (suc n) (x ∷ a) (y ∷ b) = and_assoc (eqb x y) (pointwise nat_eq (take n a) (take n b)) (same (drop n a) (drop n b)) ∙ ap (λ t. eqb x y && t) (same_split n a b)

-- they are where their first k blocks of n elements and the others are
pub same_blocks : (n k : ℕ) (a b : List ℕ) → (pointwise (pointwise nat_eq) (first_chunks n k a) (first_chunks n k b) && pointwise nat_eq (drop (k * n) a) (drop (k * n) b)) ≡ same a b
same_blocks n zero a b =
    let z : 0 * n ≡ 0 = omega arith in
    rw z (same_all a b)
same_blocks n (suc k) a b =
    let first = pointwise nat_eq (take n a) (take n b) in
    let blocks = pointwise (pointwise nat_eq) (first_chunks n k (drop n a)) (first_chunks n k (drop n b)) in
    let s : suc k * n ≡ n + k * n = omega arith in
    rw (s, ← drop-drop (k * n) n a, ← drop-drop (k * n) n b) (and_assoc first blocks _ ∙ ap (λ t. first && t) (same_blocks n k (drop n a) (drop n b)) ∙ same_split n a b)

-- digits before the place i are worth less than 10 ^ i
pub worth : (i v d : ℕ) → v < 10 ^ i → d ≤ 9 → v * 10 + d < 10 ^ (i + 1)
worth i v d h k = rw (add-one i, pow-suc 10 i) (omega arith)

pub worth_three : (i v : ℕ) → i ≤ 3 → v < 10 ^ i → v < 1000
worth_three i v h k = omega (arith, pow-le-pow_right {n = 10} (omega arith) {i = i} {j = 3} h)

pub number_long : (l : List ℕ) → 3 < length l → number l ≡ None
unfolding number
number_long [] h = refl
number_long (b ∷ l) h = rw (lt-leb (length l) 2 (omega arith))

pub number_size : (l : List ℕ) → (length l ≡ 0) ⊎ ((length l ≡ 0 → ⊥) × (3 < length l)) → number l ≡ None
unfolding number
number_size [] h = refl
number_size (b ∷ l) (inl e) = absurd (omega arith)
number_size (b ∷ l) (inr h) = number_long (b ∷ l) h.1

leading : (t u : Bool) (d : Option ℕ) → u ≡ true → cond (t && not u) d None ≡ None
leading true u d e = rw e
leading false u d e = refl

pub number_leading : (l : List ℕ) → (eqb (get_or l 0 0) 48 && leb 2 (length l)) ≡ true → number l ≡ None
unfolding number
number_leading [] h = refl
number_leading (b ∷ l) h = leading (leb (length l) 2) _ _ (ap (λ t. eqb b 48 && t) (sym (leb-suc-suc 1 (length l))) ∙ h)

pub number_read_digits : (l : List ℕ) → (length l ≡ 0 → ⊥) → length l ≤ 3 → (eqb (get_or l 0 0) 48 && leb 2 (length l)) ≡ false → number l ≡ read_digits 0 l
unfolding number
number_read_digits [] h k m = absurd (h refl)
number_read_digits (b ∷ l) h k m = rw (le-leb (length l) 2 (omega arith), ← leb-suc-suc 1 (length l), m)

module _ (name prefix : List ℕ) where
  pub numbered_short : length name < length prefix → number_after name prefix ≡ None
  unfolding number_after
  numbered_short h = rw (take_all (length prefix) name (omega arith), same_length_lem name prefix (λ e. omega arith))

  pub numbered_other : same (take (length prefix) name) prefix ≡ false → number_after name prefix ≡ None
  unfolding number_after
  numbered_other e = rw e

  pub numbered_by : same (take (length prefix) name) prefix ≡ true → number_after name prefix ≡ number (take (length name - length prefix) (drop (length prefix) name))
  unfolding number_after
  numbered_by e = rw (e, take_rest name (length prefix))

chosen : (t : Bool) {d : Option ℕ} {n : ℕ} → cond t d None ≡ Some n → (t ≡ true) × (d ≡ Some n)
chosen true e = (refl, e)
chosen false e = (cc, cc)

decimal_bound : (l : List ℕ) (m v n : ℕ) → v < m → read_digits v l ≡ Some n → n < m * 10 ^ length l
unfolding read_digits
decimal_bound [] m v n h e = let k : v ≡ n = cc in omega arith
decimal_bound (b ∷ l) m v n h e =
    let r = chosen (is_digit b) e in
    rw (pow-succ' 10 (length l), ← mul_assoc m 10 (10 ^ length l)) (decimal_bound l (m * 10) (v * 10 + (b - 48)) n (omega (arith, leb-true b 57 ((and-eq-true_iff (leb 48 b) _).0 r.0).1)) r.1)

number_bound : (l : List ℕ) (n : ℕ) → number l ≡ Some n → n < 1000
unfolding number
number_bound [] n e = let z : ◌≡◌ {A = ℕ} 0 1 = cc in omega arith
number_bound (b ∷ l) n e =
    let r = chosen _ e in
    worth_three (suc (length l)) n (omega (arith, leb-true (length l) 2 ((and-eq-true_iff (leb (length l) 2) _).0 r.0).0)) (omega (arith, decimal_bound (b ∷ l) 1 0 n (omega arith) r.1))

-- a name with a number is the prefix and then a number below 1000
pub numbered_sound : (name prefix : List ℕ) (n : ℕ) → number_after name prefix ≡ Some n → (name ≡ prefix ++ drop (length prefix) name) × (n < 1000)
unfolding number_after
numbered_sound name prefix n e =
    let r = chosen _ e in
    (sym (take-append-drop (length prefix) name) ∙ rw (same_eq _ _ r.0), number_bound (drop (length prefix) name) n r.1)
