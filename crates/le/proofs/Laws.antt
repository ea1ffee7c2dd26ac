-- Laws of numbers in bytes, each over the width.
use Prim.Native.Nat.{ℕ, zero, suc, ◌+◌, ◌-◌, ◌*◌, ◌/◌, ◌%◌, ◌^◌, ◌≤◌, ◌<◌}
use native.Mathlib.Omega.{arith}
use native.Mathlib.Numerals.{add-one}
use native.Mathlib.Nat.{zero-add, add-zero, suc-add, mul_assoc, mul_comm, pow-succ', div-one, div-div-eq-div-mul, mod-add-div, one-le-pow, mod-eq_of_lt, add-mul-mod_self_left, div-eq_of_lt, add-mul-div_left}
use mathlib.Core.Path.{◌≡◌, refl, ap, sym, ◌∙◌}
use mathlib.Core.List.{List, [], ◌∷◌, ◌++◌}
use lib.ListN.{length, take, drop, get_or, drop_of_length-le, length-drop, take-append-drop}
use lib.Seq.{take-nil, take_all, take-take, get_or-drop, drop-drop}
use Rattle.std.proofs.Math.Nat.{pow-suc}
use Rattle.std.specs.Prelude.{slice_index}
use Rattle.std.specs.Int.{byte_worth, sum_through, bytes_low_first}
use Rattle.le.specs.Le.{val, number_at, le, AreBytes}

times_next : (n k : ℕ) → 256 ^ suc n * k ≡ 256 * (256 ^ n * k)
times_next n k = ap (λ p. p * k) (pow-succ' 256 n) ∙ mul_assoc 256 (256 ^ n) k

-- n bytes and then m bytes, also where the bytes end before that
pub val_split : (n m : ℕ) (l : List ℕ) → val (take (n + m) l) ≡ val (take n l) + 256 ^ n * val (take m (drop n l))
unfolding val
val_split zero m l = rw (zero-add m) (omega arith)
val_split (suc n) m [] = rw (suc-add n m, take-nil m) (omega arith)
val_split (suc n) m (b ∷ l) =
    rw (suc-add n m) (omega (arith, val_split n m l, times_next n (val (take m (drop n l)))))

-- parts of bytes are bytes
pub bytes_take : (n : ℕ) (l : List ℕ) → AreBytes l → AreBytes (take n l)
bytes_take zero l h i = omega arith
bytes_take (suc n) [] h i = omega arith
bytes_take (suc n) (b ∷ l) h zero = h 0
bytes_take (suc n) (b ∷ l) h (suc i) = bytes_take n l (λ j. h (suc j)) i

pub bytes_drop : (n : ℕ) (l : List ℕ) → AreBytes l → AreBytes (drop n l)
bytes_drop n l h i = rw (get_or-drop n l i 0) (h (n + i))

-- w bytes are a number below 256 ^ w
pub val_lt : (w : ℕ) (l : List ℕ) → AreBytes l → val (take w l) < 256 ^ w
unfolding val
val_lt zero l h = omega arith
val_lt (suc w) [] h = one-le-pow (suc w) 256 (omega arith)
val_lt (suc w) (b ∷ l) h =
    omega (arith, pow-succ' 256 w, val_lt w l (λ i. h (suc i)), h 0)

pub val_one : (l : List ℕ) → val (take 1 l) ≡ get_or l 0 0
unfolding val
val_one [] = refl
val_one (b ∷ l) = omega arith

-- the part of bytes from a place on, as code lends it
abbrev pub rest : List ℕ → ℕ → List ℕ
rest l at = take (length l - at) (drop at l)

pub rest_drop : (l : List ℕ) (at : ℕ) → rest l at ≡ drop at l
rest_drop l at = take_all (length l - at) (drop at l) (simp length-drop (omega arith))

pub length_rest : (l : List ℕ) (at : ℕ) → length (rest l at) ≡ length l - at
length_rest l at = rw (rest_drop l at) (length-drop at l)

pub drop_rest : (l : List ℕ) (at k : ℕ) → drop k (rest l at) ≡ drop (at + k) l
drop_rest l at k = rw (rest_drop l at) (drop-drop k at l)

-- what is left of a part
pub drop_take : (m n : ℕ) (l : List ℕ) → m ≤ n → drop m (take n l) ≡ take (n - m) (drop m l)
drop_take zero n l h = let all : n - 0 ≡ n = omega arith in rw all
drop_take (suc m) zero l h = absurd (omega arith)
drop_take (suc m) (suc n) [] h = sym (take-nil (suc n - suc m))
drop_take (suc m) (suc n) (x ∷ l) h =
    let less : suc n - suc m ≡ n - m = omega arith in rw less (drop_take m n l (omega arith))

-- a part, and what is after it
pub part_front : (w : ℕ) (l : List ℕ) (at next : ℕ) → at + w ≡ next → take w (drop at l) ++ drop next l ≡ drop at l
part_front w l at next e = rw (← e, ← (drop-drop w at l)) (take-append-drop w (drop at l))

-- a number at a place is made of its halves
pub number_at_halves : (w : ℕ) (l : List ℕ) (at : ℕ) {low high : ℕ} → low ≡ number_at w (rest l at) 0 → high ≡ number_at w (rest l at) w → low + 256 ^ w * high ≡ number_at (w + w) l at
unfolding number_at
number_at_halves w l at e f = rw (e, f, rest_drop l at) (sym (val_split w w (drop at l)))

-- the same number, in a part
pub number_at_rest : (w : ℕ) (l : List ℕ) (at k : ℕ) → number_at w (rest l at) k ≡ number_at w l (at + k)
unfolding number_at
number_at_rest w l at k = rw (drop_rest l at k)

-- fewer bytes at a place are the remainder of more
pub number_at_short : (w v : ℕ) (l : List ℕ) (at : ℕ) → AreBytes l → number_at (w + v) l at % 256 ^ w ≡ number_at w l at
unfolding number_at
number_at_short w v l at h =
    ap (λ n. n % 256 ^ w) (val_split w v (drop at l))
    ∙ add-mul-mod_self_left (val (take w (drop at l))) (256 ^ w) (val (take v (drop w (drop at l))))
    ∙ mod-eq_of_lt (val_lt w (drop at l) (bytes_drop at l h))

-- and the others are the quotient
pub number_at_high : (w v : ℕ) (l : List ℕ) (at : ℕ) → AreBytes l → number_at (w + v) l at / 256 ^ w ≡ number_at v l (at + w)
unfolding number_at
number_at_high w v l at h =
    let low = val (take w (drop at l)) in
    let high = val (take v (drop w (drop at l))) in
    let less : low < 256 ^ w = val_lt w (drop at l) (bytes_drop at l h) in
    let none : low / 256 ^ w ≡ 0 = div-eq_of_lt less in
    ap (λ n. n / 256 ^ w) (val_split w v (drop at l))
    ∙ add-mul-div_left low high {y = 256 ^ w} (omega (arith, less))
    ∙ ap (λ n. n + high) none ∙ zero-add high ∙ ap (λ k. val (take v k)) (drop-drop w at l)

pub number_at_byte : (l : List ℕ) (at : ℕ) → number_at 1 l at ≡ get_or l at 0
unfolding number_at
number_at_byte l at = val_one (drop at l) ∙ get_or-drop at l 0 0 ∙ ap (λ k. get_or l k 0) (add-zero at)

-- bytes that are the same place by place, a byte past the end being zero, are the same number
val_none : (w : ℕ) (l : List ℕ) → ((i : ℕ) → i < w → get_or l i 0 ≡ 0) → val (take w l) ≡ 0
unfolding val
val_none zero l h = refl
val_none (suc w) [] h = refl
val_none (suc w) (b ∷ l) h = omega (arith, h 0 (omega arith), val_none w l (λ i k. h (suc i) (omega (arith, k))))

val_same : (w : ℕ) (l m : List ℕ) → ((i : ℕ) → i < w → get_or l i 0 ≡ get_or m i 0) → val (take w l) ≡ val (take w m)
unfolding val
val_same zero l m h = refl
val_same (suc w) [] m h = sym (val_none (suc w) m (λ i k. sym (h i k)))
val_same (suc w) (b ∷ l) [] h = val_none (suc w) (b ∷ l) h
val_same (suc w) (b ∷ l) (e ∷ m) h =
    omega (arith, h 0 (omega arith), val_same w l m (λ i k. h (suc i) (omega (arith, k))))

pub number_at_same : (w : ℕ) (l m : List ℕ) → ((i : ℕ) → i < w → get_or l i 0 ≡ get_or m i 0) → number_at w l 0 ≡ number_at w m 0
unfolding number_at
number_at_same w l m h = val_same w l m h

-- the library's number of bytes, and its bytes of a number
pub from_bytes : (k : ℕ) (l : List ℕ) → sum_through (λ i. byte_worth i (slice_index l i)) k ≡ number_at (suc k) l 0
unfolding number_at
from_bytes zero l = sym (val_one l)
from_bytes (suc k) l =
    let next : number_at 1 l (suc k) ≡ get_or l (suc k) 0 = number_at_byte l (suc k) in
    let all : number_at (suc (suc k)) l 0 ≡ number_at (suc k) l 0 + 256 ^ suc k * number_at 1 l (suc k) = ap (λ w. val (take w l)) (sym (add-one (suc k))) ∙ val_split (suc k) 1 l in
    rw (from_bytes k l) (ap (λ n. number_at (suc k) l 0 + n) (mul_comm (slice_index l (suc k)) (256 ^ suc k) ∙ ap (λ n. 256 ^ suc k * n) (sym next)) ∙ sym all)

low_bytes : (i k x : ℕ) → bytes_low_first i k x ≡ le k (x / 256 ^ i)
unfolding le
low_bytes i zero x = refl
low_bytes zero (suc k) x = rw (div-one x, low_bytes 1 k x) refl
low_bytes (suc i) (suc k) x =
    let next : x / 256 ^ suc (suc i) ≡ x / 256 ^ suc i / 256 = ap (λ p. x / p) (pow-suc 256 (suc i)) ∙ sym (div-div-eq-div-mul x (256 ^ suc i) 256) in
    ap (λ l. (x / 256 ^ suc i % 256) ∷ l) (low_bytes (suc (suc i)) k x ∙ ap (le k) next)

pub to_bytes : (k x : ℕ) → bytes_low_first 0 k x ≡ le k x
to_bytes k x = low_bytes 0 k x ∙ ap (le k) (div-one x)

pub number_at_past : (w : ℕ) (l : List ℕ) (at : ℕ) → length l ≤ at → number_at w l at ≡ 0
unfolding number_at val
number_at_past w l at h = rw (drop_of_length-le l {i = at} h, take-nil w)

le_more : (n y k : ℕ) → le n (y + 256 ^ n * k) ≡ le n y
unfolding le
le_more zero y k = refl
le_more (suc n) y k =
    let lowest : (y + 256 ^ suc n * k) % 256 ≡ y % 256 = omega (arith, times_next n k) in
    let others : (y + 256 ^ suc n * k) / 256 ≡ y / 256 + 256 ^ n * k = omega (arith, times_next n k) in
    rw (lowest, others, le_more n (y / 256) k)

-- the w lowest bytes are those of the remainder
pub le_remainder : (w x : ℕ) → le w (x % 256 ^ w) ≡ le w x
le_remainder w x = sym (le_more w (x % 256 ^ w) (x / 256 ^ w)) ∙ ap (le w) (mod-add-div x (256 ^ w))

pub le_split : (n m x : ℕ) → le (n + m) x ≡ le n x ++ le m (x / 256 ^ n)
unfolding le
le_split zero m x = rw (zero-add m, div-one x)
le_split (suc n) m x = rw (suc-add n m, le_split n m (x / 256), pow-succ' 256 n, div-div-eq-div-mul x 256 (256 ^ n))

-- the bytes of a number are those of its halves
pub le_halves : (w x : ℕ) → le (w + w) x ≡ le w (x % 256 ^ w) ++ le w (x / 256 ^ w)
le_halves w x = rw (le_remainder w x) (le_split w w x)

pub length_le : (w x : ℕ) → length (le w x) ≡ w
unfolding le
length_le zero x = refl
length_le (suc w) x = ap suc (length_le w (x / 256))

-- ---- there and back: a number of w bytes is the number that they are, and bytes are those of their number
pub val_le : (w x : ℕ) → x < 256 ^ w → val (le w x) ≡ x
unfolding val le
val_le zero x h = omega arith
val_le (suc w) x h = rw (val_le w (x / 256) (omega (arith, pow-succ' 256 w))) (omega arith)

pub le_val : (w : ℕ) (l : List ℕ) → AreBytes l → w ≤ length l → le w (val (take w l)) ≡ take w l
unfolding val le
le_val zero l h k = refl
le_val (suc w) [] h k = absurd (omega arith)
le_val (suc w) (b ∷ l) h k =
    let lowest : (b + 256 * val (take w l)) % 256 ≡ b = omega (arith, h 0) in
    let others : (b + 256 * val (take w l)) / 256 ≡ val (take w l) = omega (arith, h 0) in
    rw (lowest, others, le_val w l (λ i. h (suc i)) (omega arith))

-- written again
pub le_number_at : (w : ℕ) (l : List ℕ) (at : ℕ) → AreBytes l → at + w ≤ length l → le w (number_at w l at) ≡ take w (drop at l)
unfolding number_at
le_number_at w l at h k = le_val w (drop at l) (bytes_drop at l h) (simp length-drop (omega arith))

pub le_front : (w : ℕ) (l : List ℕ) (at next : ℕ) → AreBytes l → at + w ≡ next → next ≤ length l →
    le w (number_at w l at) ++ drop next l ≡ drop at l
le_front w l at next h e k = rw (le_number_at w l at h (omega arith)) (part_front w l at next e)

pub number_at_lt : (w : ℕ) (l : List ℕ) (at : ℕ) → AreBytes l → number_at w l at < 256 ^ w
unfolding number_at
number_at_lt w l at h = val_lt w (drop at l) (bytes_drop at l h)

-- ---- in a part of the bytes
pub take_part : (w k n : ℕ) (l : List ℕ) → k + w ≤ n → take w (drop k (take n l)) ≡ take w (drop k l)
take_part w zero n l h = take-take w n l (omega arith)
take_part w (suc k) zero l h = absurd (omega arith)
take_part w (suc k) (suc n) [] h = refl
take_part w (suc k) (suc n) (x ∷ l) h = take_part w k n l (omega arith)

pub number_at_part : (w n : ℕ) (s : List ℕ) (at k : ℕ) → k + w ≤ n → number_at w (take n (drop at s)) k ≡ number_at w s (at + k)
unfolding number_at
number_at_part w n s at k h = rw (take_part w k n (drop at s) h, drop-drop k at s)
