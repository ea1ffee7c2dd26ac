-- Blocks of faces: faces split in two, and what the tally of a block tells of them.
use Prim.Native.Nat.{ℕ, zero, suc, ◌+◌, ◌-◌, ◌*◌, ◌≤◌, ◌<◌}
use native.Mathlib.Nat.{zero-add, suc-add, add-mul, mul-le-mul}
use native.Mathlib.Omega.{arith}
use mathlib.Core.Path.{◌≡◌, refl, sym, ap, ◌∙◌}
use mathlib.Core.Bool.{Bool, true, false, cond, ◌||◌, or-false, or_assoc, true≢false}
use mathlib.Core.List.{List, [], ◌∷◌, ◌++◌, append-nil}
use lib.Dec.{leb}
use lib.ListN.{length, take, drop}
use lib.Seq.{drop-drop}
use borrow.Author.Tests.{leb-true, leb-false}
use Rattle.base.proofs.Tests.{by_test}
use Rattle.le.specs.Le.{number_at}
use Rattle.le.proofs.Laws.{drop_take, take_part}
use Rattle.faces.specs.declared.Face.{Face}
use Rattle.faces.specs.Faces.{Values}
use Rattle.faces.specs.Faces.{Below, NotBelow}
use Rattle.faces.specs.declared.tally.Tally.{Tally}
use Rattle.faces.specs.Private.{face_at, is_outside, any_outside, tally_of, with_face, scan_from}
use Rattle.faces.specs.Faces.{faces_in, below, is_degenerate, degenerate, counted_by}
use Rattle.faces.proofs.Laws.{face_part, first, ended, length_faces_in, past_first, past_second, past_third, passed, below_none, scan_past, scan_below}

-- ---- the first m faces, and the n after them
pub faces_split : (w m n : ℕ) (bs : List ℕ) → faces_in w (m + n) bs ≡ faces_in w m bs ++ faces_in w n (drop (m * (3 * w)) bs)
unfolding faces_in
faces_split w zero n bs =
    let none : 0 * (3 * w) ≡ 0 = omega arith in
    rw (zero-add n, none)
faces_split w (suc m) n bs =
    let more : 3 * w + m * (3 * w) ≡ suc m * (3 * w) = omega arith in
    rw (suc-add m n, faces_split w m n (drop (3 * w) bs), drop-drop (m * (3 * w)) (3 * w) bs, more)

-- ---- faces in a part that holds them all
number_at_take : (w k n : ℕ) (l : List ℕ) → k + w ≤ n → number_at w (take n l) k ≡ number_at w l k
unfolding number_at
number_at_take w k n l h = rw (take_part w k n l h)

pub faces_part : (w n k : ℕ) (bs : List ℕ) → n * (3 * w) ≤ k → faces_in w n (take k bs) ≡ faces_in w n bs
unfolding faces_in
faces_part w zero k bs h = refl
faces_part w (suc n) k bs h =
    let one : 3 * w ≤ k = omega arith in
    let rest : n * (3 * w) ≤ k - 3 * w = omega arith in
    rw (
      number_at_take w 0 k bs (omega arith),
      number_at_take w w k bs (omega arith),
      number_at_take w (2 * w) k bs (omega arith),
      drop_take (3 * w) k bs one,
      faces_part w n (k - 3 * w) (drop (3 * w) bs) rest,
    )

-- ---- the tally of faces and one more
pub outside_append : (v : ℕ) (xs ys : List Face) → any_outside v (xs ++ ys) ≡ any_outside v xs || any_outside v ys
unfolding any_outside
outside_append v [] ys = refl
outside_append v (f ∷ xs) ys = rw (outside_append v xs ys) (sym (or_assoc (is_outside v f) (any_outside v xs) (any_outside v ys)))

counted_more : (b : Bool) (m n : ℕ) → cond b (suc (m + n)) (m + n) ≡ cond b (suc m) m + n
counted_more true m n = omega arith
counted_more false m n = refl

pub degenerate_append : (xs ys : List Face) → degenerate (xs ++ ys) ≡ degenerate xs + degenerate ys
unfolding degenerate
degenerate_append [] ys = omega arith
degenerate_append (f ∷ xs) ys = rw (degenerate_append xs ys) (counted_more (is_degenerate f) (degenerate xs) (degenerate ys))

pub tally_next : (v : ℕ) (fs : List Face) (f : Face) → with_face v (tally_of v fs) f ≡ tally_of v (fs ++ (f ∷ []))
unfolding any_outside degenerate
tally_next v fs f = rw (outside_append v fs (f ∷ []), degenerate_append fs (f ∷ []), or-false (is_outside v f))

-- ---- a loop over the faces of any width: at its start, at a face that was read of a part, and at its end
module _ (w v : ℕ) (bs : List ℕ) where
  pub tally_none : record { outside = false; degenerate = 0 } ≡ tally_of v (faces_in w 0 bs)
  unfolding faces_in any_outside degenerate
  tally_none = refl

  pub one_more : (i : ℕ) → faces_in w (i + 1) bs ≡ faces_in w i bs ++ (face_at w bs (i * (3 * w)) ∷ [])
  unfolding faces_in
  one_more i = faces_split w i 1 bs ∙ ap (λ fs. faces_in w i bs ++ fs) (first w 1 bs (i * (3 * w)) (omega arith))

  pub tally_step_lem : (i at k : ℕ) {t r : Tally} {f : Face} → at ≡ i * (3 * w) → 3 * w ≤ k → t ≡ tally_of v (faces_in w i bs)
      → f ≡ face_at w (take k (drop at bs)) 0 → r ≡ with_face v t f → r ≡ tally_of v (faces_in w (i + 1) bs)
  tally_step_lem i at k a h t f r =
      let g = f ∙ face_part w k bs at h refl ∙ ap (face_at w bs) a in
      r ∙ rw (t, g) (tally_next v (faces_in w i bs) (face_at w bs (i * (3 * w)))) ∙ ap (tally_of v) (sym (one_more i))

  -- the tally of faces, and of those after them in a part of their own
  pub tally_both : (i m at k : ℕ) {t s r : Tally} → at ≡ i * (3 * w) → m * (3 * w) ≤ k → t ≡ tally_of v (faces_in w i bs)
      → s ≡ tally_of v (faces_in w m (take k (drop at bs)))
      → r ≡ record { outside = t.outside || s.outside; degenerate = t.degenerate + s.degenerate } → r ≡ tally_of v (faces_in w (i + m) bs)
  tally_both i m at k a h t s r =
      r
      ∙ rw (
        t,
        s,
        faces_part w m k (drop at bs) h,
        a,
        faces_split w i m bs,
        outside_append v (faces_in w i bs) (faces_in w m (drop (i * (3 * w)) bs)),
        degenerate_append (faces_in w i bs) (faces_in w m (drop (i * (3 * w)) bs)),
      )

counted_most : (b : Bool) (m n : ℕ) → m ≤ n → cond b (suc m) m ≤ suc n
counted_most true m n h = omega arith
counted_most false m n h = omega arith

pub degenerate_most : (w n : ℕ) (bs : List ℕ) → degenerate (faces_in w n bs) ≤ n
unfolding faces_in degenerate
degenerate_most w zero bs = omega arith
degenerate_most w (suc n) bs =
    let f : Face = record { a = number_at w bs 0; b = number_at w bs w; c = number_at w bs (2 * w) } in
    counted_most (is_degenerate f) (degenerate (faces_in w n (drop (3 * w) bs))) n (degenerate_most w n (drop (3 * w) bs))

pub tally_few : (w v n : ℕ) (bs : List ℕ) {t : Tally} → t ≡ tally_of v (faces_in w n bs) → t.degenerate ≤ n
tally_few w v n bs e = omega (arith, ap (λ t. t.degenerate) e, degenerate_most w n bs)

-- ---- a block that is passed, and a block where the pass stops
none_first : (a b : Bool) → (a || b) ≡ false → a ≡ false
none_first true b e = absurd (true≢false e)
none_first false b e = refl

none_second : (a b : Bool) → (a || b) ≡ false → b ≡ false
none_second true b e = absurd (true≢false e)
none_second false b e = e

pub block_passed : (v k : ℕ) (xs ys : List Face) → any_outside v xs ≡ false → below v k (xs ++ ys) ≡ below v (k + 3 * length xs) ys
unfolding any_outside
block_passed v k [] ys e = let here : k + 3 * 0 ≡ k = omega arith in rw here
block_passed v k (f ∷ xs) ys e =
    let here = none_first (is_outside v f) (any_outside v xs) e in
    let two = none_first (leb v f.a || leb v f.b) (leb v f.c) here in
    let next : k + 3 + 3 * length xs ≡ k + 3 * suc (length xs) = omega arith in
    passed v k f (xs ++ ys)
    (leb-false v f.a (none_first (leb v f.a) (leb v f.b) two))
    (leb-false v f.b (none_second (leb v f.a) (leb v f.b) two))
    (leb-false v f.c (none_second (leb v f.a || leb v f.b) (leb v f.c) here))
    ∙ block_passed v (k + 3) xs ys (none_second (is_outside v f) (any_outside v xs) e)
    ∙ ap (λ j. below v j ys) next

-- what is said of a value that is not below V
same_past : {j : ℕ} {r s : Values} (xs ys : List Face) → r ≡ NotBelow j → s ≡ NotBelow j → counted_by r xs ≡ counted_by s ys
same_past xs ys d e = rw (d, e)

pub block_stops : (v k : ℕ) (xs ys us vs : List Face) → any_outside v xs ≡ true → counted_by (below v k xs) us ≡ counted_by (below v k (xs ++ ys)) vs
unfolding any_outside
block_stops v k [] ys us vs e = absurd (true≢false (sym e))
block_stops v k (f ∷ xs) ys us vs e =
    by_test (leb v f.a)
    (λ a.
    let first = leb-true v f.a a in
    same_past us vs (past_first v k f xs first) (past_first v k f (xs ++ ys) first))
    (λ a.
    let first = leb-false v f.a a in
    by_test (leb v f.b)
    (λ b.
    let second = leb-true v f.b b in
    same_past us vs (past_second v k f xs first second) (past_second v k f (xs ++ ys) first second))
    (λ b.
    let second = leb-false v f.b b in
    by_test (leb v f.c)
    (λ c.
    let third = leb-true v f.c c in
    same_past us vs (past_third v k f xs first second third) (past_third v k f (xs ++ ys) first second third))
    (λ c.
    let third = leb-false v f.c c in
    let later : any_outside v xs ≡ true = rw (a, b, c) at e in
    rw (passed v k f xs first second third, passed v k f (xs ++ ys) first second third) (block_stops v (k + 3) xs ys us vs later))))

-- ---- a pass: no value of the first i of n faces is past V
module _ (w v : ℕ) (bs : List ℕ) where
  onward : (i n k : ℕ) → i ≤ n → any_outside v (faces_in w i bs) ≡ false
      → below v k (faces_in w n bs) ≡ below v (k + 3 * i) (faces_in w (n - i) (drop (i * (3 * w)) bs))
  onward i n k h c =
      let all : n ≡ i + (n - i) = omega arith in
      let later = faces_in w (n - i) (drop (i * (3 * w)) bs) in
      ap (λ m. below v k (faces_in w m bs)) all
      ∙ ap (below v k) (faces_split w i (n - i) bs)
      ∙ block_passed v k (faces_in w i bs) later c
      ∙ ap (λ m. below v (k + 3 * m) later) (length_faces_in w i bs)

  -- a face more
  pub face_passed : (i : ℕ) {d : ℕ} {f : Face} → record { outside = false; degenerate = d } ≡ tally_of v (faces_in w i bs) → f ≡ face_at w bs (i * (3 * w))
      → is_outside v f ≡ false → record { outside = false; degenerate = d + cond (is_degenerate f) 1 0 } ≡ tally_of v (faces_in w (i + 1) bs)
  face_passed i {d} {f} t e o =
      let more : with_face v (record { outside = false; degenerate = d }) f ≡ tally_of v (faces_in w (i + 1) bs) =
      ap (λ s. with_face v s f) t ∙ rw e (tally_next v (faces_in w i bs) (face_at w bs (i * (3 * w)))) ∙ ap (tally_of v) (sym (one_more w v bs i)) in
      ap (λ b. record { outside = b; degenerate = d + cond (is_degenerate f) 1 0 }) (sym o) ∙ more

  -- m faces more, in a part of their own
  pub part_passed : (i m at k : ℕ) {d : ℕ} {t : Tally} → at ≡ i * (3 * w) → m * (3 * w) ≤ k → record { outside = false; degenerate = d } ≡ tally_of v (faces_in w i bs)
      → t ≡ tally_of v (faces_in w m (take k (drop at bs))) → t.outside ≡ false → record { outside = false; degenerate = d + t.degenerate } ≡ tally_of v (faces_in w (i + m) bs)
  part_passed i m at k {d} {t} a h p e o = tally_both w v bs i m at k a h p e (ap (λ b. record { outside = b; degenerate = d + t.degenerate }) (sym o))

  pub part_clean : (i m at k : ℕ) {t : Tally} → at ≡ i * (3 * w) → m * (3 * w) ≤ k → any_outside v (faces_in w i bs) ≡ false
      → t ≡ tally_of v (faces_in w m (take k (drop at bs))) → t.outside ≡ false → any_outside v (faces_in w (i + m) bs) ≡ false
  part_clean i m at k a h c e o =
      let so_far : record { outside = false; degenerate = degenerate (faces_in w i bs) } ≡ tally_of v (faces_in w i bs) =
      ap (λ b. record { outside = b; degenerate = degenerate (faces_in w i bs) }) (sym c) in
      sym (ap (λ (t : Tally). t.outside) (part_passed i m at k a h so_far e o))

  -- or the face where the pass stops
  pub face_stops : (i n k j : ℕ) {f : Face} → i < n → any_outside v (faces_in w i bs) ≡ false → f ≡ face_at w bs (i * (3 * w))
      → ((fs : List Face) → below v (k + 3 * i) (f ∷ fs) ≡ NotBelow j) → counted_by (NotBelow j) [] ≡ scan_from v k (faces_in w n bs)
  face_stops i n k j h c e s =
      scan_past v k (faces_in w n bs)
      (onward i n k (omega arith) c
      ∙ ap (below v (k + 3 * i)) (first w (n - i) bs (i * (3 * w)) (omega arith))
      ∙ rw (← e) (s _))

  -- or m faces, one of which stops it
  pub some_stop : (i m n k : ℕ) → i + m ≤ n → any_outside v (faces_in w i bs) ≡ false → any_outside v (faces_in w m (drop (i * (3 * w)) bs)) ≡ true
      → scan_from v (k + 3 * i) (faces_in w m (drop (i * (3 * w)) bs)) ≡ scan_from v k (faces_in w n bs)
  some_stop i m n k h c o =
      let all : n - i ≡ m + (n - i - m) = omega arith in
      let here = faces_in w m (drop (i * (3 * w)) bs) in
      let later = faces_in w (n - i - m) (drop (m * (3 * w)) (drop (i * (3 * w)) bs)) in
      let says : below v k (faces_in w n bs) ≡ below v (k + 3 * i) (here ++ later) =
      onward i n k (omega arith) c
      ∙ ap (λ a. below v (k + 3 * i) (faces_in w a (drop (i * (3 * w)) bs))) all
      ∙ ap (below v (k + 3 * i)) (faces_split w m (n - i - m) (drop (i * (3 * w)) bs)) in
      block_stops v (k + 3 * i) here later here (faces_in w n bs) o ∙ ap {A = Values} (λ r. counted_by r (faces_in w n bs)) (sym says)

  -- one of the others is past V where one of all is
  pub others_outside : (i n : ℕ) → i ≤ n → any_outside v (faces_in w i bs) ≡ false → any_outside v (faces_in w n bs) ≡ true
      → any_outside v (faces_in w (n - i) (drop (i * (3 * w)) bs)) ≡ true
  others_outside i n h c o =
      let all : i + (n - i) ≡ n = omega arith in
      let later = faces_in w (n - i) (drop (i * (3 * w)) bs) in
      let split : any_outside v (faces_in w n bs) ≡ (any_outside v (faces_in w i bs) || any_outside v later) =
      ap (λ m. any_outside v (faces_in w m bs)) (sym all) ∙ ap (any_outside v) (faces_split w i (n - i) bs) ∙ outside_append v (faces_in w i bs) later in
      rw c at (sym split ∙ o)

  -- or all faces were passed
  pub all_passed : (n k : ℕ) {d : ℕ} → record { outside = false; degenerate = d } ≡ tally_of v (faces_in w n bs)
      → record { values = Below; faces = record { 0 = n }; degenerate = d } ≡ scan_from v k (faces_in w n bs)
  all_passed n k e =
      scan_below v k (faces_in w n bs)
      (onward n n k (omega arith) (sym (ap (λ (t : Tally). t.outside) e)) ∙ below_none v (k + 3 * n) (ended w (n - n) (drop (n * (3 * w)) bs) (omega arith)))
      (sym (length_faces_in w n bs))
      (ap (λ (t : Tally). t.degenerate) e)

-- ---- i faces and m after them, of n that are all there, of the width that code has
pub parts_fit : (i m n : ℕ) {u w l : ℕ} → u ≡ w → i + m ≤ n → n * (3 * w) ≤ l → i * (3 * u) + m * (3 * u) ≤ l
parts_fit i m n {w = w} same h f = let own : 3 * w ≤ 3 * w = omega arith in rw same (omega (arith, mul-le-mul h own, add-mul i m (3 * w)))

-- ---- some faces that are clean, by small blocks, and what is left of them
module _ (w v : ℕ) (bs : List ℕ) where
  pub clean_more : (i k at : ℕ) {t : Tally} → at ≡ i * (3 * w) → 64 * (3 * w) ≤ k → t ≡ tally_of v (faces_in w 64 (take k (drop at bs))) → t.outside ≡ false →
      any_outside v (faces_in w i bs) ≡ false → any_outside v (faces_in w (i + 64) bs) ≡ false
  clean_more i k at {t} a h e o c =
      let next : any_outside v (faces_in w 64 (drop (i * (3 * w)) bs)) ≡ false =
      ap (λ j. any_outside v (faces_in w 64 (drop j bs))) (sym a) ∙ ap (any_outside v) (sym (faces_part w 64 k (drop at bs) h)) ∙ sym (ap (λ (t : Tally). t.outside) e) ∙ o in
      ap (any_outside v) (faces_split w i 64 bs) ∙ outside_append v (faces_in w i bs) (faces_in w 64 (drop (i * (3 * w)) bs)) ∙ rw (c, next)

  -- what the others say, the clean ones being passed
  pub bad_after : (i n k at : ℕ) → i ≤ n → at ≡ i * (3 * w) → any_outside v (faces_in w i bs) ≡ false → any_outside v (faces_in w n bs) ≡ true →
      scan_from v (k + 3 * i) (faces_in w (n - i) (drop at bs)) ≡ scan_from v k (faces_in w n bs)
  bad_after i n k at h a c o =
      let others = faces_in w (n - i) (drop at bs) in
      let all : i + (n - i) ≡ n = omega (arith, h) in
      let split : faces_in w n bs ≡ faces_in w i bs ++ others =
      ap (λ m. faces_in w m bs) (sym all) ∙ faces_split w i (n - i) bs ∙ ap (λ j. faces_in w i bs ++ faces_in w (n - i) (drop j bs)) (sym a) in
      let many : k + 3 * length (faces_in w i bs) ≡ k + 3 * i = omega (arith, length_faces_in w i bs) in
      let says : below v (k + 3 * i) others ≡ below v k (faces_in w n bs) =
      ap (λ j. below v j others) (sym many) ∙ sym (block_passed v k (faces_in w i bs) others c) ∙ ap (below v k) (sym split) in
      ap {A = Values} (λ r. counted_by r others) says ∙ block_stops v k (faces_in w n bs) [] others (faces_in w n bs) o ∙ ap (λ fs. counted_by (below v k fs) (faces_in w n bs)) (append-nil (faces_in w n bs))
