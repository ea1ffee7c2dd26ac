-- One face: as it stands at a place of the bytes, and what it adds to what the faces after it say.
use Prim.Native.Nat.{ℕ, zero, suc, ◌+◌, ◌-◌, ◌*◌, ◌≤◌, ◌<◌, min}
use native.Mathlib.Nat.{min-eq_left}
use native.Mathlib.Omega.{arith}
use mathlib.Core.Path.{◌≡◌, refl, sym, ap}
use mathlib.Core.Bool.{false}
use mathlib.Core.List.{List, [], ◌∷◌}
use lib.ListN.{length, take, drop}
use lib.Seq.{drop-drop}
use borrow.Author.Tests.{lt-leb, lt-ltb, le-ltb, ne_eqb}
use Rattle.le.specs.Le.{number_at}
use Rattle.le.proofs.Laws.{number_at_part}
use Rattle.props.specs.Types.{byte, short}
use Rattle.faces.specs.declared.Face.{Face}
use Rattle.faces.specs.Faces.{Values}
use Rattle.faces.specs.Faces.{Below, NotBelow}
use Rattle.faces.specs.Private.{face_at, is_outside, scan_from}
use Rattle.faces.specs.Faces.{width_of, faces_in, below, degenerate, counted_by, scan_of}

-- the numbers read of a width of at most four are a face
pub face_read : (w : ℕ) (bs : List ℕ) (at : ℕ) {x y z : ℕ} → w ≤ 4 → x ≡ number_at (min w 4) bs at → y ≡ number_at (min w 4) bs (at + w)
    → z ≡ number_at (min w 4) bs (at + 2 * w) → record { a = x; b = y; c = z } ≡ face_at w bs at
face_read w bs at h x y z = rw (x, y, z, min-eq_left h)

-- ---- the width of each type
pub width_byte : (code : ℕ) → code ≡ byte → width_of code ≡ 1
unfolding width_of
width_byte code e = ap width_of e

pub width_short : (code : ℕ) → code ≡ short → width_of code ≡ 2
unfolding width_of
width_short code e = ap width_of e

pub width_other : (code : ℕ) → (code ≡ byte → ⊥) → (code ≡ short → ⊥) → width_of code ≡ 4
unfolding width_of
width_other code b s = simp (ne_eqb _ _ b, ne_eqb _ _ s)

-- ---- a face in a part that begins at its place
pub face_part : (w n : ℕ) (bs : List ℕ) (at : ℕ) {v : ℕ} → 3 * w ≤ n → v ≡ w → face_at w (take n (drop at bs)) 0 ≡ face_at v bs at
face_part w n bs at h e =
    let a : at + 0 ≡ at = omega arith in
    let b : 0 + w ≡ w = omega arith in
    let c : 0 + 2 * w ≡ 2 * w = omega arith in
    rw (e, b, c, number_at_part w n bs at 0 (omega arith), number_at_part w n bs at w (omega arith), number_at_part w n bs at (2 * w) (omega arith), a)

-- ---- the first of the faces from a place on, and those after it
number_at_drop : (w : ℕ) (bs : List ℕ) (at k : ℕ) → number_at w (drop at bs) k ≡ number_at w bs (at + k)
unfolding number_at
number_at_drop w bs at k = rw (drop-drop k at bs)

pub first : (w n : ℕ) (bs : List ℕ) (at : ℕ) → 0 < n → faces_in w n (drop at bs) ≡ face_at w bs at ∷ faces_in w (n - 1) (drop (at + 3 * w) bs)
unfolding faces_in
first w zero bs at h = absurd (omega arith)
first w (suc n) bs at h =
    let here : at + 0 ≡ at = omega arith in
    let left : suc n - 1 ≡ n = omega arith in
    rw (number_at_drop w bs at 0, here, number_at_drop w bs at w, number_at_drop w bs at (2 * w), drop-drop (3 * w) at bs, left)

pub ended : (w n : ℕ) (bs : List ℕ) → n ≤ 0 → faces_in w n bs ≡ []
unfolding faces_in
ended w zero bs h = refl
ended w (suc n) bs h = absurd (omega arith)

pub length_faces_in : (w n : ℕ) (bs : List ℕ) → length (faces_in w n bs) ≡ n
unfolding faces_in
length_faces_in w zero bs = refl
length_faces_in w (suc n) bs = ap suc (length_faces_in w n (drop (3 * w) bs))

-- ---- the values of a face, one after the other
module _ (v k : ℕ) (f : Face) (fs : List Face) where
  pub past_first : v ≤ f.a → below v k (f ∷ fs) ≡ NotBelow k
  unfolding below
  past_first h = rw (le-ltb _ _ h)

  module _ (a : f.a < v) where
    pub past_second : v ≤ f.b → below v k (f ∷ fs) ≡ NotBelow (k + 1)
    unfolding below
    past_second h = rw (lt-ltb _ _ a, le-ltb _ _ h)

    module _ (b : f.b < v) where
      pub past_third : v ≤ f.c → below v k (f ∷ fs) ≡ NotBelow (k + 2)
      unfolding below
      past_third h = rw (lt-ltb _ _ a, lt-ltb _ _ b, le-ltb _ _ h)

      pub passed : f.c < v → below v k (f ∷ fs) ≡ below v (k + 3) fs
      unfolding below
      passed h = rw (lt-ltb _ _ a, lt-ltb _ _ b, lt-ltb _ _ h)

pub inside : (v : ℕ) (f : Face) → f.a < v → f.b < v → f.c < v → is_outside v f ≡ false
inside v f a b c = rw (lt-leb _ _ a, lt-leb _ _ b, lt-leb _ _ c)

pub below_none : (v k : ℕ) {fs : List Face} → fs ≡ [] → below v k fs ≡ Below
unfolding below
below_none v k e = rw e

-- ---- what the faces say: from the values that are all below, or from the first that is not
module _ (v k : ℕ) (fs : List Face) where
  pub scan_past : {j : ℕ} → below v k fs ≡ NotBelow j → counted_by (NotBelow j) [] ≡ scan_from v k fs
  scan_past e = ap {A = Values} (λ r. counted_by r fs) (sym e)

  pub scan_below : {n d : ℕ} → below v k fs ≡ Below → n ≡ length fs → d ≡ degenerate fs
      → record { values = Below; faces = record { 0 = n }; degenerate = d } ≡ scan_from v k fs
  scan_below e n d = rw (n, d) (ap {A = Values} (λ r. counted_by r fs) (sym e))

pub scan_whole : (v : ℕ) (fs : List Face) → scan_from v 0 fs ≡ scan_of v fs
unfolding scan_of
scan_whole v fs = refl
