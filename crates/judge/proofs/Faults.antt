-- What one property breaks: the number of a bone by comparisons of the unsigned number, and the faces that count.
use Rattle.std.proofs.Common.{◌≡◌, ℕ, zero, suc, ◌+◌, ◌-◌, ◌/◌, ◌%◌, ◌<◌, ◌≤◌, Bool, true, false, cond, ◌&&◌, ◌||◌, eqb, ltb, List, [], ◌∷◌, length, negsuc, sym, refl, ap, ◌∙◌, arith, ltb-true, eq-eqb, ne_eqb, eqb-true}
use borrow.Author.Tests.{eqb-false}
use Rattle.std.specs.Prelude.{Result, Ok, Err, IfOk}
use Rattle.le.specs.Le.{AreBytes}
use Rattle.le.proofs.Laws.{number_at_lt}
use Rattle.base.proofs.Tests.{by_test}
use Rattle.props.specs.Step.{code_at, length_at}
use Rattle.faces.specs.declared.Face.{Face}
use Rattle.faces.specs.Faces.{Values}
use Rattle.faces.specs.Faces.{Below, NotBelow}
use Rattle.faces.specs.Faces.{Scanned, scanned_told}
use Rattle.faces.specs.declared.Counted.{Counted}
use Rattle.faces.specs.declared.NotBelow.{NotBelow as CodeNotBelow}
use Rattle.faces.specs.Faces.{width_of, faces_in, below, is_degenerate, degenerate, counted_by, scan_of}
use Rattle.faces.proofs.Laws.{length_faces_in}
use Rattle.rules.specs.declared.Held.{Held as CodeHeld}
use Rattle.rules.specs.declared.Held.TheVariants as H
use Rattle.rules.specs.Packing.{held_from}
use Rattle.judge.specs.Valued.{Fault}
use Rattle.judge.specs.Valued.{Right, Whole, Element}
use Rattle.judge.specs.Private.{Kept}
use Rattle.judge.specs.Properties.{rest_at, Beside}
use Rattle.judge.specs.Valued.{signed, parent_ok, by_values, faces_at, face_fault, fault_of, held_faces}
use Rattle.judge.specs.Private.{kept_by, kept_at, kept_told}
use Rattle.judge.specs.declared.valued.Fault.{Fault as CodeFault}
use Rattle.judge.specs.declared.valued.Fault.TheVariants.{Element as CodeElement}

-- ---- the number of a bone
below_none : (n bones : ℕ) → (n ≡ 0 → ⊥) → false ≡ parent_ok (negsuc n) bones
below_none zero bones h = absurd (h refl)
below_none (suc n) bones h = refl

pub parent : (p bones : ℕ) → p ≤ 0xFFFF_FFFF → (eqb p 0xFFFF_FFFF || (ltb p 0x8000_0000 && ltb p bones)) ≡ parent_ok (signed p) bones
parent p bones h =
    by_test (ltb p 0x8000_0000)
    (λ t. rw (t, ne_eqb p 0xFFFF_FFFF (λ e. absurd (omega (arith, ltb-true p 0x8000_0000 t, e)))))
    (λ t.
    by_test (eqb p 0xFFFF_FFFF)
    (λ u. rw (eqb-true p 0xFFFF_FFFF u))
    (λ u. rw (t, u) (below_none (0xFFFF_FFFF - p) bones (λ e. eqb-false p 0xFFFF_FFFF u (omega (arith, e, h))))))

-- ---- faces
-- what is kept of a scan
abbrev pub kept_of : Values → Scanned → Kept
kept_of Below r = record { fault = Right; faces = r.faces.0; degenerate = r.degenerate }
kept_of (NotBelow k) r = record { fault = Element k; faces = 0; degenerate = 0 }

counted_values : (v : Values) (fs : List Face) → (counted_by v fs).values ≡ v
counted_values Below fs = refl
counted_values (NotBelow k) fs = refl

counted_kept : (v : Values) (fs : List Face) → kept_of v (counted_by v fs) ≡ kept_by (by_values v) fs
counted_kept Below fs = refl
counted_kept (NotBelow k) fs = refl

scan_kept : (limit : ℕ) (fs : List Face) {r : Scanned} → r ≡ scan_of limit fs → kept_of r.values r ≡ kept_by (by_values (below limit 0 fs)) fs
unfolding scan_of
scan_kept limit fs e =
    ap (λ r. kept_of r.values r) e
    ∙ ap (λ v. kept_of v (counted_by (below limit 0 fs) fs)) (counted_values (below limit 0 fs) fs)
    ∙ counted_kept (below limit 0 fs) fs

-- what is kept of a scan's result, where its faces are passed on and its first bad element is the fault
pub told_kept : (r : Result Counted CodeNotBelow) {q : Result Counted CodeFault} → ((x : Counted) → r ≡ Ok x → q ≡ Ok x) →
    ((k : CodeNotBelow) → r ≡ Err k → q ≡ Err (CodeElement k.0)) → kept_told q ≡ kept_of (scanned_told r).values (scanned_told r)
told_kept (Ok x) f g = ap kept_told (f x refl)
told_kept (Err k) f g = ap kept_told (g k refl)

module _ (s : List ℕ) (at limit : ℕ) {n : ℕ} (e : n ≡ length_at s at) where
  pub faces_cut : (n % 3 ≡ 0 → ⊥) → record { fault = Whole; faces = 0; degenerate = 0 } ≡ kept_by (face_fault s at limit) (faces_at s at)
  faces_cut m = rw (← e, ne_eqb _ _ m)

  pub faces_kept : n % 3 ≡ 0 → {code : ℕ} → code ≡ code_at s at → {rest : List ℕ} → rest ≡ rest_at s at →
      {r : Scanned} → r ≡ scan_of limit (faces_in (width_of code) (n / 3) rest) → {v : Values} → r.values ≡ v →
      kept_of v r ≡ kept_by (face_fault s at limit) (faces_at s at)
  faces_kept m c d q u = rw (eq-eqb _ 0 (ap (λ n. n % 3) (sym e) ∙ m), ← u) (scan_kept limit (faces_at s at) (q ∙ rw (c, e, d)))

-- ---- what a property counts
degenerate_most : (fs : List Face) → degenerate fs ≤ length fs
unfolding degenerate
degenerate_most [] = omega arith
degenerate_most (f ∷ fs) = by (is_degenerate f) (degenerate_most fs)
  where
    by : (b : Bool) {n : ℕ} → n ≤ length fs → cond b (suc n) n ≤ suc (length fs)
    by true h = omega (arith, h)
    by false h = omega (arith, h)

kept_few : (f : Fault) (fs : List Face) → ((kept_by f fs).faces ≤ length fs) × ((kept_by f fs).degenerate ≤ length fs)
kept_few Right fs = (omega arith, degenerate_most fs)
kept_few Whole fs = (omega arith, omega arith)
kept_few (Element k) fs = (omega arith, omega arith)

faces_few : (s : List ℕ) (at : ℕ) → AreBytes s → length (faces_at s at) < 4294967296
faces_few s at h =
    let n : length (faces_at s at) ≡ length_at s at / 3 = length_faces_in (width_of (code_at s at)) (length_at s at / 3) (rest_at s at) in
    omega (arith, n, number_at_lt 4 s (at + 4) h)

-- a property that is held to be faces, and any other
no_faces : (f : Fault) → record { fault = f; faces = 0; degenerate = 0 } ≡ kept_by f []
unfolding degenerate
no_faces Right = refl
no_faces Whole = refl
no_faces (Element k) = refl

other_faces : (held : CodeHeld) (s : List ℕ) (at : ℕ) → (held ≡ H.Faces → ⊥) → held_faces (held_from held) s at ≡ []
other_faces H.Nothing s at n = refl
other_faces H.Flag s at n = refl
other_faces (H.OneOf set) s at n = refl
other_faces H.Vertices s at n = refl
other_faces H.Weights s at n = refl
other_faces H.Faces s at n = absurd (n refl)
other_faces H.Indices s at n = refl
other_faces H.Keys s at n = refl
other_faces H.BoneNumber s at n = refl
other_faces (H.Link kind) s at n = refl

few_kept : (s : List ℕ) (at : ℕ) → AreBytes s → (f : Fault) {r : Kept} → r ≡ kept_by f (faces_at s at) → (r.faces < 4294967296) × (r.degenerate < 4294967296)
few_kept s at h f k =
    let few = kept_few f (faces_at s at) in
    let less = faces_few s at h in
    (rw k (omega (arith, few, less)), rw k (omega (arith, few, less)))

pub few_told : (s : List ℕ) (at : ℕ) → AreBytes s → (f : Fault) (q : Result Counted CodeFault) → kept_told q ≡ kept_by f (faces_at s at) →
    IfOk q (λ c. (c.faces.0 < 4294967296) × (c.degenerate < 4294967296))
few_told s at h f (Ok x) k = few_kept s at h f k
few_told s at h f (Err e) k = tt

module _ (held : CodeHeld) (s : List ℕ) (at : ℕ) (b : Beside) where
  pub held_faces_lem : held ≡ H.Faces → {r : Kept} → r ≡ kept_by (face_fault s at b.vertices) (faces_at s at) → r ≡ kept_at (held_from held) s at b
  unfolding kept_at fault_of
  held_faces_lem f k = rw f k

  pub held_other : (held ≡ H.Faces → ⊥) → {f : Fault} → f ≡ fault_of (held_from held) s at b → {r : Kept} → r ≡ record { fault = f; faces = 0; degenerate = 0 } →
      (r ≡ kept_at (held_from held) s at b) × (r.faces < 4294967296) × (r.degenerate < 4294967296)
  unfolding kept_at
  held_other n q k = (k ∙ rw (q, other_faces held s at n) (no_faces (fault_of (held_from held) s at b)), rw k (omega arith), rw k (omega arith))
