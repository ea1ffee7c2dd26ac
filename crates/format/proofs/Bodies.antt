-- A body of good properties is walked to its end; and a walk that refuses none has walked such a body.
use Prim.Native.Nat.{ℕ, zero, suc, ◌+◌}
use native.Mathlib.Omega.{arith}
use native.Mathlib.Nat.{zero-add}
use mathlib.Core.Path.{◌≡◌, refl, ap, sym, subst, ◌∙◌}
use mathlib.Core.Bool.{true, and-eq-true_iff}
use mathlib.Core.List.{List, [], ◌∷◌, ◌++◌, append_assoc, append-nil, flat_map}
use lib.Dec.{eqb, ltb}
use lib.ListN.{length, take, drop, length-append}
use lib.Seq.{take_at, take-append_seam, take-length}
use borrow.Author.Tests.{eq-eqb, eqb-true, ltb-true, ltb-false}
use Rattle.le.specs.Le.{AreBytes}
use Rattle.base.proofs.Tests.{by_test}
use Rattle.props.specs.Step.{Step}
use Rattle.props.specs.Step.{Past, Refused}
use Rattle.props.specs.Step.{step_at}
use Rattle.body.specs.Body.{by_step, pass, properties, exactly}
use Rattle.body.proofs.Laws.{few, many}
use Rattle.base.specs.Lists.{Each}
use Rattle.format.specs.Layout.{Property, property_bytes, GoodProperty, GoodBody}
use Rattle.format.proofs.Properties.{step_good, step_sound, step_told}

-- ---- a good body is walked to its end
pass_good : (ps : List Property) (pre rest : List ℕ) → Each GoodProperty ps → {s : List ℕ} → s ≡ pre ++ (flat_map property_bytes ps ++ rest) →
    ((pass s (length ps) (length pre)).number ≡ 0) × ((pass s (length ps) (length pre)).at ≡ length pre + length (flat_map property_bytes ps))
unfolding pass flat_map
pass_good [] pre rest h e = (refl, omega arith)
pass_good (p ∷ ps) pre rest h {s} e =
    let step = step_good p pre (flat_map property_bytes ps ++ rest) h.0 in
    let here = rw (← append_assoc (property_bytes p) (flat_map property_bytes ps) rest, ← e) at step.1 in
    let ih = rw length-append at (pass_good ps (pre ++ property_bytes p) rest h.1 (e ∙ simp append_assoc)) in
    rw here (ih.0, ih.1 ∙ simp length-append (omega arith))

pub body_good : (k : ℕ) (b rest : List ℕ) → GoodBody k b →
    ((properties (b ++ rest) k).number ≡ 0) × ((properties (b ++ rest) k).at ≡ length b)
body_good k b rest good =
    rw (← few (b ++ rest) k good.most, ← good.counted, good.bytes)
    (rw zero-add at (pass_good good.properties [] rest good.good refl))

-- so its end does not depend on what is after it
pub body_prefix : (k : ℕ) (b c x y : List ℕ) → GoodBody k b → GoodBody k c → b ++ x ≡ c ++ y → b ≡ c
body_prefix k b c x y good other e =
    let same : length b ≡ length c = sym (body_good k b x good).1 ∙ rw e (body_good k c y other).1 in
    sym (take-append_seam b x) ∙ rw (e, same) (take-append_seam c y)

-- ---- a walk that refuses none has walked a good body
-- a given number of good properties lie from a place to another
record Lie (s : List ℕ) (k at to : ℕ) : Type 0 where
  list : List Property
  good : Each GoodProperty list
  counted : length list ≡ k
  bytes : drop at s ≡ flat_map property_bytes list ++ drop to s
  size : at + length (flat_map property_bytes list) ≡ to

pass_sound : (s : List ℕ) (k at : ℕ) → AreBytes s → (pass s k at).number ≡ 0 → Lie s k at (pass s k at).at
unfolding pass flat_map
pass_sound s zero at h e = record { list = []; good = tt; counted = refl; bytes = refl; size = omega arith }
pass_sound s (suc k) at h e = by (step_at s at) refl (λ next. pass_sound s k next h) e
  where
    by : (w : Step) → step_at s at ≡ w → ((next : ℕ) → (pass s k next).number ≡ 0 → Lie s k next (pass s k next).at) →
        (by_step at (pass s k) w).number ≡ 0 → Lie s (suc k) at (by_step at (pass s k) w).at
    by (Past q next) step ih e =
        let p = step_sound s at h step in
        let r = ih next.at e in
        record {
          list = p.0 ∷ r.list;
          good = (p.1, r.good);
          counted = ap suc r.counted;
          bytes = rw (append_assoc, ← r.bytes) p.2;
          size = rw length-append (omega (arith, p.3, r.size));
        }
    by (Refused n) step ih e = absurd (step_told s at (step ∙ ap Refused e))

pub body_sound : (s : List ℕ) (k : ℕ) → AreBytes s → (properties s k).number ≡ 0 → GoodBody k (take (properties s k).at s)
body_sound s k h e =
    by_test (ltb 64 k) (λ t. absurd (omega (arith, ap (λ w. w.number) (many s k (ltb-true 64 k t)))))
    (λ t.
    let most = ltb-false 64 k t in
    let walk = few s k most in
    let r : Lie s k 0 (properties s k).at = rw walk at (pass_sound s k 0 h (rw walk e)) in
    let whole = take_at (flat_map property_bytes r.list) (drop (properties s k).at s) (properties s k).at (omega (arith, r.size)) in
    record {
      properties = r.list;
      good = r.good;
      counted = r.counted;
      most = most;
      bytes = ap (take (properties s k).at) r.bytes ∙ whole;
    })

-- ---- a body is good where it is exactly its count of properties, and nowhere else
pub good_exactly : (k : ℕ) (s : List ℕ) → GoodBody k s → exactly s k ≡ true
unfolding exactly
good_exactly k s good =
    let e = rw (append-nil s) at (body_good k s [] good) in
    rw (eq-eqb (properties s k).number 0 e.0, eq-eqb (properties s k).at (length s) e.1)

pub exactly_good : (k : ℕ) (s : List ℕ) → AreBytes s → exactly s k ≡ true → GoodBody k s
unfolding exactly
exactly_good k s bytes e =
    let both = (and-eq-true_iff (eqb (properties s k).number 0) (eqb (properties s k).at (length s))).0 e in
    let done = eqb-true (properties s k).number 0 both.0 in
    let whole = eqb-true (properties s k).at (length s) both.1 in
    subst (GoodBody k) (take-length s) (subst (λ n. GoodBody k (take n s)) whole (body_sound s k bytes done))
