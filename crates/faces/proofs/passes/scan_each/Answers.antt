-- `faces::passes::scan_each`: the faces passed, and the first that has a value past the limit, say what all say.
use Prim.Native.Nat.{ℕ, ◌+◌, ◌*◌}
use native.Mathlib.Omega.{arith}
use mathlib.Core.Path.{◌≡◌, refl, sym, ap, ◌∙◌}
use mathlib.Core.Bool.{Bool, true, false, cond}
use mathlib.Core.List.{List, [], ◌∷◌}
use Rattle.std.specs.Int.{from_bool}
use Rattle.std.proofs.lemmas.Grind.{common_steps}
use Rattle.faces.specs.declared.Face.{Face}
use Rattle.faces.specs.Faces.{NotBelow}
use Rattle.faces.specs.declared.tally.Tally.{Tally}
use Rattle.faces.specs.Private.{face_at, tally_of, scan_from}
use Rattle.faces.specs.Faces.{width_of, faces_in, below, is_degenerate, counted_by}
use Rattle.faces.proofs.Laws.{past_first, past_second, past_third, inside}
use Rattle.faces.proofs.Blocks.{tally_none, tally_few, face_passed, face_stops, all_passed}
use Rattle.faces.proofs.passes.scan_each.Goals as goal
use Rattle.faces.proofs.passes.scan_each.Goals.{After-at-f, After-from-degenerate}

pub loop-i-init : goal.loop-i-init
loop-i-init c = tally_none (width_of c.args.code) c.args.vertices c.args.bytes.now

-- the face that was read
module _ (m : After-at-f) where
  here : m.at-f.result ≡ face_at (width_of m.args.code) m.args.bytes.now (m.loop-i.i * (3 * width_of m.args.code))
  here = m.at-f.ensures ∙ ap (λ w. face_at w m.args.bytes.now (m.loop-i.i * (3 * w))) m.width_of-width.ensures.result

  stopped : {j : ℕ} → ((fs : List Face) → below m.args.vertices (m.args.start + 3 * m.loop-i.i) (m.at-f.result ∷ fs) ≡ NotBelow j)
      → counted_by (NotBelow j) [] ≡ scan_from m.args.vertices m.args.start (faces_in (width_of m.args.code) m.args.count m.args.bytes.now)
  stopped {j} s =
      let a = m.args in
      face_stops (width_of a.code) a.vertices a.bytes.now m.loop-i.i a.count a.start j (omega arith) (sym (ap (λ (t : Tally). t.outside) m.loop-i.invariant)) here s

pub returns-then-vertices-f : goal.returns-then-vertices-f
returns-then-vertices-f c = stopped (goal.at.returns-then-vertices-f c).After-at-f (λ fs. past_first _ _ _ fs (omega arith))

pub returns-then-vertices-f-2 : goal.returns-then-vertices-f-2
returns-then-vertices-f-2 c =
    stopped (goal.at.returns-then-vertices-f-2 c).After-at-f (λ fs. past_second _ _ _ fs (omega arith) (omega arith))

pub returns-then-vertices-f-3 : goal.returns-then-vertices-f-3
returns-then-vertices-f-3 c =
    stopped (goal.at.returns-then-vertices-f-3 c).After-at-f (λ fs. past_third _ _ _ fs (omega arith) (omega arith) (omega arith))

-- the face's part of the count
byte_of : (b : Bool) → from_bool b ≡ cond b 1 0
byte_of true = refl
byte_of false = refl

one : (m : After-from-degenerate) → m.from-degenerate.result ≡ cond (is_degenerate m.at-f.result) 1 0
one m = m.from-degenerate.ensures ∙ byte_of m.is_degenerate.result ∙ ap (λ b. cond b 1 0) m.is_degenerate.ensures

pub overflow_add-degenerate : goal.overflow_add-degenerate
overflow_add-degenerate c =
    let few = tally_few (width_of c.args.code) c.args.vertices c.loop-i.i c.args.bytes.now c.loop-i.invariant in
    grind (arith, common_steps)

pub loop-i-preserved : goal.loop-i-preserved
loop-i-preserved c =
    let a = c.args in
    let within = inside a.vertices c.at-f.result (omega arith) (omega arith) (omega arith) in
    rw (one c)
    (face_passed (width_of a.code) a.vertices a.bytes.now c.loop-i.i c.loop-i.invariant (here (goal.at.loop-i-preserved c).After-at-f) within)

pub returns : goal.returns
returns c =
    let a = c.args in
    let all : c.loop-i.i ≡ a.count = omega arith in
    rw c.counted.ensures
    (all_passed (width_of a.code) a.vertices a.bytes.now a.count a.start (c.loop-i.invariant ∙ ap (λ n. tally_of a.vertices (faces_in (width_of a.code) n a.bytes.now)) all))
