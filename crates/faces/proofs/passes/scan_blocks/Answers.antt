-- `faces::passes::scan_blocks`: the faces passed, and the first block that has a value past the limit, say what all say.
use Prim.Native.Nat.{ℕ, ◌+◌, ◌-◌, ◌*◌, ◌≤◌}
use native.Mathlib.Nat.{zero-add}
use native.Mathlib.Omega.{arith}
use mathlib.Core.Path.{◌≡◌, sym, ap, ◌∙◌}
use mathlib.Core.Bool.{false}
use mathlib.Core.List.{List}
use lib.ListN.{take, drop}
use Rattle.std.proofs.lemmas.Grind.{common_steps}
use Rattle.faces.specs.declared.tally.Tally.{Tally}
use Rattle.faces.specs.Private.{any_outside, tally_of, scan_from}
use Rattle.faces.specs.Faces.{width_of, faces_in}
use Rattle.faces.proofs.Laws.{scan_whole}
use Rattle.faces.proofs.Blocks.{tally_none, tally_few, faces_part, part_passed, some_stop, all_passed, parts_fit}
use Rattle.faces.proofs.passes.scan_blocks.Goals as goal
use Rattle.faces.proofs.passes.scan_blocks.Goals.{else-loop-done-test, then-loop-done-test+else-t+else-count-done-gt1024}

pub loop-done-init : goal.loop-done-init
loop-done-init c = (omega arith, tally_none (width_of c.args.code) c.args.vertices c.args.bytes.now)

pub slice_bounds-block-end : goal.slice_bounds-block-end
slice_bounds-block-end c =
    omega (arith, parts_fit c.loop-done.done c.min-n.result c.args.count c.width_of.ensures.result (omega arith) c.requires)

-- the place and the length of a block of n faces
module _ (code done n : ℕ) {u : ℕ} (same : u ≡ width_of code) where
  place : done * (3 * u) ≡ done * (3 * width_of code)
  place = ap (λ w. done * (3 * w)) same

  long : n * (3 * width_of code) ≤ done * (3 * u) + n * (3 * u) - done * (3 * u)
  long = rw same (omega arith)

  passed : (v : ℕ) (bs : List ℕ) {d e : ℕ} {t : Tally} → record { outside = false; degenerate = d } ≡ tally_of v (faces_in (width_of code) done bs)
      → t ≡ tally_of v (faces_in (width_of code) n (take (done * (3 * u) + n * (3 * u) - done * (3 * u)) (drop (done * (3 * u)) bs))) → t.outside ≡ false → e ≡ t.degenerate
      → record { outside = false; degenerate = d + e } ≡ tally_of v (faces_in (width_of code) (done + n) bs)
  passed v bs p t o e = rw e (part_passed (width_of code) v bs done n _ _ place long p t o)

pub returns-then-t : goal.returns-then-t
returns-then-t c =
    let a = c.args in
    let w = width_of a.code in
    let same = c.width_of.ensures.result in
    let done = c.loop-done.done in
    let n = c.min-n.result in
    let here : faces_in w n (take (done * (3 * c.width_of.result) + n * (3 * c.width_of.result) - done * (3 * c.width_of.result)) (drop (done * (3 * c.width_of.result)) a.bytes.now))
    ≡ faces_in w n (drop (done * (3 * w)) a.bytes.now)
    = faces_part w n _ _ (long a.code done n same) ∙ ap (λ at. faces_in w n (drop at a.bytes.now)) (place a.code done n same) in
    let clean = sym (ap (λ (t : Tally). t.outside) c.loop-done.invariant.1) in
    let bad = ap (any_outside a.vertices) (sym here) ∙ sym (ap (λ (t : Tally). t.outside) c.tally_of-t.ensures) ∙ c.if-t.true in
    c.scan_bad.ensures
    ∙ ap (scan_from a.vertices (3 * done)) here
    ∙ ap (λ k. scan_from a.vertices k (faces_in w n (drop (done * (3 * w)) a.bytes.now))) (sym (zero-add (3 * done)))
    ∙ some_stop w a.vertices a.bytes.now done n a.count 0 (omega arith) clean bad
    ∙ scan_whole a.vertices (faces_in w a.count a.bytes.now)

pub overflow_add-degenerate : goal.overflow_add-degenerate
overflow_add-degenerate c =
    let few = tally_few (width_of c.args.code) c.args.vertices c.loop-done.done c.args.bytes.now c.loop-done.invariant.1 in
    let more = tally_few (width_of c.args.code) c.args.vertices c.min-n.result _ c.tally_of-t.ensures in
    grind (arith, common_steps)

pub loop-done-preserved : goal.loop-done-preserved
loop-done-preserved c =
    let a = c.args in
    let next : c.loop-done.done + c.min-n.result ≡ c.loop-done.done + 1024 = omega arith in (
      omega arith,
      passed a.code c.loop-done.done c.min-n.result c.width_of.ensures.result a.vertices a.bytes.now c.loop-done.invariant.1 c.tally_of-t.ensures c.if-t.false c.from-degenerate.ensures
          ∙ ap (λ m. tally_of a.vertices (faces_in (width_of a.code) m a.bytes.now)) next,
    )

pub returns : goal.returns
returns c =
    let a = c.args in
    let tally : ℕ → Tally = λ m. tally_of a.vertices (faces_in (width_of a.code) m a.bytes.now) in
    let none : ℕ → Tally = λ d. record { outside = false; degenerate = d } in
    let all : none c.loop-done-test.degenerate ≡ tally a.count =
    elim c.loop-done-test.branch [
      | else-loop-done-test w ↦
          let end : c.loop-done.done ≡ a.count = omega arith in
          ap none w.degenerate-is ∙ c.loop-done.invariant.1 ∙ ap tally end
      | then-loop-done-test+else-t+else-count-done-gt1024 w ↦
          let end : c.loop-done.done + w.min-n.result ≡ a.count = omega arith in
          ap none w.degenerate-is
          ∙ passed a.code c.loop-done.done w.min-n.result c.width_of.ensures.result a.vertices a.bytes.now c.loop-done.invariant.1 w.tally_of-t.ensures w.if-t.false w.from-degenerate.ensures
          ∙ ap tally end
    ] in
    rw c.counted.ensures
    (all_passed (width_of a.code) a.vertices a.bytes.now a.count 0 all
    ∙ scan_whole a.vertices (faces_in (width_of a.code) a.count a.bytes.now))
