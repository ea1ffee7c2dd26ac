-- What a writing answers and leaves, by the plan's rows.
use Prim.Native.Nat.{ℕ, zero, suc, ◌+◌}
use mathlib.Core.Path.{◌≡◌, refl, ap, sym, ◌∙◌}
use mathlib.Core.List.{List, ◌++◌}
use lib.Dec.{ltb}
use lib.ListN.{length, drop}
use Rattle.base.specs.Refusals.{refused_or}
use Rattle.le.specs.Le.{AreBytes}
use Rattle.base.proofs.Tests.{by_test}
use Rattle.table.specs.Table.{is_plan}
use Rattle.plan.specs.Plan.{plan_refusal}
use Rattle.format.specs.Rows.{all_own_bytes}
use Rattle.emit.specs.Emission.{Written}
use Rattle.emit.specs.Emission.{refused_writing, writing_done, by_length, file_bytes, emission, output_left}
use Rattle.writer.specs.Writer.{plan_rows, written_of, output_after}
use Rattle.writer.specs.Writable.{Writable}
use Rattle.writer.specs.Answers.{Writes, Refuses}
use Rattle.writer.proofs.Plans.{plan_bytes}
use Rattle.writer.proofs.Writing.{left_alone, goes_on, emission_done}
use Rattle.writer.proofs.Writable.{is_plan_lem, few, right, long, writes_exactly}

-- ---- success
left_done : (size : ℕ) (bytes out : List ℕ) {w : Written} → w ≡ writing_done size → length bytes ≡ size → output_left w.number bytes out ≡ bytes ++ drop size out
unfolding output_left
left_done size bytes out e l = rw (e, l)

pub is_done : (plan s : List ℕ) (flags room : ℕ) → AreBytes s → Writable plan s room → written_of plan s flags room ≡ writing_done (16 + all_own_bytes (plan_rows plan))
is_done plan s flags room source w =
    goes_on plan s flags room (is_plan_lem plan s flags room source w) (right plan s flags room source w)
    ∙ emission_done flags s (plan_rows plan) room _ (long plan s flags room source w) w.short w.fits

pub writes : Writes
unfolding output_after
writes plan s flags out source w =
    let room = length out in
    let rs = plan_rows plan in
    let answer = is_done plan s flags room source w in
    let bytes = plan_bytes flags s rs (few plan s flags room source w) (right plan s flags room source w) in
    (answer, left_done _ (file_bytes flags s rs) out answer (long plan s flags room source w) ∙ ap (λ b. b ++ drop (16 + all_own_bytes rs) out) bytes)

-- ---- refusal
no_length : (n room : ℕ) → ((by_length n room).number ≡ 0 → ⊥) → (by_length n room).length ≡ 0
no_length n room h =
    by_test (ltb 16777216 n) (λ t. rw t) (λ t. by_test (ltb room n) (λ u. rw (t, u)) (λ u. absurd (h (rw (t, u)))))

by_none : (n place : ℕ) (next : Written) → ((next.number ≡ 0 → ⊥) → next.length ≡ 0) → ((refused_or n (refused_writing n place) next).number ≡ 0 → ⊥)
    → (refused_or n (refused_writing n place) next).length ≡ 0
by_none zero place next f h = f h
by_none (suc n) place next f h = refl

none_written : (plan s : List ℕ) (flags room : ℕ) → ((written_of plan s flags room).number ≡ 0 → ⊥) → (written_of plan s flags room).length ≡ 0
unfolding written_of emission
none_written plan s flags room h =
    let j = plan_refusal s (plan_rows plan) in
    let n = length (file_bytes flags s (plan_rows plan)) in
    by_test (is_plan plan) (λ t. rw t (by_none j.number j.place (by_length n room) (no_length n room) (rw t at h))) (λ t. rw t)

pub refuses : Refuses
unfolding output_after
refuses plan s flags out source h =
    let room = length out in
    let some : (written_of plan s flags room).number ≡ 0 → ⊥ = λ e. h ((writes_exactly plan s flags room source).0 e) in
    (some, none_written plan s flags room some, sym (left_alone (written_of plan s flags room).number (file_bytes flags s (plan_rows plan)) out some))
