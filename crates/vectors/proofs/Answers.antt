-- Numbers put after those of an answer are put after them in its list.
use Prim.Native.Nat.{ℕ, ◌+◌, min, ◌≤◌, ◌<◌}
use native.Mathlib.Omega.{arith}
use native.Mathlib.Nat.{zero-add, min-eq_left, min-eq_right}
use mathlib.Core.Path.{◌≡◌, ap, sym, ◌∙◌}
use mathlib.Core.List.{List, [], ◌∷◌, ◌++◌, append-nil, append_assoc}
use lib.Dec.{ltb}
use lib.ListN.{length, length-append, set, replicate}
use lib.Seq.{sets, length-sets, set_out}
use borrow.Author.Tests.{ltb-true, ltb-false, lt-ltb}
use Rattle.base.proofs.Tests.{by_test}
use Rattle.base.proofs.Stores.{sets_append}
use Rattle.vectors.specs.declared.answer.Answer.{Answer}
use Rattle.vectors.specs.Answers.{answered, pushed, extended}

abbrev made : ℕ → List ℕ → Answer
made count numbers = record { count = count; numbers = numbers }

-- ---- one number more, where there is room and where there is none

pushed_more : (a : Answer) (n : ℕ) → a.count < 12 → made (a.count + 1) (set a.numbers a.count n) ≡ pushed a n
pushed_more a n h = rw (lt-ltb a.count 12 h)

module _ (ns : List ℕ) (n : ℕ) where
  abbrev zeros : List ℕ
  zeros = replicate 12 0

  abbrev more : List ℕ
  more = ns ++ (n ∷ [])

  long : length ns + 1 ≡ length more
  long = omega (arith, length-append ns (n ∷ []))

  stored : set (sets zeros 0 ns) (length ns) n ≡ sets zeros 0 more
  stored = ap (λ k. set (sets zeros 0 ns) k n) (sym (zero-add (length ns))) ∙ sym (sets_append zeros 0 ns (n ∷ []))

  few : length ns < 12 → pushed (answered ns) n ≡ answered more
  few h =
      ap (λ k. pushed (made k (sets zeros 0 ns)) n) (min-eq_right {n = length ns} {m = 12} (omega arith))
      ∙ sym (pushed_more (made (length ns) (sets zeros 0 ns)) n h)
      ∙ ap (λ k. made k (set (sets zeros 0 ns) (length ns) n)) (long ∙ sym (min-eq_right {n = length more} {m = 12} (omega (arith, long))))
      ∙ ap (made (min 12 (length more))) stored

  many : 12 ≤ length ns → pushed (answered ns) n ≡ answered more
  many h =
      let twelve : length (sets zeros 0 ns) ≡ 12 = length-sets zeros 0 ns in
      ap (λ k. pushed (made k (sets zeros 0 ns)) n) (min-eq_left {n = 12} {m = length ns} h)
      ∙ ap (λ k. made k (sets zeros 0 ns)) (sym (min-eq_left {n = 12} {m = length more} (omega (arith, long))))
      ∙ ap (made (min 12 (length more))) (sym (set_out (sets zeros 0 ns) (length ns) n (omega arith)) ∙ stored)

  pushed_answered : pushed (answered ns) n ≡ answered more
  pushed_answered = by_test (ltb (length ns) 12) (λ t. few (ltb-true (length ns) 12 t)) (λ t. many (ltb-false (length ns) 12 t))

-- ---- some numbers more

extended_answered : (ns ms : List ℕ) → extended (answered ns) ms ≡ answered (ns ++ ms)
extended_answered ns [] = ap answered (sym (append-nil ns))
extended_answered ns (m ∷ ms) =
    ap (λ a. extended a ms) (pushed_answered ns m) ∙ extended_answered (ns ++ (m ∷ [])) ms ∙ ap answered (append_assoc ns (m ∷ []) ms)

-- what is put after an answer that is another one
pub put_after : (ms : List ℕ) {a b r : Answer} → r ≡ extended b ms → b ≡ a → r ≡ extended a ms
put_after ms f e = f ∙ ap (λ b. extended b ms) e

-- and after one of some numbers
pub joined : (ns ms : List ℕ) {b r : Answer} → r ≡ extended b ms → b ≡ answered ns → r ≡ answered (ns ++ ms)
joined ns ms f e = put_after ms f e ∙ extended_answered ns ms
