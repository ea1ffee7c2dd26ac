-- The numbers of a case's line, in a record that holds up to twelve.
use Rattle.std.specs.Prelude.{ℕ, ◌+◌, min, Bool, true, false, cond, List, [], ◌∷◌, ltb, length, take, set, replicate}
use Rattle.std.proofs.lemmas.List.Edits.{sets}
use Rattle.vectors.specs.declared.answer.Answer.{Answer}

-- these numbers, and zeros after them; a thirteenth is left out
abbrev pub answered : List ℕ → Answer
answered ns = record { count = min 12 (length ns); numbers = sets (replicate 12 0) 0 ns }

-- the numbers that an answer counts
abbrev pub told_by : Answer → List ℕ
told_by a = take a.count a.numbers

-- one number more; an answer of twelve is left
abbrev pub pushed : Answer → ℕ → Answer
pushed a n = cond (ltb a.count 12) (record { count = a.count + 1; numbers = set a.numbers a.count n }) a

-- some numbers more, one after the other
abbrev pub extended : Answer → List ℕ → Answer
extended a [] = a
extended a (n ∷ ns) = extended (pushed a n) ns

-- 1 for what holds, 0 for what does not
abbrev pub bit : Bool → ℕ
bit true = 1
bit false = 0
