-- What holds of every case.
use Rattle.std.specs.Prelude.{ℕ, ◌≡◌, List}
use Rattle.vectors.specs.declared.frame.Frame.{Frame}
use Rattle.vectors.specs.Answers.{answered, told_by}
use Rattle.vectors.specs.Cases.{answer_line}

-- an answer has room for every line
abbrev pub HasAll : Type 0
HasAll = (f : Frame) (first second : List ℕ) → told_by (answered (answer_line f first second)) ≡ answer_line f first second
