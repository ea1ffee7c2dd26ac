-- The header of a case.
use Rattle.std.specs.Prelude.{List, ℕ, ◌+◌}
use Rattle.le.specs.Le.{number_at}
use Rattle.vectors.specs.declared.frame.Frame.{Frame}

-- the layout that src/frame.rt gives
abbrev pub frame_of : List ℕ → Frame
frame_of s = record {
  function = number_at 4 s 0;
  first = number_at 4 s 4;
  second = number_at 4 s 8;
  seed = number_at 4 s 12;
  x = number_at 8 s 16;
  y = number_at 8 s 24;
}

-- how many bytes the blocks have
abbrev pub both_of : Frame → ℕ
both_of f = f.first + f.second
