-- `format::body_of`: the part of the file that the row tells of, cut off at the file's end.
use Prim.Native.Nat.{ℕ, ◌-◌, ◌<◌}
use native.Mathlib.Omega.{arith}
use mathlib.Core.Path.{◌≡◌, sym, ◌∙◌}
use mathlib.Core.List.{List, []}
use lib.ListN.{length, take, drop, length-drop, drop_of_length-le}
use lib.Seq.{take_all, take-nil, drop-length}
use Rattle.le.proofs.Laws.{rest, rest_drop}
use Rattle.format.proofs.body_of.Goals as goal

-- ---- the part of a row beyond the end, with its end before its start, and with its end beyond the end
module _ (s : List ℕ) (start stop : ℕ) where
  none : rest s (length s) ≡ []
  none = rest_drop s (length s) ∙ drop-length s

  beyond : length s < start → rest s (length s) ≡ take (stop - start) (drop start s)
  beyond h = none ∙ sym (rw (drop_of_length-le s {i = start} (omega arith)) (take-nil (stop - start)))

  backward : stop < start → rest s (length s) ≡ take (stop - start) (drop start s)
  backward h = let e : stop - start ≡ 0 = omega arith in rw e none

  cut : length s < stop → rest s start ≡ take (stop - start) (drop start s)
  cut h = rest_drop s start ∙ sym (take_all (stop - start) (drop start s) (simp length-drop (omega arith)))

pub returns-then-n-start : goal.returns-then-n-start
returns-then-n-start c = beyond _ _ _ c.if-n-start.true

pub returns-then-end-start : goal.returns-then-end-start
returns-then-end-start c = backward _ _ _ c.if-end-start.true

pub returns-then-n-end : goal.returns-then-n-end
returns-then-n-end c = cut _ _ _ c.if-n-end.true
