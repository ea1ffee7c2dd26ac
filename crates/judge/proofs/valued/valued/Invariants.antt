-- `judge::valued::valued`: what was counted and what the properties from i on say is what all say.
use Rattle.rules.specs.Packing.{lines_from}
use Rattle.judge.specs.ByLine.{beside_by_line}
use Rattle.judge.specs.Private.{beside_from, valued_to}
use Rattle.judge.proofs.Values.{Counting}
use Rattle.judge.proofs.valued.valued.Given as goal

abbrev pub invariant-loop-i : goal.invariant-loop-i
invariant-loop-i l =
    Counting (lines_from l.lines) l.body (beside_from l.m) l.starts (valued_to (lines_from l.lines) l.body (beside_by_line l.kind l.body l.starts l.numbers l.bones) l.starts) l.faces l.degenerate l.links l.i
