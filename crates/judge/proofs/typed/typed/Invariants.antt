-- `judge::typed::typed`: what the properties from i on say, after those before, is what all say.
use Rattle.body.specs.Body.{skim}
use Rattle.rules.specs.Packing.{lines_from}
use Rattle.judge.proofs.Typing.{Noting}
use Rattle.judge.proofs.Required.{Counted}
use Rattle.judge.proofs.typed.typed.Given as goal

abbrev pub invariant-loop-i : goal.invariant-loop-i
invariant-loop-i l =
    Noting (lines_from l.lines) l.body l.mark l.count l.initial.starts l.initial.numbers l.initial.keys l.initial.marks l.starts l.numbers l.keys l.marks l.at l.i × Counted (lines_from l.lines) l.body (skim l.body l.count 0) l.i l.required
