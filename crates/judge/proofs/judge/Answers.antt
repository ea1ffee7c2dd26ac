-- `judge::judge`: the properties that are found by their headers, at most 64.
use Rattle.std.proofs.Common.{◌≡◌, ◌≤◌, ap, ◌∙◌, arith}
use Rattle.body.specs.Body.{skim, skimmed}
use Rattle.body.proofs.Skimmed.{skim_none, skim_all}
use Rattle.rules.specs.Packing.{lines_from}
use Rattle.judge.specs.ByLine.{judged_by_line}
use Rattle.judge.proofs.Typing.{noted_for}
use Rattle.judge.proofs.judge.Goals as goal
use Rattle.judge.proofs.judge.Goals.{Joined-count-gt-MOST_PROPERTIES, else-count-gt-MOST_PROPERTIES, then-count-gt-MOST_PROPERTIES}

-- at most 64 properties
module _ (c : Joined-count-gt-MOST_PROPERTIES) where
  few : c.if-count-gt-MOST_PROPERTIES.n ≤ 64
  few = elim c.if-count-gt-MOST_PROPERTIES.branch [ then-count-gt-MOST_PROPERTIES w ↦ omega arith | else-count-gt-MOST_PROPERTIES w ↦ omega arith ]

  taken : skim c.args.body.now c.if-count-gt-MOST_PROPERTIES.n 0 ≡ skimmed c.args.body.now c.args.count
  taken =
      let s = c.args.body.now in
      let k = c.args.count in
      elim c.if-count-gt-MOST_PROPERTIES.branch [
        | then-count-gt-MOST_PROPERTIES w ↦ skim_none s k c.if-count-gt-MOST_PROPERTIES.n w.if-count-gt-MOST_PROPERTIES.true w.n-is
        | else-count-gt-MOST_PROPERTIES w ↦ skim_all s k c.if-count-gt-MOST_PROPERTIES.n w.if-count-gt-MOST_PROPERTIES.false w.n-is
      ]

pub judge_first-requires : goal.judge_first-requires
judge_first-requires c = (few (goal.at.judge_first-requires c).Joined-count-gt-MOST_PROPERTIES, omega arith, omega arith, omega arith, omega arith)

pub returns : goal.returns
returns c =
    let a = c.args in
    let skims = taken (goal.at.returns c).Joined-count-gt-MOST_PROPERTIES in
    let x = c.judge_first.ensures in
    let noted = noted_for skims x.noted in
    record {
      result = x.result ∙ ap (λ ps. judged_by_line a.kind a.wanted (lines_from a.lines.now) a.body.now ps a.bones) skims;
      starts = noted.starts;
      numbers = noted.numbers;
      keys = noted.keys;
      marks = noted.marks;
      bounds = x.bounds;
    }
