-- `judge::judge_first`: the first of 13, 14 and 15; what was noted are the places and the lines of the properties.
use Rattle.std.proofs.Common.{◌≡◌, ℕ, ◌≤◌, List, map, length, get_or, take, refl, sym, ap, ◌∙◌, subst, rules, arith}
use Rattle.std.specs.Prelude.{Err}
use Rattle.body.specs.Body.{skim}
use Rattle.body.proofs.Skimmed.{length_skim, skim_within}
use Rattle.rules.specs.Table.{Line}
use Rattle.rules.specs.Packing.{lines_from}
use Rattle.judge.specs.Properties.{line_number}
use Rattle.judge.specs.Judge.{judged_told}
use Rattle.judge.specs.ByLine.{required_among, lacks_by_line, beside_by_line}
use Rattle.base.proofs.Refusals.{numbered}
use Rattle.judge.specs.Private.{valued_to}
use Rattle.judge.proofs.Typing.{starts_noted, numbers_noted}
use Rattle.judge.proofs.Values.{mistyped, lacking, by_values_lem}
use Rattle.judge.proofs.judge_first.Goals as goal
use Rattle.judge.proofs.judge_first.Goals.{After-lacks}

-- after 13, which refuses none: the node, and what was noted
module _ (t : After-lacks) where
  abbrev lines : List Line
  lines = lines_from t.args.lines.now

  abbrev body : List ℕ
  body = t.args.body.now

  abbrev count : ℕ
  count = t.args.count

  abbrev all : List ℕ
  all = skim body count 0

  abbrev numbers : List ℕ
  numbers = map (line_number lines body) all

  starts_are : take count t.typed.new.starts ≡ all
  starts_are = starts_noted t.typed.ensures.noted t.in_ok-required.ensures.result refl count (sym (length_skim body count 0)) (omega (arith, t.requires.0, t.requires.1))

  numbers_are : take count t.typed.new.numbers ≡ numbers
  numbers_are = numbers_noted t.typed.ensures.noted t.in_ok-required.ensures.result refl count (sym (length_skim body count 0)) (omega (arith, t.requires.0, t.requires.2))

  -- 14, of all properties
  lacked : lacks_by_line t.args.kind t.args.wanted (required_among lines numbers) numbers ≡ t.lacks.result
  lacked =
      sym (t.lacks.ensures ∙ ap (λ k. lacks_by_line t.args.kind t.args.wanted k (take count t.typed.new.numbers)) t.in_ok-required.ensures.required
      ∙ ap (lacks_by_line t.args.kind t.args.wanted (required_among lines numbers)) numbers_are)

pub returns-in_err-required-clause-result : goal.returns-in_err-required-clause-result
returns-in_err-required-clause-result c =
    let a = c.args in
    let told : c.from_residual.result ≡ Err c.in_err-required.field-0.0 = search rules in
    ap judged_told told
    ∙ mistyped a.kind a.wanted (lines_from a.lines.now) a.body.now (skim a.body.now a.count 0) a.bones c.in_err-required.ensures.result
    (numbered c.in_err-required.field-0.0.reason)

pub returns-then-lacks-clause-result : goal.returns-then-lacks-clause-result
returns-then-lacks-clause-result c =
    let t = (goal.at.returns-then-lacks-clause-result c).After-lacks in
    let a = c.args in
    ap (λ r. judged_told (Err r)) c.at.ensures
    ∙ lacking a.kind a.wanted (lines t) (body t) (all t) a.bones c.in_ok-required.ensures.result refl (lacked t ∙ c.if-lacks.true)

pub valued-requires-clause-numbers : goal.valued-requires-clause-numbers
valued-requires-clause-numbers c =
    let t = (goal.at.valued-requires-clause-numbers c).After-lacks in
    numbers_are t ∙ ap (map (line_number (lines t) (body t))) (sym (starts_are t))

pub valued-requires-clause-places : goal.valued-requires-clause-places
valued-requires-clause-places c =
    let t = (goal.at.valued-requires-clause-places c).After-lacks in
    λ i. subst (λ ps. get_or ps i 0 ≤ length (body t)) (sym (starts_are t)) (skim_within (body t) (count t) 0 (omega arith) i)

pub returns-clause-result : goal.returns-clause-result
returns-clause-result c =
    let t = (goal.at.returns-clause-result c).After-lacks in
    let a = c.args in
    let first = take (count t) c.typed.new.starts in
    c.valued.ensures.result
    ∙ ap (λ ns. valued_to (lines t) (body t) (beside_by_line a.kind (body t) first ns a.bones) first) (numbers_are t)
    ∙ ap (λ starts. valued_to (lines t) (body t) (beside_by_line a.kind (body t) starts (numbers t) a.bones) starts) (starts_are t)
    ∙ by_values_lem a.kind a.wanted (lines t) (body t) (all t) a.bones c.in_ok-required.ensures.result refl (lacked t ∙ c.if-lacks.false)
