-- `reader::judge_row`: a known node by the rules of its body, and its links by what that noted. Its properties were passed by the walk, and
-- the lines are its kind's.
use Prim.Native.Nat.{ℕ, ◌≤◌}
use native.Mathlib.Omega.{arith}
use mathlib.Core.Path.{◌≡◌, sym, ap, ◌∙◌, subst}
use mathlib.Core.Logic.{inl}
use mathlib.Core.List.{List, map}
use Rattle.std.specs.Prelude.{Result, Ok}
use Rattle.std.proofs.lemmas.Result.{err_from_is_err_and}
use Rattle.base.specs.declared.Refusal.{Refusal}
use lib.ListN.{length, take, get_or}
use lib.Seq.{length-take-le}
use Rattle.body.specs.Body.{properties, skimmed}
use Rattle.body.proofs.Places.{starts_within}
use Rattle.rules.specs.Packing.{lines_from}
use Rattle.rules.specs.Rules.{lines_of, required_in}
use Rattle.rules.proofs.Together.{lines_lent}
use Rattle.judge.specs.Judge.{Judged}
use Rattle.judge.specs.Properties.{line_number}
use Rattle.judge.specs.Judge.{judged_at, judged_told}
use Rattle.judge.specs.ByLine.{judged_by_line}
use Rattle.judge.proofs.ByLine.{by_line}
use Rattle.format.specs.Rows.{body_of}
use Rattle.links.specs.Links.{accepted_links, linked_told}
use Rattle.links.specs.Private.{row_linked}
use Rattle.reader.specs.Reading.{judged_with}
use Rattle.reader.specs.Private.{Noted, target_count}
use Rattle.reader.proofs.Judging.{judged_known}
use Rattle.reader.proofs.Passing.{judged_skimmed}
use Rattle.reader.proofs.Linking.{passed_count, noted_row, sizes_kept, row_noted}
use Rattle.reader.proofs.judge_row.Goals as goal
use Rattle.reader.proofs.judge_row.Goals.{After-judge}

-- the node, its lines, and what its judgement is
module _ (j : After-judge) where
  abbrev kind : ℕ
  kind = j.args.row.kind

  abbrev count : ℕ
  count = j.args.row.properties

  abbrev body : List ℕ
  body = body_of j.args.file.now j.args.row

  passed : (properties body count).number ≡ 0
  passed = j.requires.row.1 j.requires.row.2

  lines : lines_from j.lines_of-own.result.now ≡ lines_of kind
  lines = ap lines_from j.lines_of-own.ensures ∙ lines_lent kind j.args.lines.now j.requires.row.0

  skims : (judged_told j.judge.result) ≡ judged_at kind (lines_of kind) body (skimmed body count) j.count_at.result
  skims =
      let bones = j.count_at.result in
      let t = j.body_of-body.result.now in
      j.judge.ensures.result
      ∙ ap (λ k. judged_by_line kind k (lines_from j.lines_of-own.result.now) t (skimmed t count) bones) j.required_of.ensures
      ∙ ap (λ ls. judged_by_line kind (required_in (lines_of kind)) ls t (skimmed t count) bones) lines
      ∙ by_line t (skimmed t count) kind bones
      ∙ ap (λ l. judged_at kind (lines_of kind) l (skimmed l count) bones) j.body_of-body.ensures

  judges : (judged_told j.judge.result) ≡ judged_with j.args.file.now j.args.row (get_or j.args.counts.now j.args.row.parent 0)
  judges =
      skims
      ∙ judged_skimmed kind count body j.count_at.result passed
      ∙ sym (judged_known j.args.file.now j.args.row j.count_at.result j.requires.row.2)
      ∙ ap (judged_with j.args.file.now j.args.row) j.count_at.ensures

  abbrev starts : List ℕ
  starts = j.judge.new.starts

  abbrev numbers : List ℕ
  numbers = j.judge.new.numbers

  sizes : (length starts ≡ 64) × (length numbers ≡ 64)
  sizes =
      let a = j.args in
      let x = j.judge.ensures in
      sizes_kept a.file.now a.row lines j.body_of-body.ensures passed a.starts.now a.numbers.now x.starts x.numbers j.requires.sizes.0 j.requires.sizes.1

  noted : (judged_told j.judge.result).number ≡ 0 → Noted j.args.file.now j.args.row starts numbers
  noted z =
      let a = j.args in
      let x = j.judge.ensures in
      noted_row a.file.now a.row lines j.body_of-body.ensures passed j.count_at.result (ap (λ (r : Judged). r.number) (sym skims) ∙ z)
      a.starts.now a.numbers.now x.starts x.numbers j.requires.sizes.0 j.requires.sizes.1

  few : count ≤ 64
  few = (passed_count body count passed).0

pub returns-in_err-judged-clause-judged : goal.returns-in_err-judged-clause-judged
returns-in_err-judged-clause-judged c =
    let j = (goal.at.returns-in_err-judged-clause-judged c).After-judge in
    let p = err_from_is_err_and c.from_residual.result c.from_residual.ensures.1 in
    rw (p.1, p.2) (ap judged_told (sym c.in_err-judged.was) ∙ judges j)

pub returns-in_default-clause-judged : goal.returns-in_default-clause-judged
returns-in_default-clause-judged c =
    ap judged_told (sym c.in_ok-judged.was) ∙ judges (goal.at.returns-in_default-clause-judged c).After-judge

pub returns-then-judged-eq0-clause-judged : goal.returns-then-judged-eq0-clause-judged
returns-then-judged-eq0-clause-judged c =
    ap judged_told (sym c.in_ok-judged.was) ∙ judges (goal.at.returns-then-judged-eq0-clause-judged c).After-judge

-- the links before it
before_told : {l : Result ℕ Refusal} {n : ℕ} → l ≡ Ok n → linked_told l ≡ accepted_links n
before_told e = ap linked_told e

pub shared_ref_as_front-properties : goal.shared_ref_as_front-properties
shared_ref_as_front-properties c =
    let j = (goal.at.shared_ref_as_front-properties c).After-judge in
    omega (arith, few j, (sizes j).0)

pub shared_ref_as_front-properties-in-Ok : goal.shared_ref_as_front-properties-in-Ok
shared_ref_as_front-properties-in-Ok c =
    let j = (goal.at.shared_ref_as_front-properties-in-Ok c).After-judge in
    omega (arith, few j, (sizes j).1)

pub invariant_of-properties-clause-within : goal.invariant_of-properties-clause-within
invariant_of-properties-clause-within c =
    let j = (goal.at.invariant_of-properties-clause-within c).After-judge in
    let t = c.body_of-body in
    let is = noted j (ap (λ r. (judged_told r).number) c.in_ok-judged.was) in
    λ i.
    subst (λ l. get_or l i 0 ≤ length t.result.now) (sym is.places)
    (subst (λ l. get_or (properties (body j) (count j)).starts i 0 ≤ length l) (sym t.ensures) (starts_within (body j) (count j) i))

pub invariant_of-properties-clause-numbered : goal.invariant_of-properties-clause-numbered
invariant_of-properties-clause-numbered c =
    let j = (goal.at.invariant_of-properties-clause-numbered c).After-judge in
    let is = noted j (ap (λ r. (judged_told r).number) c.in_ok-judged.was) in
    let first = take (count j) (starts j) in
    is.lines
    ∙ ap (λ ls. map (line_number ls (body j)) first) (sym (lines j))
    ∙ ap (λ t. map (line_number (lines_from c.lines_of-own.result.now) t) first) (sym c.body_of-body.ensures)

pub links-linked-requires : goal.links-linked-requires
links-linked-requires c =
    let j = (goal.at.links-linked-requires c).After-judge in
    omega (arith, few j, length-take-le (count j) (starts j) (omega (arith, few j, (sizes j).0)), c.requires.before, ap (λ l. l.links) (before_told c.in-Ok.is))

pub returns-in-Ok-clause-judged : goal.returns-in-Ok-clause-judged
returns-in-Ok-clause-judged c = ap judged_told (sym c.in_ok-judged.was) ∙ judges (goal.at.returns-in-Ok-clause-judged c).After-judge

pub returns-in-Ok-clause-linked : goal.returns-in-Ok-clause-linked
returns-in-Ok-clause-linked c =
    let j = (goal.at.returns-in-Ok-clause-linked c).After-judge in
    let a = c.args in
    let is = before_told c.in-Ok.is in
    let on = noted j (ap (λ r. (judged_told r).number) c.in_ok-judged.was) in
    let counted = target_count a.targets in
    inl (
      ap (λ l. l.number) is,
      c.links-linked.ensures.result
          ∙ row_noted counted a.file.now _ a.row c.requires.row.2 (lines j) c.body_of-body.ensures on.places
          ∙ ap (λ l. row_linked counted a.file.now l.links a.row) (sym is),
    )

pub returns-in-Ok-clause-links : goal.returns-in-Ok-clause-links
returns-in-Ok-clause-links c =
    let j = (goal.at.returns-in-Ok-clause-links c).After-judge in
    omega (
      arith,
      c.links-linked.ensures.links,
      few j,
      length-take-le (count j) (starts j) (omega (arith, few j, (sizes j).0)),
      ap (λ l. l.links) (before_told c.in-Ok.is),
    )
