-- `judge::typed::typed`: what the properties from i on say, after those before, is what all say.
use Rattle.std.proofs.Common.{◌≡◌, ◌+◌, ◌<◌, ◌≤◌, map, length, take, ap, ◌∙◌, arith, take_all, rules}
use Rattle.base.specs.Refusals.{refusal_of}
use Rattle.le.proofs.Laws.{length_rest}
use Rattle.props.specs.Step.{header_at, name_at}
use Rattle.props.proofs.Header.{header_rest, name_rest}
use Rattle.body.specs.Body.{skim}
use Rattle.body.proofs.Skimmed.{next_rest, length_skim}
use Rattle.rules.specs.Packing.{lines_from}
use Rattle.rules.specs.Rules.{find_in}
use Rattle.judge.specs.Properties.{line_number, has}
use Rattle.judge.specs.Typed.{key_of, slot_of}
use Rattle.judge.specs.ByLine.{required_among}
use Rattle.judge.proofs.Typing.{noting, before_are, unseen_before, unkeyed_before, all_noted, longer, refused, passed}
use Rattle.judge.proofs.Required.{none_counted, counted}
use Rattle.judge.proofs.typed.typed.Goals as goal
use Rattle.judge.proofs.typed.typed.Goals.{After-misfits-misfits, After-slot_of-slot}

pub loop-i-init : goal.loop-i-init
loop-i-init c = (noting _ _ _ _ _ _ _ _, none_counted _ _ _)

-- what is known of a property before its name is looked for among the others
module _ (so : After-slot_of-slot) where
  name : so.name_at-name.result.now ≡ name_at so.args.body.now so.loop-i.at
  name = so.name_at-name.ensures ∙ name_rest so.args.body.now so.loop-i.at

  key : so.key_of-key.result ≡ key_of so.name_at-name.result.now
  key = so.key_of-key.ensures

  slot : so.slot_of-slot.result ≡ slot_of so.key_of-key.result
  slot = so.slot_of-slot.ensures.result

pub is_before-repeats-requires : goal.is_before-repeats-requires
is_before-repeats-requires c =
    let so = (goal.at.is_before-repeats-requires c).After-slot_of-slot in
    let o = c.loop-i.invariant.0 in
    let first : c.loop-i.i ≤ length c.args.starts.now = omega arith in
    record {
      slot = λ e. unseen_before o first so.name_at-name.result.now so.slot_of-slot.result (slot so ∙ ap slot_of (key so)) (omega arith) e;
      keys = λ e. unkeyed_before o first (omega arith) so.name_at-name.result.now (key so) e;
    }

-- a property that is judged
module _ (m : After-misfits-misfits) where
  is_before : m.is_before-repeats.result ≡ has m.args.body.now (take m.loop-i.i (skim m.args.body.now m.args.count 0)) m.name_at-name.result.now
  is_before =
      m.is_before-repeats.ensures
      ∙ ap (λ d. has m.args.body.now d m.name_at-name.result.now) (before_are m.loop-i.invariant.0 (omega arith))

  here : m.loop-i.i < m.args.count
  here = m.loop-i-test.true

  header : m.header_at-h.result ≡ header_at m.args.body.now m.loop-i.at
  header = m.header_at-h.ensures ∙ header_rest m.args.body.now m.loop-i.at

pub returns-then-repeats-misfits : goal.returns-then-repeats-misfits
returns-then-repeats-misfits c =
    let so = (goal.at.returns-then-repeats-misfits c).After-slot_of-slot in
    let m = (goal.at.returns-then-repeats-misfits c).After-misfits-misfits in
    let o = c.loop-i.invariant.0 in
    let r = refused o (here m) (name so) (header m) c.line_named-k.ensures c.line_in-line.ensures.line (is_before m) c.misfits-misfits.ensures c.if-repeats-misfits.true in
    record { result = ap refusal_of c.at.ensures ∙ r.0; noted = r.1; required = search rules; place = rw c.at.ensures (omega arith) }

pub loop-i-preserved : goal.loop-i-preserved
loop-i-preserved c =
    let so = (goal.at.loop-i-preserved c).After-slot_of-slot in
    let m = (goal.at.loop-i-preserved c).After-misfits-misfits in
    let l = c.loop-i in
    let o = l.invariant.0 in
    let s = c.args.body.now in (
      passed o (here m) (name so) (header m) c.line_named-k.ensures c.line_in-line.ensures.line (is_before m) c.misfits-misfits.ensures c.if-repeats-misfits.false
          (key so) (slot so)
          (λ t. ap (λ k. l.at + k) (c.place_after-at.ensures.next t) ∙ next_rest s l.at c.header_at-h.result o.inside)
          (omega (arith, c.place_after-at.ensures.within, length_rest s l.at, o.inside)),
      counted (lines_from c.args.lines.now) s (skim s c.args.count 0) l.i l.at l.invariant.1 (longer o (here m))
          (c.line_named-k.ensures ∙ ap (find_in (lines_from c.args.lines.now)) (name so)) c.line_in-line.ensures.line (search rules) (search rules),
    )

pub returns : goal.returns
returns c =
    let a = c.args in
    let every = skim a.body.now a.count 0 in
    let whole : take c.loop-i.i every ≡ every = take_all c.loop-i.i every (omega (arith, c.loop-i-test.false, length_skim a.body.now a.count 0)) in
    let all = all_noted c.loop-i.invariant.0 (omega (arith, c.loop-i-test.false)) in
    record {
      result = all.0;
      noted = all.1;
      required = c.loop-i.invariant.1.count ∙ ap (λ ps. required_among (lines_from a.lines.now) (map (line_number (lines_from a.lines.now) a.body.now) ps)) whole;
      place = omega arith;
    }
