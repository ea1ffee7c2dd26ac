-- `reader::properties::Properties::links`: what the rest says is what the whole says.
use Rattle.std.proofs.Common.{◌≡◌, get_or, sym, ap, ◌∙◌, arith}
use Rattle.base.specs.declared.Refusal.{Refusal}
use Rattle.base.specs.Refusals.{reason_number}
use Rattle.rules.specs.Packing.{line_of, lines_from}
use Rattle.judge.specs.Properties.{rule_at}
use Rattle.judge.proofs.Values.{line_found}
use Rattle.links.specs.Links.{Linked}
use Rattle.links.specs.Links.{refused_links}
use Rattle.links.proofs.Turns.{node_other, node_none, node_one, node_many, node_ended}
use Rattle.reader.proofs.properties.Properties.links.Goals as goal
use Rattle.reader.proofs.properties.Properties.links.Goals.{After-line_in-line, in-Link+else-n-eq0+else-n-ne1, in_default}

-- a refusal, as links tell it
abbrev told : Refusal → Linked
told r = refused_links (reason_number r.reason) r.place

-- the line that is noted is the property's
module _ (c : After-line_in-line) where
  rule : let p = c.args.self in line_of c.line_in-line.result ≡ rule_at (lines_from p.lines.now) p.body.now (get_or p.starts.now c.loop-i.i 0)
  rule = let p = c.args.self in line_found (lines_from p.lines.now) p.body.now p.starts.now p.numbered c.loop-i.i c.loop-i-test.true c.line_in-line.ensures.line

pub returns-then-n-eq0-clause-result : goal.returns-then-n-eq0-clause-result
returns-then-n-eq0-clause-result c =
    let says = node_none _ _ _ _ _ _ _ c.loop-i-test.true c.line_in-line.result (rule (goal.at.returns-then-n-eq0-clause-result c).After-line_in-line) c.in-Link.is c.count-n.ensures c.read-hash.ensures
    c.rest_at.ensures c.if-n-eq0.true in
    ap told c.at.ensures ∙ sym says ∙ c.loop-i.invariant.rest

pub returns-then-n-ne1-clause-result : goal.returns-then-n-ne1-clause-result
returns-then-n-ne1-clause-result c =
    let says = node_many _ _ _ _ _ _ _ c.loop-i-test.true c.line_in-line.result (rule (goal.at.returns-then-n-ne1-clause-result c).After-line_in-line) c.in-Link.is c.count-n.ensures c.read-hash.ensures
    c.rest_at.ensures c.if-n-eq0.false c.if-n-ne1.true in
    ap told c.at-then-n-ne1.ensures ∙ sym says ∙ c.loop-i.invariant.rest

pub loop-i-preserved : goal.loop-i-preserved
loop-i-preserved c =
    let line = rule (goal.at.loop-i-preserved c).After-line_in-line in
    elim c.match-line.branch [
      | in-Link+else-n-eq0+else-n-ne1 w ↦
          let says = node_one _ _ _ _ _ _ _ c.loop-i-test.true c.line_in-line.result line w.in-Link.is w.count-n.ensures w.read-hash.ensures w.rest_at.ensures w.if-n-ne1.false in
          record { count = omega arith; rest = rw w.links-is (sym says ∙ c.loop-i.invariant.rest) }
      | in_default w ↦
          let says = node_other _ _ _ _ _ _ _ c.loop-i-test.true c.line_in-line.result line w.in_default.not-Link in
          record { count = omega arith; rest = rw w.links-is (sym says ∙ c.loop-i.invariant.rest) }
    ]

pub returns-clause-result : goal.returns-clause-result
returns-clause-result c = sym (node_ended _ _ _ _ _ _ _ c.loop-i-test.false) ∙ c.loop-i.invariant.rest
