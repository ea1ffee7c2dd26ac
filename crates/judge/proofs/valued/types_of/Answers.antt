-- `judge::valued::types_of`: the string at the place that is found, or none.
use Rattle.std.proofs.Common.{◌≡◌, None, Some, rules, sym, ap, ◌∙◌}
use Rattle.base.specs.Letters.{letters}
use Rattle.judge.specs.Properties.{wanted_types}
use Rattle.judge.specs.ByLine.{kp_line, types_by_line}
use Rattle.judge.proofs.Named.{not_found, found_at}
use Rattle.judge.proofs.valued.types_of.Goals as goal
use Rattle.judge.proofs.valued.types_of.Goals.{After-rest_at-string}

pub returns-in_default : goal.returns-in_default
unfolding types_by_line
returns-in_default c =
    let p = c.args.properties.now in
    let none : c.place.result ≡ None = search rules in
    rw (not_found kp_line p.starts.now p.numbers.now (sym none ∙ c.place.ensures))

-- what the string at that place wants is what is sought
wanted : (c : After-rest_at-string) →
    let p = c.args.properties.now in
    types_by_line p.body.now p.starts.now p.numbers.now ≡ wanted_types c.rest_at-string.result.now
unfolding types_by_line letters
wanted c =
    let p = c.args.properties.now in
    let some : c.place.result ≡ Some c.in-Some.at = search rules in
    let at = found_at kp_line p.starts.now p.numbers.now (sym some ∙ c.place.ensures) in
    rw (at.0, ← at.1) (ap wanted_types (sym c.rest_at-string.ensures))

pub returns-then-is_text : goal.returns-then-is_text
unfolding letters
returns-then-is_text c =
    rw (wanted (goal.at.returns-then-is_text c).After-rest_at-string, ← c.is_text.ensures, c.if-is_text.true)

pub returns-then-is_text-2 : goal.returns-then-is_text-2
unfolding letters
returns-then-is_text-2 c =
    rw (wanted (goal.at.returns-then-is_text-2 c).After-rest_at-string, ← c.is_text.ensures, c.if-is_text.false, ← c.is_text-2.ensures, c.if-is_text-2.true)

pub returns : goal.returns
unfolding letters
returns c =
    rw (wanted (goal.at.returns c).After-rest_at-string, ← c.is_text.ensures, c.if-is_text.false, ← c.is_text-2.ensures, c.if-is_text-2.false)
