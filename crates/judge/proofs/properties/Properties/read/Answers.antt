-- `judge::properties::Properties::read`: the property at the place that is found, or none.
use Rattle.std.proofs.Common.{◌≡◌, None, Some, rules, sym, ap, ◌∙◌}
use Rattle.le.specs.Le.{number_at}
use Rattle.faces.specs.Faces.{width_of}
use Rattle.judge.specs.Properties.{rest_at}
use Rattle.judge.specs.ByLine.{length_by_line, value_by_line}
use Rattle.judge.proofs.Named.{not_found, found_at}
use Rattle.judge.proofs.properties.Properties.read.Goals as goal

pub returns-in_default-clause-length : goal.returns-in_default-clause-length
unfolding length_by_line
returns-in_default-clause-length c =
    let p = c.args.self.now in
    let none : c.place.result ≡ None = search rules in
    rw (not_found c.args.line p.starts.now p.numbers.now (sym none ∙ c.place.ensures))

pub returns-in_default-clause-value : goal.returns-in_default-clause-value
unfolding value_by_line
returns-in_default-clause-value c =
    let p = c.args.self.now in
    let none : c.place.result ≡ None = search rules in
    rw (not_found c.args.line p.starts.now p.numbers.now (sym none ∙ c.place.ensures))

pub returns-clause-length : goal.returns-clause-length
unfolding length_by_line
returns-clause-length c =
    let p = c.args.self.now in
    let some : c.place.result ≡ Some c.in-Some.at = search rules in
    let at = found_at c.args.line p.starts.now p.numbers.now (sym some ∙ c.place.ensures) in
    rw (at.0, ← at.1) (ap (λ h. h.length) c.header_at-header.ensures)

pub returns-clause-value : goal.returns-clause-value
unfolding value_by_line
returns-clause-value c =
    let p = c.args.self.now in
    let some : c.place.result ≡ Some c.in-Some.at = search rules in
    let at = found_at c.args.line p.starts.now p.numbers.now (sym some ∙ c.place.ensures) in
    rw (at.0, ← at.1)
    (c.value_at.ensures ∙ ap (λ h. number_at (width_of h.code) (rest_at p.body.now c.in-Some.at) 0) c.header_at-header.ensures)
