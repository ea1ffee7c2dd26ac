-- `plan::check_row`: the first test that fails.
use mathlib.Core.Path.{◌≡◌, sym, ap, ◌∙◌}
use mathlib.Core.Bool.{true, false}
use lib.ListN.{length}
use Rattle.kinds.specs.Kinds.{is_known}
use Rattle.body.specs.Body.{exactly}
use Rattle.format.specs.Rows.{body_of, outside}
use Rattle.plan.specs.Plan.{right_parent}
use Rattle.plan.specs.Private.{path_at}
use Rattle.plan.proofs.Judging.{refusal_parent, refusal_outside, refusal_unknown, refusal_body, refusal_children, refusal_none}
use Rattle.plan.proofs.check_row.Goals as goal
use Rattle.plan.proofs.check_row.Goals.{After-exact, Else-is_outside, Else-not-known, Else-not-right_parent}

pub returns-then-not-right_parent : goal.returns-then-not-right_parent
returns-then-not-right_parent c = refusal_parent _ _ _ _ (sym c.right_parent.ensures ∙ c.if-not-right_parent.true)

-- what is known of the row after each test
parent_right : (c : Else-not-right_parent) → let a = c.args in right_parent a.row (path_at a.plan.now a.index) ≡ true
parent_right c = sym c.right_parent.ensures ∙ c.if-not-right_parent.false

inside : (c : Else-is_outside) → let a = c.args in outside (length a.source.now) a.row ≡ false
inside c = sym c.is_outside.ensures ∙ c.if-is_outside.false

known : (c : Else-not-known) → is_known c.args.row.kind ≡ true
known c = sym c.requires.1 ∙ c.if-not-known.false

pub returns-then-is_outside : goal.returns-then-is_outside
returns-then-is_outside c =
    let at = goal.at.returns-then-is_outside c in
    refusal_outside _ _ _ _ (parent_right at.Else-not-right_parent) (sym c.is_outside.ensures ∙ c.if-is_outside.true)

pub returns-then-not-known : goal.returns-then-not-known
returns-then-not-known c =
    let at = goal.at.returns-then-not-known c in
    refusal_unknown _ _ _ _ (parent_right at.Else-not-right_parent) (inside at.Else-is_outside) (sym c.requires.1 ∙ c.if-not-known.true)

exact : (c : After-exact) → let a = c.args in c.exact.result ≡ exactly (body_of a.source.now a.row) a.row.properties
exact c = c.exact.ensures ∙ ap (λ l. exactly l c.args.row.properties) c.body_of-body.ensures

pub returns-then-not-exact : goal.returns-then-not-exact
returns-then-not-exact c =
    let at = goal.at.returns-then-not-exact c in
    refusal_body _ _ _ _ (parent_right at.Else-not-right_parent) (inside at.Else-is_outside) (known at.Else-not-known)
    (sym (exact at.After-exact) ∙ c.if-not-exact.true)

pub returns-then-row-named : goal.returns-then-row-named
returns-then-row-named c =
    let at = goal.at.returns-then-row-named c in
    refusal_children _ _ _ _ (parent_right at.Else-not-right_parent) (inside at.Else-is_outside) (known at.Else-not-known)
    (sym (exact at.After-exact) ∙ c.if-not-exact.false) c.if-row-named.true

pub returns : goal.returns
returns c =
    let at = goal.at.returns c in
    refusal_none _ _ _ _ (parent_right at.Else-not-right_parent) (inside at.Else-is_outside) (known at.Else-not-known)
    (sym (exact at.After-exact) ∙ c.if-not-exact.false) c.if-row-named.false
