-- `walk::check_header`: the definition's tests in their order.
use mathlib.Core.Path.{◌≡◌, sym, ◌∙◌}
use mathlib.Core.Bool.{Bool}
use Rattle.walk.specs.Private.{is_barred}
use Rattle.walk.proofs.Cases.{barred_told, ill, misplaced, rowless, deep, right}
use Rattle.walk.proofs.check_header.Goals as goal
use Rattle.walk.proofs.check_header.Goals.{After-eq}

barred : (c : After-eq) {b : Bool} → c.eq.result ≡ b → is_barred c.args.standing ≡ b
barred c e = sym (barred_told c.args.standing) ∙ sym c.eq.ensures ∙ e

pub returns-then-ill_sized : goal.returns-then-ill_sized
returns-then-ill_sized c = ill _ _ _ _ _ (sym c.ill_sized.ensures ∙ c.if-ill_sized.true)

pub returns-then-eq : goal.returns-then-eq
returns-then-eq c =
    misplaced _ _ _ _ _ (sym c.ill_sized.ensures ∙ c.if-ill_sized.false) (barred (goal.at.returns-then-eq c).After-eq c.if-eq.true)

pub returns-then-row-ge-MOST_ROWS : goal.returns-then-row-ge-MOST_ROWS
returns-then-row-ge-MOST_ROWS c =
    rowless _ _ _ _ _ (sym c.ill_sized.ensures ∙ c.if-ill_sized.false)
    (barred (goal.at.returns-then-row-ge-MOST_ROWS c).After-eq c.if-eq.false)
    c.if-row-ge-MOST_ROWS.true

pub returns-then-depth-gt8 : goal.returns-then-depth-gt8
returns-then-depth-gt8 c =
    deep _ _ _ _ _ (sym c.ill_sized.ensures ∙ c.if-ill_sized.false)
    (barred (goal.at.returns-then-depth-gt8 c).After-eq c.if-eq.false)
    c.if-row-ge-MOST_ROWS.false c.if-depth-gt8.true

pub returns : goal.returns
returns c =
    right _ _ _ _ _ (sym c.ill_sized.ensures ∙ c.if-ill_sized.false)
    (barred (goal.at.returns c).After-eq c.if-eq.false)
    c.if-row-ge-MOST_ROWS.false c.if-depth-gt8.false
