-- `vectors::listings::run`: the listing, or a line.
use mathlib.Core.Path.{ap, ◌∙◌}
use mathlib.Core.List.{[], ◌∷◌}
use borrow.Author.Tests.{eq-eqb, ne_eqb}
use Rattle.vectors.specs.Answers.{answered}
use Rattle.vectors.specs.Listings.{listed, list_numbers, list_output}
use Rattle.vectors.proofs.listings.run.Goals as goal

pub returns-then-f-eq32-clause-result : goal.returns-then-f-eq32-clause-result
unfolding list_numbers listed
returns-then-f-eq32-clause-result c =
    rw (eq-eqb _ _ c.if-f-eq32.true) (c.of.ensures ∙ ap (λ n. answered (n ∷ [])) c.list.ensures.length)

pub returns-then-f-eq32-clause-output : goal.returns-then-f-eq32-clause-output
unfolding list_output listed
returns-then-f-eq32-clause-output c = rw (eq-eqb _ _ c.if-f-eq32.true) c.list.ensures.output

pub returns-clause-result : goal.returns-clause-result
unfolding list_numbers listed
returns-clause-result c =
    rw (ne_eqb _ _ c.if-f-eq32.false, ← c.line.ensures) (c.of-2.ensures ∙ ap (λ n. answered (n ∷ [])) c.put.ensures.length)

pub returns-clause-output : goal.returns-clause-output
unfolding list_output listed
returns-clause-output c = rw (ne_eqb _ _ c.if-f-eq32.false, ← c.line.ensures) c.put.ensures.output
