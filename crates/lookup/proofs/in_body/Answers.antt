-- `lookup::in_body`: what the search answers is what the body answers.
use Rattle.std.specs.Prelude.{Ok}
use native.Mathlib.Omega.{arith}
use mathlib.Core.Path.{◌≡◌, sym, ap, subst, ◌∙◌}
use mathlib.Core.Bool.{cond, not}
use mathlib.Core.List.{List}
use Prim.Native.Nat.{ℕ, ◌≤◌}
use lib.ListN.{length}
use borrow.Author.Tests.{eq-eqb, ne_eqb}
use Rattle.body.specs.Body.{Sought, Found, Nowhere}
use Rattle.body.specs.Body.{sought, sought_told}
use Rattle.body.proofs.Laws.{many, few}
use Rattle.body.proofs.Search.{SoughtWithin, sought_within}
use Rattle.lookup.specs.Lookup.{At, Refused}
use Rattle.lookup.specs.Lookup.{in_body}
use Rattle.lookup.proofs.Laws.{found_in, body_found, found_refused, by_sought, sought_found}
use Rattle.lookup.proofs.in_body.Goals as goal
use Rattle.lookup.proofs.in_body.Goals.{After-exact, In-Ok-Found, In-Ok-Nowhere}

-- what the search answers is the answer
answers : (body name : List ℕ) (count : ℕ) {found : Sought} → count ≤ 64 → found ≡ sought body name count 0 → by_sought body found ≡ in_body body count name
answers body name count most e =
    ap (by_sought body) e ∙ sought_found body name count 0 most
    ∙ ap (found_in body name) (few body count most) ∙ body_found body name count

-- what was found, or that nothing was
found : (c : In-Ok-Found) → let f = c.in-Ok-Found in Found f.start f.end f.left ≡ sought c.args.body.now c.args.name.now c.args.count 0
found c = ap (λ f. sought_told (Ok f)) (sym c.in-Ok-Found.field-0-is) ∙ c.in-Ok-Found.ensures.result

nowhere : (c : In-Ok-Nowhere) → Nowhere c.in-Ok-Nowhere.at ≡ sought c.args.body.now c.args.name.now c.args.count 0
nowhere c = ap (λ f. sought_told (Ok f)) (sym c.in-Ok-Nowhere.field-0-is) ∙ c.in-Ok-Nowhere.ensures.result

-- what is found lies within
within : (c : In-Ok-Found) → c.in-Ok-Found.end ≤ length c.args.body.now
within c =
    let a = c.args in
    subst (SoughtWithin (length a.body.now)) (sym (found c)) (sought_within a.body.now a.name.now a.count 0)

pub returns-then-count-gt-MOST_PROPERTIES : goal.returns-then-count-gt-MOST_PROPERTIES
returns-then-count-gt-MOST_PROPERTIES c =
    let a = c.args in
    found_refused a.body.now a.name.now 9 0 (λ e. omega (arith, e)) ∙ ap (found_in a.body.now a.name.now) (many a.body.now a.count c.if-count-gt-MOST_PROPERTIES.true) ∙ body_found a.body.now a.name.now a.count

pub slice_bounds-exact-count : goal.slice_bounds-exact-count
slice_bounds-exact-count c = within (goal.at.slice_bounds-exact-count c).In-Ok-Found

pub slice_bounds-exact-start : goal.slice_bounds-exact-start
slice_bounds-exact-start c = within (goal.at.slice_bounds-exact-start c).In-Ok-Found

-- the first property of the name, where the rest is judged
judged : (c : After-exact) → let a = c.args in
    cond (not c.exact.result) (Refused 42) (At c.in-Ok-Found.start c.in-Ok-Found.end) ≡ in_body a.body.now a.count a.name.now
judged c =
    let a = c.args in
    ap (λ b. cond (not b) (Refused 42) (At c.in-Ok-Found.start c.in-Ok-Found.end)) c.exact.ensures
    ∙ answers a.body.now a.name.now a.count c.if-count-gt-MOST_PROPERTIES.false (found (goal.at.After-exact c).In-Ok-Found)

pub returns-then-not-exact : goal.returns-then-not-exact
returns-then-not-exact c = rw c.if-not-exact.true at (judged (goal.at.returns-then-not-exact c).After-exact)

pub returns-then-at-body : goal.returns-then-at-body
returns-then-at-body c =
    rw (ne_eqb _ _ c.if-at-body.true) at (answers _ _ _ c.if-count-gt-MOST_PROPERTIES.false (nowhere (goal.at.returns-then-at-body c).In-Ok-Nowhere))

pub returns-else-not-exact : goal.returns-else-not-exact
returns-else-not-exact c = rw c.if-not-exact.false at (judged (goal.at.returns-else-not-exact c).After-exact)

pub returns-else-at-body : goal.returns-else-at-body
returns-else-at-body c =
    rw (eq-eqb _ _ c.if-at-body.false) at (answers _ _ _ c.if-count-gt-MOST_PROPERTIES.false (nowhere (goal.at.returns-else-at-body c).In-Ok-Nowhere))

pub returns-in-Err : goal.returns-in-Err
returns-in-Err c = answers _ _ _ c.if-count-gt-MOST_PROPERTIES.false c.in-Err.ensures.result
