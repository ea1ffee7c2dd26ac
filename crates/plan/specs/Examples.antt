-- Small plans, judged by the definition.
use Rattle.std.specs.Prelude.{ℕ, ◌≡◌, refl, List, [], ◌∷◌}
use Rattle.le.specs.Le.{val, number_at}
use Rattle.names.specs.Names.{bytes_ok}
use Rattle.kinds.specs.Kinds.{root, model, mesh, skeleton, parents_table, parents_in, parents_of, is_known}
use Rattle.props.specs.Step.{to_zero, name_at, step_at}
use Rattle.body.specs.Body.{pass, properties, exactly}
use Rattle.table.specs.declared.Row.{Row}
use Rattle.table.specs.Table.{no_parent}
use Rattle.table.specs.Counts.{count_under}
use Rattle.plan.specs.Plan.{up_from, path_of, is_on, right_parent, row_refusal, plan_refusal_from, plan_refusal}

-- the number, and the row
unfoldable judge : List ℕ → List Row → List ℕ
unfolding val number_at bytes_ok parents_table parents_in parents_of is_known to_zero name_at step_at pass properties exactly up_from path_of is_on right_parent count_under row_refusal plan_refusal_from plan_refusal
judge s rows = let j = plan_refusal s rows in j.number ∷ j.place ∷ []

-- a row without a body, and one with; an unknown kind
abbrev bare : (kind parent children : ℕ) → Row
bare kind parent children = record { kind = kind; low = 0; high = 0; parent = parent; start = 0; end = 0; properties = 0; children = children }

abbrev body : (kind parent start stop properties : ℕ) → Row
body kind parent start stop properties = record { kind = kind; low = 0; high = 0; parent = parent; start = start; end = stop; properties = properties; children = 0 }

abbrev note : ℕ
note = 0x6E676177

-- a property `a` of type b, and a byte after it
abbrev source : List ℕ
source = 0x62 ∷ 0 ∷ 1 ∷ 0 ∷ 1 ∷ 0 ∷ 0 ∷ 0 ∷ 97 ∷ 5 ∷ 9 ∷ []

-- no row; a Root; a row with a child two levels down, a sibling of its parent, and a second Root
right : (judge [] [] ≡ 0 ∷ 0 ∷ []) × (judge [] (bare root no_parent 0 ∷ []) ≡ 0 ∷ 0 ∷ [])
    × (judge [] (bare root no_parent 2 ∷ bare model 0 1 ∷ bare skeleton 1 0 ∷ bare model 0 0 ∷ bare root no_parent 0 ∷ []) ≡ 0 ∷ 0 ∷ [])
unfolding judge
right = (refl, refl, refl)

-- 21: no Root first; a Root under a row; none for another; itself; a later row; an unknown row; a row that the path has left
parents : (judge [] (bare model no_parent 0 ∷ []) ≡ 21 ∷ 0 ∷ []) × (judge [] (bare root no_parent 1 ∷ bare root 0 0 ∷ []) ≡ 21 ∷ 1 ∷ [])
    × (judge [] (bare root no_parent 0 ∷ bare model no_parent 0 ∷ []) ≡ 21 ∷ 1 ∷ []) × (judge [] (bare root no_parent 0 ∷ bare model 1 0 ∷ []) ≡ 21 ∷ 1 ∷ [])
    × (judge [] (bare root no_parent 1 ∷ bare model 2 0 ∷ bare model 0 0 ∷ []) ≡ 21 ∷ 1 ∷ [])
    × (judge [] (bare root no_parent 1 ∷ bare note 0 0 ∷ bare model 1 0 ∷ []) ≡ 21 ∷ 2 ∷ [])
    × (judge [] (bare root no_parent 2 ∷ bare model 0 1 ∷ bare model 0 0 ∷ bare mesh 1 0 ∷ []) ≡ 21 ∷ 3 ∷ [])
unfolding judge
parents = (refl, refl, refl, refl, refl, refl, refl)

-- 22: an end before its start; past the source; an empty body past it. 23: one property too few, too many, a byte too many;
-- an unknown row's body is any
bodies : (judge source (body root no_parent 1 0 0 ∷ []) ≡ 22 ∷ 0 ∷ []) × (judge source (body root no_parent 0 12 1 ∷ []) ≡ 22 ∷ 0 ∷ [])
    × (judge source (body root no_parent 12 12 0 ∷ []) ≡ 22 ∷ 0 ∷ []) × (judge source (body root no_parent 0 10 0 ∷ []) ≡ 23 ∷ 0 ∷ [])
    × (judge source (body root no_parent 0 10 2 ∷ []) ≡ 23 ∷ 0 ∷ []) × (judge source (body root no_parent 0 11 1 ∷ []) ≡ 23 ∷ 0 ∷ [])
    × (judge source (body root no_parent 0 10 1 ∷ []) ≡ 0 ∷ 0 ∷ []) × (judge source (bare root no_parent 1 ∷ body note 0 3 11 7 ∷ []) ≡ 0 ∷ 0 ∷ [])
unfolding judge
bodies = (refl, refl, refl, refl, refl, refl, refl, refl)

-- 24: a child too few; a later wrong row counts, so that the first is refused and not that row
counts : (judge [] (bare root no_parent 0 ∷ bare model 0 0 ∷ []) ≡ 24 ∷ 0 ∷ []) × (judge [] (bare root no_parent 1 ∷ bare model 0 0 ∷ bare root 0 0 ∷ []) ≡ 24 ∷ 0 ∷ [])
unfolding judge
counts = (refl, refl)
