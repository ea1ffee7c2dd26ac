-- The walk over properties, a step at a time; and the search for a name.
use mathlib.Core.Path.{◌≡◌, refl, sym, ap, ◌∙◌}
use mathlib.Core.Bool.{Bool, true, false, cond}
use mathlib.Core.List.{List, [], ◌∷◌}
use Prim.Native.Nat.{ℕ, suc, ◌+◌, ◌-◌, ◌<◌, ◌≤◌}
use native.Mathlib.Numerals.{add-one}
use native.Mathlib.Omega.{arith}
use Rattle.std.specs.Prelude.{Option}
use Rattle.std.specs.Option.{unwrap_or}
use Rattle.std.specs.List.{position}
use Rattle.std.proofs.lemmas.List.Recursion.{is_position_or_len}
use lib.ListN.{length, set, replicate}
use lib.Seq.{sets}
use borrow.Author.Tests.{lt-ltb, le-ltb}
use Rattle.names.specs.Names.{same}
use Rattle.props.specs.declared.Cursor.{Cursor}
use Rattle.props.specs.declared.Offsets.{Offsets}
use Rattle.props.specs.Step.{Past, Refused}
use Rattle.props.specs.Step.{step_at, name_at}
use Rattle.body.specs.Body.{Index}
use Rattle.body.proofs.Positions.{position_or_length}
use Rattle.body.specs.Body.{PropertyWalk, stop, after, by_step, pass, properties, places, index_of, first_named}

-- ---- the walk
module _ (s : List ℕ) where
  pub many : (k : ℕ) → 64 < k → stop 9 0 ≡ properties s k
  unfolding properties
  many k h = rw (lt-ltb _ _ h)

  pub few : (k : ℕ) → k ≤ 64 → pass s k 0 ≡ properties s k
  unfolding properties
  few k h = rw (le-ltb _ _ h)

  pub done : (k at : ℕ) → k ≤ 0 → pass s k at ≡ stop 0 at
  unfolding pass
  done k at h = let none : k ≡ 0 = omega arith in rw none

  module _ (k at : ℕ) (more : 0 < k) where
    one : pass s k at ≡ by_step at (pass s (k - 1)) (step_at s at)
    unfolding pass
    one = let next : k ≡ suc (k - 1) = omega arith in ap (λ n. pass s n at) next

    pub passed : {p : Offsets} {next : Cursor} → step_at s at ≡ Past p next → pass s k at ≡ after at (pass s (k - 1) next.at)
    passed e = one ∙ ap (by_step at (pass s (k - 1))) e

    pub refused : {n : ℕ} → step_at s at ≡ Refused n → pass s k at ≡ stop n at
    refused e = one ∙ ap (by_step at (pass s (k - 1))) e

-- ---- the search
module _ (s name : List ℕ) where
  abbrev has_name : ℕ → Bool
  has_name at = same (name_at s at) name

  pub found_first : (starts : List ℕ) {found : Option ℕ} → found ≡ position has_name starts → unwrap_or found (length starts) ≡ first_named s name starts
  unfolding first_named
  found_first starts e =
      position_or_length has_name starts e
      ∙ sym (is_position_or_len (first_named s name) has_name refl (λ at more. ap (cond (has_name at) 0) (omega arith)) starts)

pub first_most : (s name starts : List ℕ) → first_named s name starts ≤ length starts
unfolding first_named
first_most s name [] = omega arith
first_most s name (at ∷ more) = by (same (name_at s at) name) (first_most s name more)
  where
    by : (b : Bool) {n : ℕ} → n ≤ length more → cond b 0 (suc n) ≤ suc (length more)
    by true h = omega arith
    by false h = omega (arith, h)

-- ---- the index
-- the index of a walk, the first of whose starts is put at a place of an array
abbrev pub index_from : List ℕ → ℕ → PropertyWalk → Index
index_from l i w = record { number = w.number; count = i + length w.starts; starts = sets l i (places w) }

pub index_whole : (w : PropertyWalk) → index_from (replicate 65 0) 0 w ≡ index_of w
index_whole w = let none : 0 + length w.starts ≡ length w.starts = omega arith in rw none

module _ (l : List ℕ) (i : ℕ) where
  pub index_after : (at : ℕ) (w : PropertyWalk) → index_from l i (after at w) ≡ index_from (set l i at) (i + 1) w
  index_after at w =
      let one : i + suc (length w.starts) ≡ i + 1 + length w.starts = omega arith in
      rw (one, add-one)

  pub index_stop : (n at : ℕ) → index_from l i (stop n at) ≡ record { number = n; count = i; starts = set l i at }
  index_stop n at = let none : i + 0 ≡ i = omega arith in rw none
