-- Loops over a table's rows: what the row in turn adds, the rest being the rows from it on.
use Prim.Native.Nat.{ℕ, ◌+◌, ◌-◌, ◌≤◌, ◌<◌}
use native.Mathlib.Nat.{zero-add, add-zero, add_assoc}
use mathlib.Core.Path.{◌≡◌, ◌∙◌}
use mathlib.Core.List.{List}
use Rattle.base.specs.Refusals.{refused_or}
use Rattle.base.proofs.Refusals.{is_refused}
use Rattle.table.specs.declared.Row.{Row}
use Rattle.table.specs.Table.{row_at, rows_at}
use Rattle.table.proofs.Rests.{rest, rest_all, rest_more, rest_none}
use Rattle.judge.specs.Judge.{Judged}
use Rattle.reader.specs.Reading.{Ruled}
use Rattle.reader.specs.Reading.{bones_under, judged_with, counted, uncounted, ruled}

-- ---- rules

-- what some rows give, with what was counted before them
abbrev pub on_top : (faces degenerate links : ℕ) → Ruled → Ruled
on_top f d l u = record { number = u.number; place = u.place; faces = f + u.faces; degenerate = d + u.degenerate; links = l + u.links }

module _ (s t : List ℕ) (n : ℕ) where
  abbrev all : List Row
  all = rows_at t 0 n

  pub rules_begun : on_top 0 0 0 (ruled s all (rest t n 0)) ≡ ruled s all all
  rules_begun = rw (rest_all t n) (simp zero-add)

  module _ (f d l i : ℕ) where
    module _ (h : i < n) {r : Row} {b : ℕ} {j : Judged} (e : r ≡ row_at t i) (g : b ≡ bones_under all r.parent)
        (k : j ≡ judged_with s r b) where
      next : ruled s all (rest t n i) ≡ refused_or j.number (uncounted j.number (r.start + j.place - 24)) (counted j (ruled s all (rest t n (i + 1))))
      unfolding ruled
      next = rw (rest_more t n i h, ← e, ← g, ← k)

      pub rules_refused : (j.number ≡ 0 → ⊥)
          → on_top f d l (ruled s all (rest t n i))
          ≡ record { number = j.number; place = (r.start + j.place) - 24; faces = f; degenerate = d; links = l }
      rules_refused m = rw (next ∙ is_refused j.number _ _ m) (simp add-zero)

      pub rules_passed : j.number ≡ 0
          → on_top f d l (ruled s all (rest t n i))
          ≡ on_top (f + j.faces.0) (d + j.degenerate) (l + j.links) (ruled s all (rest t n (i + 1)))
      rules_passed m = rw (next, m) (simp add_assoc)

    pub rules_ended : n ≤ i → on_top f d l (ruled s all (rest t n i)) ≡ record { number = 0; place = 0; faces = f; degenerate = d; links = l }
    unfolding ruled
    rules_ended h = rw (rest_none t n i h) (simp add-zero)
