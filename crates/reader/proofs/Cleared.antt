-- What the walk leaves in the table is cleared on a refusal.
use Prim.Native.Nat.{ℕ, ◌≤◌}
use native.Mathlib.Omega.{arith}
use mathlib.Core.Path.{◌≡◌, ap, sym, ◌∙◌}
use mathlib.Core.Bool.{true}
use mathlib.Core.List.{List}
use lib.ListN.{length}
use Rattle.base.proofs.Refusals.{is_refused}
use Rattle.table.specs.Table.{put_rows, has_room, cleared}
use Rattle.table.proofs.Clearing.{cleared_put_rows}
use Rattle.walk.specs.Walk.{limited}
use Rattle.reader.specs.Reading.{Refused}
use Rattle.reader.specs.Reading.{checked, verdict, reading_of, table_after}

pub refused_read : (s t : List ℕ) → has_room t ≡ true → length (limited s).rows ≤ 1024 → ((limited s).number ≡ 0 → ⊥) → {u : List ℕ} → u ≡ put_rows t 0 (limited s).rows
    → (Refused (limited s).number (limited s).at ≡ reading_of s t) × (cleared u ≡ table_after s t)
unfolding reading_of table_after verdict
refused_read s t room few h e =
    let is = sym (is_refused (limited s).number (Refused (limited s).number (limited s).at) (checked s (limited s).rows) h) in
    (rw room is, rw room (rw (← is) (ap cleared e ∙ cleared_put_rows t 0 (limited s).rows room (omega arith))))
