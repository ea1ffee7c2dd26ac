-- An accepted file's rows: how many there are, and where the reading leaves them.
use Prim.Native.Nat.{ℕ, ◌≤◌}
use native.Mathlib.Omega.{arith}
use mathlib.Core.Path.{◌≡◌, ap, sym, ◌∙◌}
use mathlib.Core.Bool.{true}
use mathlib.Core.List.{List}
use lib.ListN.{length}
use Rattle.le.specs.Le.{AreBytes}
use Rattle.table.specs.Table.{no_parent, rows_at, has_room, filled}
use Rattle.table.proofs.Plans.{rows_filled}
use Rattle.format.specs.Rows.{rows_of}
use Rattle.format.proofs.Rows.{length_rows}
use Rattle.walk.specs.Walk.{limited, flags_of}
use Rattle.reader.specs.declared.Account.{Account}
use Rattle.reader.specs.Reading.{Reading}
use Rattle.reader.specs.Reading.{Accepted}
use Rattle.reader.specs.Reading.{ruled, account_of, numbers_of, verdict, table_after}
use Rattle.reader.specs.Acceptance.{IsValid}
use Rattle.links.specs.Links.{linked}
use Rattle.reader.proofs.Exactly.{accepted_parts, checked_parts, verdict_valid, valid_rows}

module _ (s : List ℕ) {a : Account} (e : verdict s ≡ Accepted a) where
  account_is : Accepted (account_of s (limited s).rows (ruled s (limited s).rows (limited s).rows) (linked s (limited s).rows)) ≡ Accepted a
  account_is = (checked_parts s (limited s).rows (accepted_parts s e).1).2

  pub nodes_are : a.nodes ≡ length (limited s).rows
  nodes_are = ap (λ (r : Reading). (numbers_of r).nodes) (sym account_is)

  pub flags_are : a.flags ≡ flags_of s
  flags_are = ap (λ (r : Reading). (numbers_of r).flags) (sym account_is)

  pub table_left_lem : (t : List ℕ) → has_room t ≡ true → table_after s t ≡ filled (limited s).rows t
  unfolding table_after
  table_left_lem t room = rw (room, e)

  module _ (bytes : AreBytes s) where
    abbrev pub seen : IsValid s
    seen = verdict_valid s bytes e

    pub rows_are : (limited s).rows ≡ rows_of seen.forest
    rows_are = valid_rows s seen.flags seen.forest seen.valid seen.bytes

    pub few : length (limited s).rows ≤ 1024
    few = omega (arith, ap length rows_are, length_rows seen.forest no_parent 0 16, seen.valid.few)

    pub table_rows : (t : List ℕ) → has_room t ≡ true → rows_at (table_after s t) 0 a.nodes ≡ (limited s).rows
    table_rows t room =
        ap (λ n. rows_at (table_after s t) 0 n) nodes_are ∙ ap (λ u. rows_at u 0 (length (limited s).rows)) (table_left_lem t room)
        ∙ rows_filled t (limited s).rows room few
