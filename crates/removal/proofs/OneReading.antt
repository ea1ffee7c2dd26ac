-- An accepted file has one account and one list of rows.
use Prim.Native.Nat.{ℕ, ◌≤◌}
use native.Mathlib.Omega.{arith}
use mathlib.Core.Path.{◌≡◌, ap, sym, ◌∙◌}
use mathlib.Core.List.{List}
use lib.ListN.{length, replicate, length-replicate}
use Rattle.table.specs.Table.{rows_at, flat, filled, first_rows}
use Rattle.table.proofs.Plans.{first_filled, rows_flat}
use Rattle.reader.specs.declared.Account.{Account}
use Rattle.reader.specs.Reading.{Accepted}
use Rattle.removal.specs.RemovalSequence.{OneReading}

pub account_same : (a b : Account) → Accepted a ≡ Accepted b → b ≡ a
account_same a b e = cc

-- a table with room
roomy : (n : ℕ) → 8192 ≤ n → 8192 ≤ length (replicate {A = ℕ} n 0)
roomy n h = rw (length-replicate {A = ℕ} n 0) h

pub one_reading : OneReading
one_reading s rows rows' a a' x y =
    let t : List ℕ = replicate 8192 0 in
    let h = roomy 8192 (omega arith) in
    let account : a ≡ a' = account_same a' a (sym (y.accepts t h) ∙ x.accepts t h) in
    let long : length rows ≡ length rows' = sym x.nodes ∙ ap (λ (b : Account). b.nodes) account ∙ y.nodes in
    let numbers : flat rows ≡ flat rows'
    = sym (first_filled t rows) ∙ ap (λ u. first_rows u (length rows)) (sym (x.table t h) ∙ y.table t h)
    ∙ ap (first_rows (filled rows' t)) long ∙ first_filled t rows' in
    (sym (rows_flat rows) ∙ ap (λ l. rows_at l 0 (length rows)) numbers ∙ ap (rows_at (flat rows') 0) long ∙ rows_flat rows', account)
