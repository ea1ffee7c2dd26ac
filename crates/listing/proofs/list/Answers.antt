-- `listing::list`: an input that is too long, a file that is refused, or an accepted one.
use native.Mathlib.Omega.{arith}
use mathlib.Core.Path.{◌≡◌, ap, sym, ◌∙◌}
use mathlib.Core.Bool.{true}
use mathlib.Core.List.{List}
use Prim.Native.Nat.{ℕ, ◌≤◌}
use lib.ListN.{length, replicate, length-replicate}
use borrow.Author.Tests.{le-leb}
use Rattle.le.specs.Le.{AreBytes}
use Rattle.table.specs.Table.{rows_at, has_room}
use Rattle.reader.specs.Reading.{Reading}
use Rattle.reader.specs.Reading.{Refused, verdict, reading_of}
use Rattle.reader.proofs.Exactly.{in_room}
use Rattle.reader.proofs.Accepted.{table_rows}
use Rattle.listing.proofs.Listed.{listing_long, listing_refused, listing_accepted}
use Rattle.listing.proofs.list.Goals as goal
use Rattle.listing.proofs.list.Goals.{After-read}

pub returns-then-input-gt32768 : goal.returns-then-input-gt32768
returns-then-input-gt32768 c =
    let long = listing_long c.args.input.now c.if-input-gt32768.true in
    record { length = rw long c.put.ensures.length; output = rw long c.put.ensures.output }

-- after the reading: the table's room, and the verdict
module _ (c : After-read) where
  abbrev input : List ℕ
  input = c.args.input.now

  abbrev table : List ℕ
  table = replicate 8192 0

  room : has_room table ≡ true
  unfolding has_room
  room = le-leb 8192 (length table) (omega (arith, length-replicate {A = ℕ} 8192 0))

  short : length input ≤ 32768
  short = c.if-input-gt32768.false

  told : {r : Reading} → r ≡ reading_of input table → verdict input ≡ r
  told e = sym (in_room input table room) ∙ sym e

pub returns-in-Ok : goal.returns-in-Ok
returns-in-Ok c =
    let r = (goal.at.returns-in-Ok c).After-read in
    let a = c.in-Ok.account in
    let e = told r c.in-Ok.ensures.result in
    let bytes : AreBytes c.args.input.now = λ i. omega (arith, c.type_inv.input i) in
    let rows = ap (λ t. rows_at t 0 a.nodes) c.read.ensures.table ∙ table_rows (input r) e bytes (table r) (room r) in
    let whole = listing_accepted (input r) (short r) a e in
    let put = rw rows at c.accepted.ensures in
    record { length = rw whole put.0; output = rw whole put.1 }

pub returns-in-Err : goal.returns-in-Err
returns-in-Err c =
    let r = (goal.at.returns-in-Err c).After-read in
    let place = c.in-Err.refusal.place in
    let whole =
    listing_refused (input r) (short r) c.number.result place
    (told r c.in-Err.ensures.result ∙ ap (λ n. Refused n place) (sym c.number.ensures)) in
    record { length = rw whole c.put-in-Err.ensures.length; output = rw whole c.put-in-Err.ensures.output }
