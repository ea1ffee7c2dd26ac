-- `reader::read`: a table without room; a file that the walk refuses; or what is found of its rows.
use Rattle.std.specs.Prelude.{Ok}
use Prim.Native.Nat.{ℕ, ◌+◌, ◌≤◌}
use native.Mathlib.Omega.{arith}
use mathlib.Core.Path.{◌≡◌, refl, sym, ap, ◌∙◌, subst}
use mathlib.Core.Bool.{true}
use mathlib.Core.List.{List}
use lib.ListN.{length}
use Rattle.base.specs.declared.Refusal.{Refusal}
use Rattle.base.specs.Refusals.{reason_number, refusal_in}
use Rattle.le.specs.Le.{AreBytes}
use Rattle.table.specs.declared.Row.{Row}
use Rattle.table.specs.Table.{rows_at, put_rows, has_room}
use Rattle.format.specs.Rows.{all_own_bytes}
use Rattle.walk.specs.declared.Walked.{Walked}
use Rattle.walk.specs.Walk.{answer_told, answer, limited, flags_of}
use Rattle.reader.specs.Reading.{Reading, Refused}
use Rattle.reader.specs.Reading.{checked, reading_told, numbers_of, Small}
use Rattle.reader.specs.Private.{RowsOk, left_after}
use Rattle.reader.proofs.Exactly.{short}
use Rattle.reader.proofs.Sizes.{small}
use Rattle.base.proofs.Refusals.{numbered}
use Rattle.reader.proofs.Whole.{put_rows_lem, put_ok, walked_ok, walked_own, short_table, walk_refused, walk_accepted, checked_read}
use Rattle.reader.proofs.Cleared.{refused_read}
use Rattle.reader.proofs.read.Goals as goal
use Rattle.reader.proofs.read.Goals.{After-walk}

-- a refusal, as a reading tells it
abbrev told : Refusal → Reading
told r = Refused (reason_number r.reason) r.place

-- after the walk: the table's room, and the rows that were put
module _ (c : After-walk) where
  abbrev file : List ℕ
  file = c.args.file.now

  abbrev table : List ℕ
  table = c.args.table.now

  abbrev rows : List Row
  rows = (limited file).rows

  abbrev left : List ℕ
  left = c.walk.new.table

  room : has_room table ≡ true
  room = sym c.has_room.ensures ∙ c.if-not-has_room.false

  few : length rows ≤ 1024
  few = c.walk.ensures.bound

  put : left ≡ put_rows table 0 rows
  put = c.walk.ensures.table

  -- where it refuses nothing: its rows stand in the table
  module _ {w : Walked} (e : answer_told (Ok w) ≡ answer file) where
    is : ((limited file).number ≡ 0) × (w.nodes ≡ length rows) × (w.flags ≡ flags_of file)
    is = walk_accepted file table e refl

    rows_ok : AreBytes file → RowsOk file left w.nodes
    rows_ok bytes =
        subst (λ u. RowsOk file u w.nodes) (sym put)
        (subst (RowsOk file (put_rows table 0 rows)) (sym is.1)
        (put_ok table rows room few file (walked_ok file bytes is.0)))

    rows_there : rows_at left 0 w.nodes ≡ rows
    rows_there =
        ap (λ u. rows_at u 0 w.nodes) put ∙ ap (rows_at (put_rows table 0 rows) 0) is.1 ∙ put_rows_lem table rows room few

pub returns-then-not-has_room : goal.returns-then-not-has_room
returns-then-not-has_room c =
    let left = short_table c.args.file.now c.args.table.now (sym c.has_room.ensures ∙ c.if-not-has_room.true) in
    let e = ap told c.at.ensures ∙ left.0 in
    record { result = e; numbers = ap numbers_of e; table = left.1; small = tt; place = omega (arith, ap (λ r. r.place) c.at.ensures) }

pub returns-in-Err : goal.returns-in-Err
returns-in-Err c =
    let w = (goal.at.returns-in-Err c).After-walk in
    let r = c.in-Err.refusal in
    let is = walk_refused (file w) (table w) c.in-Err.ensures.result (numbered r.reason) in
    let read = refused_read (file w) (table w) (room w) (few w) (λ e. numbered r.reason (is.0 ∙ e)) (put w) in
    let e = ap (λ n. Refused n r.place) is.0 ∙ ap (Refused (limited (file w)).number) is.1 ∙ read.0 in
    record { result = e; numbers = ap numbers_of e; table = c.clear.ensures ∙ read.1; small = tt; place = omega (arith, c.in-Err.ensures.place) }

pub checked-r-requires : goal.checked-r-requires
checked-r-requires c =
    let w = (goal.at.checked-r-requires c).After-walk in
    let e = c.in-Ok.ensures.result in
    let bytes : AreBytes (file w) = λ i. omega (arith, c.type_inv.file i) in
    let x = is w e in
    record {
      nodes_le_most_rows = (omega (arith, x.1, few w), rows_ok w e bytes, short (file w) x.0, x.2);
      own = ap (λ rs. 16 + all_own_bytes rs) (rows_there w e) ∙ walked_own (file w) bytes x.0;
    }

pub returns-in-Ok : goal.returns-in-Ok
returns-in-Ok c =
    let w = (goal.at.returns-in-Ok c).After-walk in
    let e = c.in-Ok.ensures.result in
    let bytes : AreBytes (file w) = λ i. omega (arith, c.type_inv.file i) in
    let r = reading_told c.checked-r.result in
    let x = c.leave.ensures in
    let read = checked_read (file w) (table w) (room w) (few w) (is w e).0 (c.checked-r.ensures.result ∙ ap (checked (file w)) (rows_there w e)) (put w) in
    let gives = ap reading_told x.result ∙ read.0 in
    record {
      result = gives;
      numbers = ap numbers_of gives;
      table = x.table ∙ ap (λ n. left_after r n (left w)) (omega (arith, (is w e).1)) ∙ read.1;
      small = subst (λ a. Small (reading_told a)) (sym x.result) (small (file w) bytes r read.2);
      place = omega (arith, ap (λ a. (refusal_in a).place) x.result, c.checked-r.ensures.place);
    }
