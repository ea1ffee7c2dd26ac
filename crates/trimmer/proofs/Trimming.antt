-- One trimming by its reading: what is lent to the removal, and what becomes of its answer.
use Prim.Native.Nat.{ℕ, ◌≤◌}
use mathlib.Core.Path.{◌≡◌, refl, ap, sym, ◌∙◌}
use mathlib.Core.Bool.{true}
use mathlib.Core.List.{List}
use lib.ListN.{length}
use Rattle.std.specs.Prelude.{Result, Ok, Err}
use Rattle.base.specs.declared.Refusal.{Refusal as CodeRefusal}
use Rattle.base.specs.Refusals.{refusal_in}
use Rattle.le.specs.Le.{AreBytes}
use Rattle.table.specs.declared.Row.{Row}
use Rattle.table.specs.Table.{has_room, filled}
use Rattle.table.proofs.Filled.{room_filled, filled_again, cleared_filled}
use Rattle.walk.specs.Walk.{limited}
use Rattle.reader.specs.declared.Account.{Account}
use Rattle.reader.specs.Reading.{Reading}
use Rattle.reader.specs.Reading.{Accepted, Refused}
use Rattle.reader.specs.Reading.{verdict, reading_of}
use Rattle.reader.specs.Reading.{table_left as readLeft}
use Rattle.reader.specs.Reading.{table_after as readTable}
use Rattle.reader.proofs.Exactly.{in_room, has_room_lem}
use Rattle.reader.proofs.Accepted.{nodes_are, flags_are, table_left_lem, few}
use Rattle.emit.specs.Emission.{Written}
use Rattle.emit.specs.Emission.{refused_writing, written_told}
use Rattle.removal.specs.Trimmer.{new_file, trimmed_of, trimmed_output, trimmed_table}
use Rattle.removal.proofs.RefusedFile.{refused_file}
use Rattle.trimmer.specs.Private.{Read, left_without}
use Rattle.trimmer.proofs.Answers.{Ends}

-- a reading into a filled table
read_filled : (t : List ℕ) (rs : List Row) → has_room t ≡ true → length rs ≤ 1024 → (s : List ℕ) → readTable s (filled rs t) ≡ readTable s t
unfolding readTable
read_filled t rs h few s = rw (room_filled t rs h few, h) (by_verdict (verdict s))
  where
    by_verdict : (v : Reading) → readLeft v (limited s).rows (filled rs t) ≡ readLeft v (limited s).rows t
    by_verdict (Accepted a) = filled_again t rs h few (limited s).rows
    by_verdict (Refused n place) = cleared_filled t rs h few

-- a file that is accepted
module _ (s t : List ℕ) (bytes : AreBytes s) (a : Account) (r : reading_of s t ≡ Accepted a) where
  room : has_room t ≡ true
  room = has_room_lem s t r

  accepted : verdict s ≡ Accepted a
  accepted = sym (in_room s t room) ∙ r

  left : readTable s t ≡ filled (limited s).rows t
  left = table_left_lem s accepted t room

  few_rows : length (limited s).rows ≤ 1024
  few_rows = few s accepted bytes

  pub is_read : Read s (readTable s t) a.nodes a.flags
  is_read = record {
    account = a;
    accepted = accepted;
    room = ap has_room left ∙ room_filled t (limited s).rows room few_rows;
    rows = left ∙ sym (filled_again t (limited s).rows room few_rows (limited s).rows) ∙ ap (filled (limited s).rows) (sym left);
    nodes = nodes_are s accepted;
    flags = flags_are s accepted;
  }

  module _ (k : ℕ) (out u : List ℕ) (q : u ≡ readTable s t) (w : Written) (o t' : List ℕ) (e : Ends s k u out w o t') where
    answer : w ≡ trimmed_of s k t (length out)
    unfolding trimmed_of
    answer = e.0 ∙ rw r

    table : left_without w.number s k u ≡ left_without w.number s k t
    table = ap (left_without w.number s k) (q ∙ left) ∙ rw (read_filled t (limited s).rows room few_rows (new_file s k), cleared_filled t (limited s).rows room few_rows)

    pub trimmed : (w ≡ trimmed_of s k t (length out)) × ((o ≡ trimmed_output s k t out) × (t' ≡ trimmed_table s k t (length out)))
    unfolding trimmed_output trimmed_table
    trimmed = (answer, (e.1.0 ∙ rw answer, e.1.1 ∙ table ∙ rw answer))

-- the place in a result is that of the answer
pub place_told : (r : Result ℕ CodeRefusal) → (refusal_in r).place ≡ (written_told r).place
place_told (Ok n) = refl
place_told (Err r) = refl

-- a file that is refused
pub trimmed_refused : (s t : List ℕ) (n place k : ℕ) (out : List ℕ) (t' : List ℕ) → reading_of s t ≡ Refused n place → t' ≡ readTable s t
    → (refused_writing n place ≡ trimmed_of s k t (length out)) × ((out ≡ trimmed_output s k t out) × (t' ≡ trimmed_table s k t (length out)))
trimmed_refused s t n place k out t' r e =
    let is = refused_file s t n place k out r in
    (sym is.0, (sym is.1, e ∙ sym is.2))
