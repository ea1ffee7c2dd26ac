-- A file that is not accepted.
use Prim.Native.Nat.{ℕ}
use mathlib.Core.Path.{◌≡◌, sym, ◌∙◌}
use mathlib.Core.Bool.{true, false}
use mathlib.Core.List.{List}
use lib.ListN.{length}
use borrow.Author.Tests.{ne_eqb}
use Rattle.base.proofs.Tests.{by_test}
use Rattle.table.specs.Table.{has_room, cleared}
use Rattle.reader.specs.Reading.{Refused}
use Rattle.reader.specs.Reading.{reading_of}
use Rattle.reader.specs.Reading.{table_after as readTable}
use Rattle.reader.proofs.Numbers.{refused_some}
use Rattle.reader.proofs.Exactly.{in_room}
use Rattle.emit.specs.Emission.{refused_writing, output_left}
use Rattle.removal.specs.Trimmer.{trimmed_of, trimmed_output, trimmed_table}
use Rattle.removal.specs.RefusedFile.{RefusedFile}

module _ (s t : List ℕ) (n place : ℕ) (r : reading_of s t ≡ Refused n place) where
  with_room : has_room t ≡ true → readTable s t ≡ cleared t
  unfolding readTable
  with_room h = rw (h, sym (in_room s t h) ∙ r)

  without_room : has_room t ≡ false → readTable s t ≡ cleared t
  unfolding readTable cleared
  without_room h = rw h

  table_read : readTable s t ≡ cleared t
  table_read = by_test (has_room t) with_room without_room

  module _ (k : ℕ) (out : List ℕ) where
    answer : trimmed_of s k t (length out) ≡ refused_writing n place
    unfolding trimmed_of
    answer = rw r

    output : trimmed_output s k t out ≡ out
    unfolding trimmed_output output_left
    output = rw (answer, ne_eqb n 0 (refused_some s t n place r))

    table : trimmed_table s k t (length out) ≡ readTable s t
    unfolding trimmed_table
    table = rw (answer, ne_eqb n 0 (refused_some s t n place r)) (sym table_read)

pub refused_file : RefusedFile
refused_file s t n place k out r = (answer s t n place r k out, output s t n place r k out, table s t n place r k out)
