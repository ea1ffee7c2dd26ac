-- Document 01's trimmer, "the reader's refusals", of any bytes that a reading refuses and whatever else is lent: the answer is the
-- reader's, the output is untouched, and the table is as the reading leaves it.
use Rattle.std.specs.Prelude.{ℕ, ◌≡◌, List, length}
use Rattle.reader.specs.Reading.{Refused}
use Rattle.reader.specs.Reading.{reading_of}
use Rattle.reader.specs.Reading.{table_after as readTable}
use Rattle.removal.specs.Trimmer.{trimmed_of, trimmed_output, trimmed_table}

abbrev pub RefusedFile : Type 0
RefusedFile = (s t : List ℕ) (n place k : ℕ) (out : List ℕ) → reading_of s t ≡ Refused n place
    → (trimmed_of s k t (length out) ≡ record { number = n; place = place; length = 0 }) × (trimmed_output s k t out ≡ out)
    × (trimmed_table s k t (length out) ≡ readTable s t)
