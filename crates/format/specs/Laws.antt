-- Laws of the format, as named statements.
use Rattle.std.specs.Prelude.{ℕ, ◌+◌, ◌≡◌, List, length}
use Rattle.format.specs.Forest.{Forest, file_of}
use Rattle.format.specs.Rows.{rows_of, all_own_bytes}
use Rattle.format.specs.Layout.{GoodBody, WellFormedFile}

-- Demand 2: "The file header and the nodes' own bytes add up to the file's length", of the rows of any forest.
abbrev pub OwnBytesAddUp : Type 0
OwnBytesAddUp = (flags : ℕ) (f : Forest) → 16 + all_own_bytes (rows_of f) ≡ length (file_of flags f)

-- Demand 2's "its rows": the same bytes are of the same flags and the same nodes.
abbrev pub EncodingUnique : Type 0
EncodingUnique = (a b : ℕ) (f g : Forest) → WellFormedFile a f → WellFormedFile b g → file_of a f ≡ file_of b g → (a ≡ b) × (f ≡ g)

-- A known node's body is of one list of properties.
abbrev pub OneBody : Type 0
OneBody = (n : ℕ) (s : List ℕ) (a b : GoodBody n s) → a.properties ≡ b.properties
