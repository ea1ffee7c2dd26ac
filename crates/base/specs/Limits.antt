-- Document 01's limits of files, tables, plans and nodes, each spelt here alone.
use Rattle.std.specs.Prelude.{ℕ}

-- 2: "file over 16,777,216 bytes"; 25: "length over 16,777,216"
abbrev pub most_bytes : ℕ
most_bytes = 16777216

-- 7: "a 1,025th node"; 20: "over 1,024 rows"
abbrev pub most_rows : ℕ
most_rows = 1024

-- 9: "known node with over 64 properties"; 23: "its count (at most 64) of properties"
abbrev pub most_properties : ℕ
most_properties = 64

-- 1: "table shorter than 8,192 numbers (1,024 rows)"
abbrev pub table_numbers : ℕ
table_numbers = 8192
