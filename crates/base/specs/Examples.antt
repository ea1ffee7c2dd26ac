-- The limits in numbers, as document 01 has them.
use Rattle.std.specs.Prelude.{◌≡◌, refl}
use Rattle.base.specs.Limits.{most_bytes, most_rows, most_properties, table_numbers}

limits : (most_bytes ≡ 16777216) × (most_rows ≡ 1024) × (most_properties ≡ 64) × (table_numbers ≡ 8192)
limits = (refl, refl, refl, refl)
