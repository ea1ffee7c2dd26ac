-- Text as bytes.
use Rattle.std.specs.Prelude.{ℕ, List, [], ◌∷◌}
use Prim.Native.Char.{code}
use Prim.Native.String.{String}
use Prim.Native.String as Str

-- the bytes of a text
unfoldable pub letters : String → List ℕ
letters Str.[] = []
letters (Str.◌∷◌ c s) = code c ∷ letters s
