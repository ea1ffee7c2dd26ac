-- The table as the code has it: what each value of the code's types says. The code's table, read so, is the table: `table` ensures it.
use Rattle.std.specs.Prelude.{ℕ, List, map}
use Rattle.rules.specs.declared.Types.{Types as CodeTypes}
use Rattle.rules.specs.declared.Types.TheVariants as T
use Rattle.rules.specs.declared.Set.{Set}
use Rattle.rules.specs.declared.Set.TheVariants as S
use Rattle.rules.specs.declared.Held.{Held as CodeHeld}
use Rattle.rules.specs.declared.Held.TheVariants as H
use Rattle.rules.specs.declared.Line.{Line as CodeLine}
use Rattle.rules.specs.Table.{Types, only, N, key_type, any_type, Held, nothing, flag, one_of, vertices, weights, faces, indices, keys, bone_number, link_to, Line, skinning, constraints, key_properties, modes, axes}

abbrev pub types_from : CodeTypes → Types
types_from (T.Only code) = only code
types_from T.N = N
types_from T.Key = key_type
types_from T.Any = any_type

abbrev pub strings_of : Set → List (List ℕ)
strings_of S.Skinning = skinning
strings_of S.Constraints = constraints
strings_of S.KeyProperties = key_properties
strings_of S.Modes = modes
strings_of S.Axes = axes

abbrev pub held_from : CodeHeld → Held
held_from H.Nothing = nothing
held_from H.Flag = flag
held_from (H.OneOf set) = one_of (strings_of set)
held_from H.Vertices = vertices
held_from H.Weights = weights
held_from H.Faces = faces
held_from H.Indices = indices
held_from H.Keys = keys
held_from H.BoneNumber = bone_number
held_from (H.Link kind) = link_to kind

abbrev pub line_of : CodeLine → Line
line_of l = record {
  kind = l.kind;
  name = l.name.now;
  numbered = l.numbered;
  types = types_from l.types;
  array = l.array;
  required = l.required;
  held = held_from l.held;
}

abbrev pub lines_from : List CodeLine → List Line
lines_from ls = map line_of ls
