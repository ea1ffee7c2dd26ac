-- Lines of document 01, found by the definition.
use Rattle.std.specs.Prelude.{ℕ, ◌≡◌, refl, Bool, true, false, List, [], ◌∷◌, ◌++◌, map, length}
use Prim.Native.String.{String}
use Rattle.names.specs.Names.{same, read_digits, number, number_after}
use Rattle.kinds.specs.Kinds.{root, model, mesh, curve, material, file}
use Rattle.base.specs.Letters.{letters}
use Rattle.props.specs.Types.{v3, int, string, long}
use Rattle.rules.specs.Table.{only, nothing, vertices, one_of, link_to, Line, plain, numbered, single, array, required, optional, rule, modes, lines, free}
use Rattle.rules.specs.Rules.{takes, lists, rule_in, of_kind, lines_of, is_text, is_one_of, if_link}

count : length lines ≡ 81
unfolding lines
count = refl

-- the lines of type l are those that link, and no others: "Links, where the node's kind lists the name as l"
linking : map (λ l. takes l.types long) lines ≡ map (λ l. if_link l.held (λ kind. true) false) lines
unfolding lines
linking = refl

unfoldable found : ℕ → String → Line
unfolding letters lines lists same number_after read_digits number rule_in of_kind lines_of
found kind name = rule_in (lines_of kind) (letters name)

abbrev colours : Line
colours = rule mesh "c" numbered (only int) array optional vertices

mesh_names : map (found mesh) ("vp" ∷ "c0" ∷ "c10" ∷ "c999" ∷ "c00" ∷ "c01" ∷ "c1000" ∷ "c" ∷ "c1a" ∷ []) ≡
    rule mesh "vp" plain (only v3) array required nothing ∷ colours ∷ colours ∷ colours ∷ free ∷ free ∷ free ∷ free ∷ free ∷ []
unfolding found letters
mesh_names = refl

-- m is a link of a Mesh, text of a Curve, and free on a Model
same_name : (found mesh "m" ∷ found curve "m" ∷ found model "m" ∷ found root "n" ∷ []) ≡
    rule mesh "m" plain (only long) single optional (link_to material) ∷
    rule curve "m" plain (only string) single required (one_of modes) ∷ free ∷ free ∷ []
unfolding found letters
same_name = refl

roughness : found material "roughness" ≡ rule material "roughness" plain (only long) single optional (link_to file)
unfolding found letters
roughness = refl

unfoldable member : List (List ℕ) → List ℕ → Bool
unfolding same is_text is_one_of
member strings bytes = is_one_of strings bytes

-- relative, taken whole and with its zero; not a string that goes on, not one that stops before, not the empty one
modes_taken : map (member modes) (
    (letters "relative" ++ (0 ∷ [])) ∷ letters "relative" ∷ (letters "relatively" ++ (0 ∷ [])) ∷
    (letters "relativ" ++ (0 ∷ [])) ∷ (0 ∷ []) ∷ (letters "x" ++ (0 ∷ [])) ∷ []) ≡
    true ∷ false ∷ false ∷ false ∷ false ∷ false ∷ []
unfolding member letters
modes_taken = refl
