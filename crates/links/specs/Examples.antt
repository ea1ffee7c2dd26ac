-- A Mesh's m, resolved by the definition among rows of some kinds and hashes.
use Rattle.std.specs.Prelude.{ℕ, ◌≡◌, refl, List, [], ◌∷◌}
use Rattle.le.specs.Le.{val, number_at, le}
use Rattle.names.specs.Names.{bytes_ok, same, read_digits, number, number_after}
use Rattle.kinds.specs.Kinds.{mesh, material, bone, parents_in, parents_of, is_known, parents_table}
use Rattle.table.specs.declared.Row.{Row}
use Rattle.props.specs.Step.{to_zero, name_at, step_at}
use Rattle.body.specs.Body.{pass, properties}
use Rattle.base.specs.Letters.{letters}
use Rattle.rules.specs.Table.{lines}
use Rattle.rules.specs.Rules.{lists, rule_in, of_kind, lines_of}
use Rattle.links.specs.Links.{Linked}
use Rattle.links.specs.Links.{refused_links, reached, links_at, links_from, resolved, linked}

unfoldable resolve : List ℕ → List Row → Linked
unfolding val number_at le bytes_ok same read_digits number number_after parents_table parents_in parents_of is_known to_zero name_at step_at pass properties letters lines lists rule_in of_kind lines_of reached links_at links_from resolved linked
resolve s rows = linked s rows

abbrev row : (kind low high end properties : ℕ) → Row
row kind low high stop properties =
    record { kind = kind; low = low; high = high; parent = 0; start = 0; end = stop; properties = properties; children = 0 }

-- the bytes are a Mesh's body: m, type l, with a hash
unfoldable body : (hash : ℕ) → List ℕ
unfolding le
body hash = 0x6C ∷ 0 ∷ 1 ∷ 0 ∷ 1 ∷ 0 ∷ 0 ∷ 0 ∷ 0x6D ∷ le 8 hash

abbrev among : (hash : ℕ) → List Row → Linked
among hash others = resolve (body hash) (row mesh 0 0 17 1 ∷ others)

abbrev one : Linked
one = record { number = 0; place = 0; links = 1 }

-- one Material has the hash; none has; two have; "Zero is a hash like any other"
resolves : (among 5 (row material 5 0 0 0 ∷ []) ∷ among 5 (row material 6 0 0 0 ∷ []) ∷
    among 5 (row material 5 0 0 0 ∷ row material 5 0 0 0 ∷ []) ∷ among 0 (row material 0 0 0 0 ∷ []) ∷ []) ≡
    one ∷ refused_links 16 0 ∷ refused_links 17 0 ∷ one ∷ []
unfolding resolve body
resolves = refl

-- all 64 bits count; and a node of another kind does not
whole : (among 0x100000005 (row material 5 0 0 0 ∷ []) ∷ among 0x100000005 (row material 5 1 0 0 ∷ row material 5 2 0 0 ∷ []) ∷
    among 5 (row material 5 0 0 0 ∷ row bone 5 0 0 0 ∷ []) ∷ []) ≡
    refused_links 16 0 ∷ one ∷ one ∷ []
unfolding resolve body
whole = refl
