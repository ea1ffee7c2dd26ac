-- The nodes of a file and their bytes. Sizes, child counts and the root count are computed, and stored nowhere.
use Rattle.std.specs.Prelude.{ℕ, suc, ◌+◌, List, [], ◌∷◌, ◌++◌, length}
use Rattle.le.specs.Le.{le}

-- Nodes side by side: none; or a first one, the nodes below it, and those next to it. `properties` and `children` are the
-- header's counts; of an unknown node they say nothing. Document 01's "body" is "what follows the header up to the first
-- child; for an unknown node it is all the rest": `body` and `rest`.
pub data Forest : Type 0 where
  end : Forest
  known : (kind hash properties : ℕ) (body : List ℕ) (kids next : Forest) → Forest
  unknown : (kind hash properties children : ℕ) (rest : List ℕ) (next : Forest) → Forest

-- how many stand side by side
abbrev pub count : Forest → ℕ
count end = 0
count (known k h p body kids next) = suc (count next)
count (unknown k h p c rest next) = suc (count next)

-- how many there are in all
abbrev pub nodes : Forest → ℕ
nodes end = 0
nodes (known k h p body kids next) = suc (nodes kids + nodes next)
nodes (unknown k h p c rest next) = suc (nodes next)

-- "Node header, 24 bytes: kind u32, size u32, hash u64, property count u32, child count u32."
unfoldable pub header : (kind size hash properties children : ℕ) → List ℕ
header kind size hash properties children =
    le 4 kind ++ (le 4 size ++ (le 8 hash ++ (le 4 properties ++ le 4 children)))

-- "Size counts the node's own 24 bytes, its properties and all children."
abbrev pub encode : Forest → List ℕ
encode end = []
encode (known k h p body kids next) =
    header k (24 + length body + length (encode kids)) h p (count kids) ++ (body ++ (encode kids ++ encode next))
encode (unknown k h p c rest next) = header k (24 + length rest) h p c ++ (rest ++ encode next)

-- "File header, 16 bytes: `63 61 73 74`, version u32 = 1, root count u32, flags u32 (any, kept)."
unfoldable pub file_header : (roots flags : ℕ) → List ℕ
file_header roots flags = 0x63 ∷ 0x61 ∷ 0x73 ∷ 0x74 ∷ (le 4 1 ++ (le 4 roots ++ le 4 flags))

unfoldable pub file_of : (flags : ℕ) → Forest → List ℕ
file_of flags f = file_header (count f) flags ++ encode f
