-- The walk and the layout, as named statements about `walk_of`, which gives refusals 3 to 12 of any bytes. The code answers by
-- `limited` (the contract of `walk::walk`), which is `walk_of` but for files that 2 refuses.
use Rattle.std.specs.Prelude.{ℕ, ◌≤◌, ◌<◌, ◌≡◌, ◌⊎◌, List, length, None, Option}
use Rattle.base.specs.Limits.{most_bytes}
use Rattle.le.specs.Le.{AreBytes}
use Rattle.format.specs.Forest.{Forest, file_of}
use Rattle.format.specs.Rows.{rows_of}
use Rattle.format.specs.Layout.{WellFormedFile, Placed, Few}
use Rattle.walk.specs.Walk.{refused_walk, node, children, node_at, children_at, walk_of, flags_of, limited}

-- the bytes are a well-formed file of these nodes, whose kinds and number the rules allow
pub record Holds (s : List ℕ) (flags : ℕ) (f : Forest) : Type 0 where
  pub well_formed : WellFormedFile flags f
  pub placed : Placed None f
  pub few : Few f
  pub bytes : s ≡ file_of flags f

-- Demand 2, "accepted exactly when it meets the published Cast layout", and "its rows", as far as 3 to 12 go.
-- Sound: where the walk accepts, the bytes are the encoding of a well-formed forest with these flags and these rows.
pub record Accepted (s : List ℕ) : Type 0 where
  pub forest : Forest
  pub holds : Holds s (flags_of s) forest
  pub rows : (walk_of s).rows ≡ rows_of forest

abbrev pub Sound : Type 0
Sound = (s : List ℕ) → AreBytes s → (walk_of s).number ≡ 0 → Accepted s

-- Complete: the bytes of a well-formed forest whose kinds and number the rules allow walk to exactly that forest;
abbrev pub Complete : Type 0
Complete = (s : List ℕ) (flags : ℕ) (f : Forest) → Holds s flags f → ((walk_of s).number ≡ 0) × ((walk_of s).rows ≡ rows_of f) × (flags_of s ≡ flags)

-- of any other well-formed forest to a refusal that only kinds (6) or, where there are too many, number (7) can give. Depth
-- (8) gives none of them.
abbrev pub Others : Type 0
Others = (flags : ℕ) (f : Forest) → WellFormedFile flags f → (Placed None f × Few f → ⊥)
    → ((walk_of (file_of flags f)).number ≡ 6) ⊎ (((walk_of (file_of flags f)).number ≡ 7) × (Few f → ⊥))

-- The bound that `node` and `children` recurse on decides nothing: any that is greater than the number of bytes gives the same walk, so
-- that the two may be read as calling each other without it.
abbrev pub Unbounded : Type 0
Unbounded = (n : ℕ) (parent : Option ℕ) (above depth count at row : ℕ) (bs : List ℕ) → length bs < n
    → (node n parent above depth at row bs ≡ node_at parent above depth at row bs)
    × (children n parent above depth count at row bs ≡ children_at parent above depth count at row bs)

-- What the code answers by, beside 3 to 12.
abbrev pub Limited : Type 0
Limited = (s : List ℕ) → (length s ≤ most_bytes → limited s ≡ walk_of s) × (most_bytes < length s → limited s ≡ refused_walk 2 0)

-- Document 01's 8, "depth over 8 (a root has depth 1)", is never given, whatever the bytes are. Each kind stands only under its
-- parents: Root lies at depth 1, the kinds under Root at 2, those under Model and Animation at 3, and Bone, IKHandle, Constraint
-- and File at 4 at most. An unknown node below one of these lies at 5 at most, and what follows its header is not read. A known node that
-- would lie deeper is refused with 6, which is judged before 8.
abbrev pub NeverTooDeep : Type 0
NeverTooDeep = (s : List ℕ) → (walk_of s).number ≡ 8 → ⊥
