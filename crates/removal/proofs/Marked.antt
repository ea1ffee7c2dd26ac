-- A forest with marks on its unknown nodes: what it was, and what is left of it.
use Prim.Native.Nat.{ℕ, suc, ◌+◌, ◌≤◌}
use native.Mathlib.Omega.{arith}
use mathlib.Core.Path.{◌≡◌, refl, ap, ◌∙◌}
use mathlib.Core.Bool.{Bool, true, false}
use mathlib.Core.List.{List, [], ◌∷◌, ◌++◌}
use lib.ListN.{length, length-append}
use Rattle.kinds.specs.Kinds.{is_known}
use Rattle.table.specs.declared.Row.{Row}
use Rattle.format.specs.Forest.{Forest, end, known, unknown, count, nodes, encode}
use Rattle.format.specs.Rows.{body_of, own_bytes}
use Rattle.format.proofs.Headers.{length_header}
use Rattle.removal.specs.Tally.{size_fall, count_fall}

pub data Marked : Type 0 where
  mend : Marked
  mkn : (kind hash properties : ℕ) (body : List ℕ) (kids next : Marked) → Marked
  mun : (gone : Bool) (kind hash properties children : ℕ) (rest : List ℕ) (next : Marked) → Marked

-- the forest without its marks
abbrev pub bare : Marked → Forest
bare mend = end
bare (mkn k h p body kids next) = known k h p body (bare kids) (bare next)
bare (mun g k h p c rest next) = unknown k h p c rest (bare next)

-- the forest without its marked nodes
abbrev pub kept : Marked → Forest
kept mend = end
kept (mkn k h p body kids next) = known k h p body (kept kids) (kept next)
kept (mun true k h p c rest next) = kept next
kept (mun false k h p c rest next) = unknown k h p c rest (kept next)

-- the marks of its rows
abbrev pub marks : Marked → List Bool
marks mend = []
marks (mkn k h p body kids next) = false ∷ (marks kids ++ marks next)
marks (mun g k h p c rest next) = g ∷ marks next

-- no mark
abbrev pub fresh : Forest → Marked
fresh end = mend
fresh (known k h p body kids next) = mkn k h p body (fresh kids) (fresh next)
fresh (unknown k h p c rest next) = mun false k h p c rest (fresh next)

-- the bytes of the marked nodes, and how many of those side by side are marked
abbrev pub lost : Marked → ℕ
lost mend = 0
lost (mkn k h p body kids next) = lost kids + lost next
lost (mun true k h p c rest next) = 24 + length rest + lost next
lost (mun false k h p c rest next) = lost next

abbrev pub gone_top : Marked → ℕ
gone_top mend = 0
gone_top (mkn k h p body kids next) = gone_top next
gone_top (mun true k h p c rest next) = suc (gone_top next)
gone_top (mun false k h p c rest next) = gone_top next

pub bare_fresh : (f : Forest) → bare (fresh f) ≡ f
bare_fresh end = refl
bare_fresh (known k h p body kids next) = cc (bare_fresh kids, bare_fresh next)
bare_fresh (unknown k h p c rest next) = cc (bare_fresh next)

pub kept_fresh : (f : Forest) → kept (fresh f) ≡ f
kept_fresh end = refl
kept_fresh (known k h p body kids next) = cc (kept_fresh kids, kept_fresh next)
kept_fresh (unknown k h p c rest next) = cc (kept_fresh next)

pub length_marks : (m : Marked) → length (marks m) ≡ nodes (bare m)
length_marks mend = refl
length_marks (mkn k h p body kids next) = ap suc (length-append (marks kids) (marks next) ∙ cc (length_marks kids, length_marks next))
length_marks (mun g k h p c rest next) = ap suc (length_marks next)

pub length_kept : (m : Marked) → length (encode (kept m)) + lost m ≡ length (encode (bare m))
length_kept mend = refl
length_kept (mkn k h p body kids next) =
    let a = length_kept kids in
    let b = length_kept next in
    simp (length-append, length_header) (omega arith)
length_kept (mun true k h p c rest next) = let b = length_kept next in simp (length-append, length_header) (omega arith)
length_kept (mun false k h p c rest next) = let b = length_kept next in simp (length-append, length_header) (omega arith)

pub count_kept : (m : Marked) → count (kept m) + gone_top m ≡ count (bare m)
count_kept mend = refl
count_kept (mkn k h p body kids next) = omega (arith, count_kept next)
count_kept (mun true k h p c rest next) = omega (arith, count_kept next)
count_kept (mun false k h p c rest next) = omega (arith, count_kept next)

pub nodes_kept : (m : Marked) → nodes (kept m) ≤ nodes (bare m)
nodes_kept mend = omega arith
nodes_kept (mkn k h p body kids next) = omega (arith, nodes_kept kids, nodes_kept next)
nodes_kept (mun true k h p c rest next) = omega (arith, nodes_kept next)
nodes_kept (mun false k h p c rest next) = omega (arith, nodes_kept next)

-- by how much sizes and child counts fall: at a known node by what its children lose, at an unknown one by nothing. `all` are
-- the rows of the file s, and the nodes of m have their rows from `row` on.
abbrev pub Falls : (s : List ℕ) (all : List Row) (marked : List Bool) → Marked → (row : ℕ) → Type 0
Falls s all marked mend row = Unit {0}
Falls s all marked (mkn k h p body kids next) row =
    (size_fall s all marked row ≡ lost kids) × (count_fall all marked row ≡ gone_top kids)
    × Falls s all marked kids (suc row) × Falls s all marked next (suc row + nodes (bare kids))
Falls s all marked (mun g k h p c rest next) row =
    (size_fall s all marked row ≡ 0) × (count_fall all marked row ≡ 0) × Falls s all marked next (suc row)

-- ---- rows that are left, in another file

-- the node of row r of the file s is that of row r' of the file s'
pub record SameNode (s s' : List ℕ) (r r' : Row) : Type 0 where
  pub kind : r'.kind ≡ r.kind
  pub low : r'.low ≡ r.low
  pub high : r'.high ≡ r.high
  pub properties : r'.properties ≡ r.properties
  pub own : own_bytes r' ≡ own_bytes r
  pub body : body_of s' r' ≡ body_of s r

-- of rows of s, the unmarked ones are those of s', and the marked ones are of unknown kinds
pub data Left (s s' : List ℕ) : List Row → List Bool → List Row → Type 0 where
  none : Left s s' [] [] []
  gone : {r : Row} {rs : List Row} {ms : List Bool} {rs' : List Row} → is_known r.kind ≡ false → Left s s' rs ms rs' → Left s s' (r ∷ rs) (true ∷ ms) rs'
  same : {r : Row} {rs : List Row} {ms : List Bool} {r' : Row} {rs' : List Row} → SameNode s s' r r' → Left s s' rs ms rs'
      → Left s s' (r ∷ rs) (false ∷ ms) (r' ∷ rs')
