-- Rows that come parent before child are the nodes under the numbers of their path, one after the other: their bytes, and
-- their rows.
use Prim.Native.Nat.{ℕ, suc, ◌+◌, ◌-◌, ◌*◌, ◌/◌, ◌%◌, ◌≤◌, ◌<◌}
use native.Mathlib.Omega.{arith}
use mathlib.Core.Path.{◌≡◌, refl, ap, sym, ◌∙◌}
use mathlib.Core.Bool.{true}
use mathlib.Core.List.{List, [], ◌∷◌, ◌++◌, append_assoc}
use lib.ListN.{length, length-append}
use Rattle.base.proofs.Tests.{by_test}
use Rattle.kinds.specs.Kinds.{is_known}
use Rattle.table.specs.declared.Row.{Row}
use Rattle.format.specs.Forest.{Forest, end, known, unknown, count, nodes, header, encode}
use Rattle.format.specs.Rows.{node_row, rows, hash_of, body_of, own_bytes}
use Rattle.base.specs.Lists.{Each}
use Rattle.base.proofs.Lists.{each_both, each_map}
use Rattle.format.proofs.Headers.{length_header}
use Rattle.plan.specs.Plan.{naming}
use Rattle.emit.specs.Emission.{node_size, nodes_bytes}
use Rattle.writer.specs.Forest.{node_of, nodes_under, moved_to, laid_out}
use Rattle.writer.proofs.Under.{count_under_lem, under_other, under_own, none_named, none_sized, nothing_under, no_bytes, bytes_first}
use Rattle.writer.proofs.Paths.{onward, Right, Older, Not, Distinct, each_onward, split, apart, new, distinct_onward, older_onward, closed, nothing_below, size_under}

-- a known row's child count is the later rows naming it
abbrev pub Counts : (k : ℕ) → List Row → Type 0
Counts k [] = Unit {0}
Counts k (r ∷ rs) = (is_known r.kind ≡ true → r.children ≡ naming rs k) × Counts (suc k) rs

-- the nodes under each number of a path, one after the other: their bytes, and their rows
abbrev pub bytes_along : (ℕ → Forest) → List ℕ → List ℕ
bytes_along g [] = []
bytes_along g (q ∷ qs) = encode (g q) ++ bytes_along g qs

abbrev pub rows_along : (ℕ → Forest) → List ℕ → (row at : ℕ) → List Row
rows_along g [] row at = []
rows_along g (q ∷ qs) row at = rows (g q) q row at ++ rows_along g qs (row + nodes (g q)) (at + length (encode (g q)))

module _ (g : ℕ → Forest) where
  -- numbers under which there is nothing
  bytes_past : (xs ys : List ℕ) → Each (λ q. g q ≡ end) xs → bytes_along g (xs ++ ys) ≡ bytes_along g ys
  bytes_past [] ys h = refl
  bytes_past (x ∷ xs) ys h = rw h.0 (bytes_past xs ys h.1)

  rows_past : (xs ys : List ℕ) (row at : ℕ) → Each (λ q. g q ≡ end) xs → rows_along g (xs ++ ys) row at ≡ rows_along g ys row at
  rows_past [] ys row at h = refl
  rows_past (x ∷ xs) ys row at h =
      rw h.0 (rows_past xs ys (row + 0) (at + 0) h.1 ∙ ap (λ n. rows_along g ys n (at + 0)) (omega arith) ∙ ap (rows_along g ys row) (omega arith))

  bytes_same : (g' : ℕ → Forest) (xs : List ℕ) → Each (λ q. g q ≡ g' q) xs → bytes_along g xs ≡ bytes_along g' xs
  bytes_same g' [] h = refl
  bytes_same g' (x ∷ xs) h = rw h.0 (ap (λ z. encode (g' x) ++ z) (bytes_same g' xs h.1))

  rows_same : (g' : ℕ → Forest) (xs : List ℕ) (row at : ℕ) → Each (λ q. g q ≡ g' q) xs → rows_along g xs row at ≡ rows_along g' xs row at
  rows_same g' [] row at h = refl
  rows_same g' (x ∷ xs) row at h =
      rw h.0 (ap (λ z. rows (g' x) x row at ++ z) (rows_same g' xs (row + nodes (g' x)) (at + length (encode (g' x))) h.1))

-- one row, and those after it
module _ (s : List ℕ) (k : ℕ) (path : List ℕ) (r : Row) (rs : List Row) (w : Right k path (r ∷ rs))
    (d : Distinct path) (o : Each (Older k) path) (few : k + length (r ∷ rs) ≤ 1024) where
  abbrev g : ℕ → Forest
  g = nodes_under s k (r ∷ rs)

  abbrev later : ℕ → Forest
  later = nodes_under s (suc k) rs

  abbrev above : List ℕ
  above = w.1

  left : Each (λ q. g q ≡ end) w.0
  left =
      let facts = (each_both (λ x. Each (Not x) (r.parent ∷ above)) (Older k) w.0).0 ((apart k path r rs w d).1, (split k path r rs w (Older k) o).0) in
      each_map
      (λ q h.
      under_other s k r rs q h.0.0
      ∙ none_named s (suc k) rs q
      (closed (suc k) (onward k r above) rs w.3 q
      (each_onward (Not q) k r above (λ t f. new k path r rs w (omega (arith, few)) q h.1 (sym f)) h.0.0 h.0.1)
      (λ b. h.1 (omega arith))
      (omega (arith, few))))
      w.0
      facts

  first : g r.parent ≡ node_of s r (later k) (later r.parent)
  first = under_own s k r rs r.parent refl

  others : Each (λ q. g q ≡ later q) above
  others = each_map (λ q h. under_other s k r rs q (λ e. h (sym e))) above (apart k path r rs w d).0.0

  pub bytes_split : bytes_along g path ≡ encode (node_of s r (later k) (later r.parent)) ++ bytes_along later above
  bytes_split =
      ap (bytes_along g) w.2 ∙ bytes_past g w.0 (r.parent ∷ above) left
      ∙ ap (λ z. encode (g r.parent) ++ z) (bytes_same g later above others)
      ∙ ap (λ f. encode f ++ bytes_along later above) first

  pub rows_split : (at : ℕ) → rows_along g path k at
      ≡ (let f = node_of s r (later k) (later r.parent) in rows f r.parent k at ++ rows_along later above (k + nodes f) (at + length (encode f)))
  rows_split at =
      ap (λ p. rows_along g p k at) w.2 ∙ rows_past g w.0 (r.parent ∷ above) k at left
      ∙ ap (λ z. rows (g r.parent) r.parent k at ++ z) (rows_same g later above (k + nodes (g r.parent)) (at + length (encode (g r.parent))) others)
      ∙ ap (λ f. rows f r.parent k at ++ rows_along later above (k + nodes f) (at + length (encode f))) first

-- ---- the bytes of all
pub bytes_along_lem : (s : List ℕ) (k : ℕ) (path : List ℕ) (rs : List Row) → Right k path rs → Distinct path → Each (Older k) path → k + length rs ≤ 1024 → Counts k rs
    → nodes_bytes s k rs ≡ bytes_along (nodes_under s k rs) path
bytes_along_lem s k path [] w d o few c = no_bytes s k ∙ sym (nothing path)
  where
    nothing : (path : List ℕ) → bytes_along (nodes_under s k []) path ≡ []
    nothing [] = refl
    nothing (q ∷ qs) = rw (nothing_under s k q) (nothing qs)
bytes_along_lem s k path (r ∷ rs) w d o few c =
    let ih = bytes_along_lem s (suc k) (onward k r w.1) rs w.3
    (distinct_onward k path r rs w (omega (arith, few)) d o) (older_onward k path r rs w o) (omega (arith, few)) c.1 in
    let body = body_of s r in
    let kids = nodes_under s (suc k) rs k in
    let next = nodes_under s (suc k) rs r.parent in
    let more = bytes_along (nodes_under s (suc k) rs) w.1 in
    bytes_first s k r rs ∙ by_test (is_known r.kind)
    (λ t.
    let size : node_size s k r rs ≡ 24 + length body + length (encode kids)
    = ap (λ n. 24 + length body + n) (size_under s (suc k) (onward k r w.1) rs w.3 (older_onward k path r rs w o) (omega (arith, few)) k) in
    let children : r.children ≡ count kids = c.0 t ∙ sym (count_under_lem s (suc k) rs k) in
    ap (λ z. header r.kind (node_size s k r rs) (hash_of r) r.properties r.children ++ (body ++ z)) (rw t at ih)
    ∙ ap (λ z. header r.kind z (hash_of r) r.properties r.children ++ (body ++ (encode kids ++ (encode next ++ more)))) size
    ∙ ap (λ z. header r.kind (24 + length body + length (encode kids)) (hash_of r) r.properties z ++ (body ++ (encode kids ++ (encode next ++ more)))) children
    ∙ sym (bytes_split s k path r rs w d o few ∙ rw t (simp append_assoc)))
    (λ t.
    let none = none_sized s (suc k) rs k (nothing_below k path r rs w o few t) in
    let size : node_size s k r rs ≡ 24 + length body = omega (arith, none) in
    ap (λ z. header r.kind (node_size s k r rs) (hash_of r) r.properties r.children ++ (body ++ z)) (rw t at ih)
    ∙ ap (λ z. header r.kind z (hash_of r) r.properties r.children ++ (body ++ (encode next ++ more))) size
    ∙ sym (bytes_split s k path r rs w d o few ∙ rw t (simp append_assoc)))

-- ---- the rows of all

-- the halves of a row's hash
halves : (low high : ℕ) → low < 4294967296 → ((low + 4294967296 * high) % 4294967296 ≡ low) × ((low + 4294967296 * high) / 4294967296 ≡ high)
halves low high h = (omega arith, omega arith)

both : {x y : Row} {xs ys : List Row} → x ≡ y → xs ≡ ys → x ∷ xs ≡ y ∷ ys
both {x} {y} {xs} {ys} e f = ap (λ z. z ∷ xs) e ∙ ap (λ z. y ∷ z) f

-- the low half of a row's hash, as a table of numbers of 32 bits has it
abbrev pub Low : Row → Type 0
Low r = r.low < 4294967296

-- a row whose body lies in the source
abbrev pub Whole : (s : List ℕ) → Row → Type 0
Whole s r = length (body_of s r) ≡ r.end - r.start

pub none_laid : (at : ℕ) → laid_out at [] ≡ []
unfolding laid_out
none_laid at = refl

pub first_laid : (at : ℕ) (r : Row) (rs : List Row) → laid_out at (r ∷ rs) ≡ moved_to at r ∷ laid_out (at + own_bytes r) rs
unfolding laid_out
first_laid at r rs = refl

row_same : (r : Row) (at size children : ℕ) → Low r → size ≡ r.end - r.start → r.children ≡ children
    → node_row r.kind (hash_of r) r.parent (at + 24) (at + 24 + size) r.properties children ≡ moved_to at r
row_same r at size children h l e =
    let stop : at + 24 + size ≡ at + (24 + (r.end - r.start)) = omega (arith, l) in
    rw ((halves r.low r.high h).0, (halves r.low r.high h).1, ← e, stop)

pub rows_along_lem : (s : List ℕ) (k : ℕ) (path : List ℕ) (rs : List Row) → Right k path rs → Distinct path → Each (Older k) path → k + length rs ≤ 1024 → Counts k rs
    → Each (λ r. Low r × Whole s r) rs → (at : ℕ) → rows_along (nodes_under s k rs) path k at ≡ laid_out at rs
rows_along_lem s k path [] w d o few c l at = nothing path k at ∙ sym (none_laid at)
  where
    nothing : (path : List ℕ) (row at : ℕ) → rows_along (nodes_under s k []) path row at ≡ []
    nothing [] row at = refl
    nothing (q ∷ qs) row at = rw (nothing_under s k q) (nothing qs (row + 0) (at + 0))
rows_along_lem s k path (r ∷ rs) w d o few c l at =
    let ih = rows_along_lem s (suc k) (onward k r w.1) rs w.3
    (distinct_onward k path r rs w (omega (arith, few)) d o) (older_onward k path r rs w o) (omega (arith, few)) c.1 l.1 in
    let size : ℕ = length (body_of s r) in
    let kids = nodes_under s (suc k) rs k in
    let next = nodes_under s (suc k) rs r.parent in
    let more = rows_along (nodes_under s (suc k) rs) w.1 in
    let there : ℕ = at + 24 + size in
    let own : there ≡ at + own_bytes r = omega (arith, l.0.1) in
    rows_split s k path r rs w d o few at ∙ by_test (is_known r.kind)
    (λ t.
    let children : r.children ≡ count kids = c.0 t ∙ sym (count_under_lem s (suc k) rs k) in
    let f = known r.kind (hash_of r) r.properties (body_of s r) kids next in
    let row-end : k + nodes f ≡ suc k + nodes kids + nodes next = omega arith in
    let end : at + length (encode f) ≡ there + length (encode kids) + length (encode next) = simp (length-append, length_header) (omega arith) in
    let tail : (rows kids k (suc k) there ++ rows next r.parent (suc k + nodes kids) (there + length (encode kids))) ++ more (k + nodes f) (at + length (encode f))
    ≡ laid_out (at + own_bytes r) rs
    = append_assoc (rows kids k (suc k) there) _ _
    ∙ ap (λ z. rows kids k (suc k) there ++ (rows next r.parent (suc k + nodes kids) (there + length (encode kids)) ++ z)) (ap (λ n. more n (at + length (encode f))) row-end ∙ ap (more (suc k + nodes kids + nodes next)) end)
    ∙ rw t at (ih there) ∙ ap (λ n. laid_out n rs) own in
    rw t (both (row_same r at size (count kids) l.0.0 l.0.1 children) tail ∙ sym (first_laid at r rs)))
    (λ t.
    let f = unknown r.kind (hash_of r) r.properties r.children (body_of s r) next in
    let row-end : k + nodes f ≡ suc k + nodes next = omega arith in
    let end : at + length (encode f) ≡ there + length (encode next) = simp (length-append, length_header) (omega arith) in
    let tail : rows next r.parent (suc k) there ++ more (k + nodes f) (at + length (encode f)) ≡ laid_out (at + own_bytes r) rs
    = ap (λ z. rows next r.parent (suc k) there ++ z) (ap (λ n. more n (at + length (encode f))) row-end ∙ ap (more (suc k + nodes next)) end)
    ∙ rw t at (ih there) ∙ ap (λ n. laid_out n rs) own in
    rw t (both (row_same r at size r.children l.0.0 l.0.1 refl) tail ∙ sym (first_laid at r rs)))
