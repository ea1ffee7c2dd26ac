-- Nodes put one after the other.
use Prim.Native.Nat.{ℕ, ◌+◌, ◌-◌, ◌≤◌, ◌<◌}
use native.Mathlib.Numerals.{add-one}
use native.Mathlib.Omega.{arith}
use mathlib.Core.Path.{◌≡◌, ap, sym, ◌∙◌}
use mathlib.Core.List.{List, [], ◌++◌, append_assoc, append-nil}
use lib.ListN.{length, take, drop, length-append, length-drop, drop_of_length-le}
use lib.Seq.{sets, length-take-le, sets-eq, drop-drop}
use borrow.Rule.Slice.PartMut.{mid_of, put_mid}
use Rattle.base.proofs.Stores.{sets_append}
use Rattle.table.specs.declared.Row.{Row}
use Rattle.table.specs.Table.{row_at, rows_at}
use Rattle.format.specs.Forest.{header}
use Rattle.format.specs.Rows.{hash_of, body_of}
use Rattle.format.proofs.Headers.{length_header}
use Rattle.emit.specs.Emission.{node_size, nodes_bytes}
use Rattle.table.proofs.Rests.{rest, rest_next, rest_none}

-- ---- one node
abbrev pub header_of : Row → (size : ℕ) → List ℕ
header_of r size = header r.kind size (hash_of r) r.properties r.children

abbrev pub node_of : (s : List ℕ) → Row → (size : ℕ) → List ℕ
node_of s r size = header_of r size ++ body_of s r

pub length_header_of : (r : Row) (size : ℕ) → length (header_of r size) ≡ 24
length_header_of r size = length_header r.kind size (hash_of r) r.properties r.children

length_node_of : (s : List ℕ) (r : Row) (size : ℕ) → length (node_of s r size) ≡ 24 + length (body_of s r)
length_node_of s r size = omega (arith, length-append (header_of r size) (body_of s r), length_header_of r size)

-- a header stored into just its part of the output
pub part_put : (l : List ℕ) (at : ℕ) (r : Row) (size : ℕ) → at + 24 ≤ length l → {part : List ℕ} → part ≡ sets (mid_of at (at + 24 - at) l) 0 (header_of r size)
    → put_mid at (at + 24 - at) l part ≡ sets l at (header_of r size)
part_put l at r size fits {part} e =
    let n : at + 24 - at ≡ 24 = omega arith in
    let k = length_header_of r size in
    let long : length (mid_of at 24 l) ≡ 24 = length-take-le 24 (drop at l) (rw length-drop (omega (arith, fits))) in
    let all : part ≡ header_of r size
    = rw n at e ∙ sets-eq (header_of r size) (mid_of at 24 l) 0 (omega (arith, k, long))
    ∙ ap (λ z. header_of r size ++ z) (drop_of_length-le (mid_of at 24 l) {i = 0 + length (header_of r size)} (omega (arith, k, long))) ∙ append-nil (header_of r size) in
    let following : drop 24 (drop at l) ≡ drop (at + length (header_of r size)) l = drop-drop 24 at l ∙ ap (λ m. drop (at + m) l) (sym k) in
    rw (n, all, following) (sym (sets-eq (header_of r size) l at (omega (arith, k, fits)) ∙ append_assoc (take at l) (header_of r size) (drop (at + length (header_of r size)) l)))

module _ (s out : List ℕ) (at : ℕ) (r : Row) (size : ℕ) {head : List ℕ} (h : head ≡ sets out at (header_of r size)) where
  pub node_put : {body last : List ℕ} → body ≡ body_of s r → last ≡ sets head (at + 24) body
      → ((at + 24) + length body ≡ at + (24 + length (body_of s r))) × (last ≡ sets out at (node_of s r size))
  node_put {body} e f = (
    omega (arith, ap length e),
    f
        ∙ ap (sets head (at + 24)) e
        ∙ ap (λ z. sets z (at + 24) (body_of s r)) h
        ∙ ap (λ k. sets (sets out at (header_of r size)) (at + k) (body_of s r)) (sym (length_header_of r size))
        ∙ sym (sets_append out at (header_of r size) (body_of s r)),
  )

-- ---- the nodes from row i on
module _ (s t : List ℕ) (n : ℕ) where
  abbrev pub nodes_from : ℕ → List ℕ
  nodes_from i = nodes_bytes s i (rest t n i)

  pub nodes_none : (i : ℕ) → n ≤ i → nodes_from i ≡ []
  unfolding nodes_bytes
  nodes_none i h = rw (rest_none t n i h)

  module _ (i : ℕ) (h : i < n) {r : Row} {size : ℕ} (e : r ≡ row_at t i) (f : size ≡ node_size s i (row_at t i) (rows_at t (i + 1) (n - (i + 1)))) where
    more : nodes_from i ≡ node_of s r size ++ nodes_from (i + 1)
    unfolding nodes_bytes
    more = rw (f, e, rest_next t n i h, add-one i) (simp append_assoc)

    pub length_more : length (nodes_from i) ≡ (24 + length (body_of s r)) + length (nodes_from (i + 1))
    length_more = omega (arith, ap length more, length-append (node_of s r size) (nodes_from (i + 1)), length_node_of s r size)

    pub nodes_more : (out : List ℕ) (at : ℕ) {last : List ℕ} {next : ℕ} → last ≡ sets out at (node_of s r size) → next ≡ at + (24 + length (body_of s r))
        → sets last next (nodes_from (i + 1)) ≡ sets out at (nodes_from i)
    nodes_more out at {last} {next} p q =
        let place : next ≡ at + length (node_of s r size) = omega (arith, length_node_of s r size) in
        ap (λ k. sets last k (nodes_from (i + 1))) place
        ∙ ap (λ z. sets z (at + length (node_of s r size)) (nodes_from (i + 1))) p
        ∙ sym (sets_append out at (node_of s r size) (nodes_from (i + 1)))
        ∙ ap (sets out at) (sym more)
