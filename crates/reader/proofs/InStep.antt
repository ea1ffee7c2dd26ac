-- The rows of a valid file and its nodes, one by one: a known row's body is of its node's properties, which obey the rules.
use Prim.Native.Nat.{ℕ, suc, ◌+◌}
use native.Mathlib.Omega.{arith}
use mathlib.Core.Path.{◌≡◌, refl, ap, sym, ◌∙◌}
use mathlib.Core.Logic.{◌⊎◌, inl, inr, ⊎_elim}
use mathlib.Core.Bool.{true, false}
use mathlib.Core.List.{List, [], ◌∷◌, ◌++◌, map, flat_map}
use lib.Dec.{eqb}
use lib.ListN.{length}
use Rattle.base.proofs.Tests.{by_test}
use Rattle.kinds.specs.Kinds.{mesh, is_known}
use Rattle.table.specs.declared.Row.{Row}
use Rattle.table.specs.Table.{no_parent}
use Rattle.format.specs.Forest.{Forest, end, known, unknown, nodes, encode, file_of}
use Rattle.format.specs.Rows.{hash_of, rows, rows_of, body_of}
use Rattle.format.specs.Layout.{Property, GoodBody, WellFormed, property_bytes}
use Rattle.format.proofs.Rows.{hash_back}
use Rattle.valid.specs.Obeys.{of_named, Obeys}
use Rattle.valid.specs.Valid.{bones, EachKnown, NodeRuled, Valid}
use Rattle.valid.specs.Nodes.{Node, nodes_of, known_bytes, unknown_bytes, mesh_faces, all_faces}
use Rattle.valid.proofs.Meshes.{node_faces_lem}
use Rattle.reader.proofs.Parts.{Lie, known_parts, after_unknown, file_lies}
use Rattle.reader.specs.Reading.{own_known, own_unknown}
use Rattle.reader.specs.Acceptance.{of_row, of_node, row_faces, faces_of}

pub record KnownAs (s : List ℕ) (r : Row) (n : Node) : Type 0 where
  pub is_one : is_known r.kind ≡ true
  pub body : List ℕ
  pub here : body_of s r ≡ body
  pub good : GoodBody r.properties body
  pub beside : ℕ
  pub obeys : Obeys r.kind good.properties beside
  pub are : n.properties ≡ good.properties

pub record SameAs (s : List ℕ) (r : Row) (n : Node) : Type 0 where
  pub kind : n.kind ≡ r.kind
  pub hash : n.hash ≡ hash_of r
  pub reads : KnownAs s r n ⊎ ((is_known r.kind ≡ false) × (n.properties ≡ []))

pub data InStep (s : List ℕ) : List Row → List Node → Type 0 where
  none : InStep s [] []
  one : {r : Row} {n : Node} {rs : List Row} {ns : List Node} → SameAs s r n → InStep s rs ns → InStep s (r ∷ rs) (n ∷ ns)

step_append : {s : List ℕ} {rs us : List Row} {ns vs : List Node} → InStep s rs ns → InStep s us vs → InStep s (rs ++ us) (ns ++ vs)
step_append none b = b
step_append (one h a) b = one h (step_append a b)

module _ (s : List ℕ) where
  in_step_lem : (f : Forest) (post : List ℕ) (parent row at beside : ℕ) (well : WellFormed f) → Lie s f post at
      → EachKnown NodeRuled beside f → InStep s (rows f parent row at) (nodes_of f well)
  in_step_lem end post parent row at beside well lie ruled = none
  in_step_lem (known k h ps body kids next) post parent row at beside well lie ruled =
      let here : ℕ = at + 24 + length body in
      let parts = known_parts s post at k h ps body kids next lie in
      one (record {
        kind = refl;
        hash = sym (hash_back h);
        reads = inl (record {
          is_one = well.0;
          body = body;
          here = parts.body_here;
          good = well.3;
          beside = beside;
          obeys = ruled.0 well.3;
          are = refl;
        });
      })
      (step_append
      (in_step_lem kids (encode next ++ post) row (suc row) here (bones kids) well.4 parts.below ruled.1)
      (in_step_lem next post parent (suc row + nodes kids) (here + length (encode kids)) beside well.5 parts.beside ruled.2))
  in_step_lem (unknown k h ps c rest next) post parent row at beside well lie ruled =
      one (record { kind = refl; hash = sym (hash_back h); reads = inr (well.0, refl) })
      (in_step_lem next post parent (suc row) (at + 24 + length rest) beside well.3 (after_unknown s post at k h ps c rest next lie) ruled)

pub valid_step : (s : List ℕ) (flags : ℕ) (f : Forest) (v : Valid flags f) → s ≡ file_of flags f → InStep s (rows_of f) (nodes_of f v.well_formed.2)
valid_step s flags f v e = in_step_lem s f [] no_parent 0 16 (bones f) v.well_formed.2 (file_lies s flags f e) v.ruled

pub length_step : {s : List ℕ} {rs : List Row} {ns : List Node} → InStep s rs ns → length rs ≡ length ns
length_step none = refl
length_step (one h a) = ap suc (length_step a)

pub kinds_step : {s : List ℕ} {rs : List Row} {ns : List Node} → InStep s rs ns
    → map of_row rs ≡ map of_node ns
kinds_step none = refl
kinds_step (one {r} {n} {rs} {ns} h a) = rw (h.kind, h.hash) (ap (λ l. of_row r ∷ l) (kinds_step a))

-- ---- faces
node_by : (n : Node) {kind : ℕ} {ps : List Property} → n.kind ≡ kind → n.properties ≡ ps
    → mesh_faces (record { kind = kind; hash = n.hash; properties = ps }) ≡ mesh_faces n
node_by n {kind} {ps} e f =
    ap (λ k. mesh_faces (record { kind = k; hash = n.hash; properties = ps })) (sym e)
    ∙ ap (λ l. mesh_faces (record { kind = n.kind; hash = n.hash; properties = l })) (sym f)

pub bare_faces : (kind hash : ℕ) → mesh_faces (record { kind = kind; hash = hash; properties = [] }) ≡ []
unfolding mesh_faces of_named
bare_faces kind hash = by_test (eqb kind mesh) (λ t. rw t) (λ t. rw t)

row_faces_lem : (s : List ℕ) (r : Row) (n : Node) → SameAs s r n → row_faces s r ≡ mesh_faces n
row_faces_lem s r n h =
    ⊎_elim
    (λ k. rw (k.is_one, k.here)
    (node_faces_lem r.kind n.hash r.properties k.body k.beside k.good k.obeys ∙ node_by n h.kind k.are))
    (λ u. rw u.0 (sym (bare_faces r.kind n.hash) ∙ node_by n h.kind u.1))
    h.reads

pub faces_step : {s : List ℕ} {rs : List Row} {ns : List Node} → InStep s rs ns → faces_of s rs ≡ all_faces ns
unfolding faces_of all_faces flat_map
faces_step none = refl
faces_step {s} (one {r} {n} h a) = rw (row_faces_lem s r n h, faces_step a)

-- ---- own bytes
known_append : (xs ys : List Row) → own_known (xs ++ ys) ≡ own_known xs + own_known ys
unfolding own_known
known_append [] ys = omega arith
known_append (x ∷ xs) ys = by_test (is_known x.kind) (λ t. rw (t, known_append xs ys) (omega arith)) (λ t. rw (t, known_append xs ys))

unknown_append : (xs ys : List Row) → own_unknown (xs ++ ys) ≡ own_unknown xs + own_unknown ys
unfolding own_unknown
unknown_append [] ys = omega arith
unknown_append (x ∷ xs) ys = by_test (is_known x.kind) (λ t. rw (t, unknown_append xs ys)) (λ t. rw (t, unknown_append xs ys) (omega arith))

pub known_bytes_lem : (f : Forest) (well : WellFormed f) (parent row at : ℕ) → own_known (rows f parent row at) ≡ known_bytes f well
unfolding own_known
known_bytes_lem end well parent row at = refl
known_bytes_lem (known k h ps body kids next) well parent row at =
    let here : ℕ = at + 24 + length body in
    let below = rows kids row (suc row) here in
    let beside = rows next parent (suc row + nodes kids) (here + length (encode kids)) in
    let size : length body ≡ length (flat_map property_bytes well.3.properties) = ap length well.3.bytes in
    rw (well.0, known_append below beside, known_bytes_lem kids well.4 row (suc row) here, known_bytes_lem next well.5 parent (suc row + nodes kids) (here + length (encode kids)))
    (omega (arith, size))
known_bytes_lem (unknown k h ps c rest next) well parent row at = rw well.0 (known_bytes_lem next well.3 parent (suc row) (at + 24 + length rest))

pub unknown_bytes_lem : (f : Forest) → WellFormed f → (parent row at : ℕ) → own_unknown (rows f parent row at) ≡ unknown_bytes f
unfolding own_unknown
unknown_bytes_lem end well parent row at = refl
unknown_bytes_lem (known k h ps body kids next) well parent row at =
    let here : ℕ = at + 24 + length body in
    let below = rows kids row (suc row) here in
    let beside = rows next parent (suc row + nodes kids) (here + length (encode kids)) in
    rw (well.0, unknown_append below beside, unknown_bytes_lem kids well.4 row (suc row) here, unknown_bytes_lem next well.5 parent (suc row + nodes kids) (here + length (encode kids)))
unknown_bytes_lem (unknown k h ps c rest next) well parent row at =
    rw (well.0, unknown_bytes_lem next well.3 parent (suc row) (at + 24 + length rest)) (omega arith)
