-- The faces that the reading counts of a node are those of its f.
use Prim.Native.Nat.{ℕ, zero, suc, ◌+◌, ◌*◌, ◌/◌, ◌<◌}
use native.Mathlib.Omega.{arith}
use native.Mathlib.Nat.{zero-mul, one-mul}
use mathlib.Core.Path.{◌≡◌, refl, sym, ap, ◌∙◌}
use mathlib.Core.Logic.{inl, inr}
use mathlib.Core.Bool.{Bool, true, false, true≢false, false≢true}
use mathlib.Core.List.{List, [], ◌∷◌, ◌++◌, map, append-nil}
use lib.Dec.{eqb}
use lib.ListN.{drop}
use borrow.Author.Tests.{eqb-true, eqb-false}
use Rattle.le.specs.Le.{number_at}
use Rattle.base.proofs.Tests.{by_test}
use Rattle.names.specs.Names.{same, read_digits, number, number_after}
use Rattle.names.proofs.Laws.{same_eq, same_refl}
use Rattle.kinds.specs.Kinds.{mesh}
use Rattle.body.specs.Body.{properties}
use Rattle.faces.specs.declared.Face.{Face}
use Rattle.faces.specs.Faces.{width_of, faces_in}
use Rattle.rules.specs.Table.{faces, lines, plain}
use Rattle.base.specs.Letters.{letters}
use Rattle.rules.proofs.Laws.{rule_of}
use Rattle.rules.specs.Rules.{lists, rule_in, of_kind, lines_of, is_n}
use Rattle.judge.specs.Properties.{rest_at}
use Rattle.judge.specs.Valued.{node_faces}
use Rattle.format.specs.Layout.{Property, GoodBody}
use Rattle.base.proofs.Lists.{each_map}
use Rattle.valid.specs.Lines.{Spells}
use Rattle.valid.specs.Obeys.{Has, Distinct, value, of_named, elements_of, Obeys}
use Rattle.valid.specs.Nodes.{numbers_from, mesh_faces}
use Rattle.valid.proofs.Ruled.{FitsRules}
use Rattle.valid.proofs.Described.{Described, none, one, described}
use Rattle.valid.proofs.Lines.{faces_line, faces_named, by_faces}
use Rattle.valid.proofs.Listed.{from_line}
use Rattle.valid.proofs.Values.{takes_number, values_read}
use Rattle.valid.proofs.Triples.{number_on}
use Rattle.valid.proofs.Agree.{fits_rules}

-- ---- faces in bytes, by their values
module _ (w : ℕ) (v : ℕ → ℕ) where
  abbrev face : ℕ → Face
  face k = record { a = v (3 * k); b = v (3 * k + 1); c = v (3 * k + 2) }

  pub faces_by : (n j : ℕ) (bs : List ℕ) → ((k : ℕ) → k < n * 3 → number_at w bs (k * w) ≡ v (3 * j + k)) → faces_in w n bs ≡ map face (numbers_from j n)
  unfolding faces_in
  faces_by zero j bs h = refl
  faces_by (suc n) j bs h =
      let a : number_at w bs 0 ≡ v (3 * j) = ap (number_at w bs) (sym (zero-mul w)) ∙ h 0 (omega arith) ∙ ap v (omega arith) in
      let b : number_at w bs w ≡ v (3 * j + 1) = ap (number_at w bs) (sym (one-mul w)) ∙ h 1 (omega arith) in
      let c : number_at w bs (2 * w) ≡ v (3 * j + 2) = h 2 (omega arith) in
      rw (a, b, c) (ap (λ fs. face j ∷ fs)
      (faces_by n (suc j) (drop (3 * w) bs) (λ k less. number_on w bs k ∙ h (suc (suc (suc k))) (omega arith) ∙ ap v (omega arith))))

-- ---- the line that holds to faces is that of a Mesh's f
abbrev f : List ℕ
f = letters "f"

one_f : (numbered : Bool) (letters name : List ℕ) → Spells numbered letters name → numbered ≡ plain → name ≡ letters
one_f true letters name h e = absurd (true≢false e)
one_f false letters name h e = h

held_f : (kind : ℕ) (name : List ℕ) → (rule_of kind name).held ≡ faces → name ≡ f
held_f kind name =
    from_line kind name (λ l. l.held ≡ faces → name ≡ f) (λ e. absurd (false≢true cc))
    (each_map (λ l n k h e. one_f l.numbered l.name name h (n e).0 ∙ (n e).1) lines faces_named)

f_held : (rule_of mesh f).held ≡ faces
unfolding letters lines lists same number_after read_digits number rule_in of_kind lines_of
f_held = refl

-- ---- a node's faces
module _ (kind : ℕ) (s : List ℕ) where
  -- no property is held to faces
  no_faces : {starts : List ℕ} {ps : List Property} → Described s starts ps → (kind ≡ mesh → Has f ps → ⊥) → node_faces (lines_of kind) s starts ≡ []
  unfolding node_faces
  no_faces none n = refl
  no_faces (one {at} {p} {starts} {ps} a d) n =
      rw (a.name, no_faces d (λ k h. n k (inr h)))
      (by_faces (λ fs. fs ++ [] ≡ []) s at (rule_of kind p.name).held
      (λ e. absurd (n (faces_line kind p.name e).0 (inl (held_f kind p.name e)))) refl)

-- the faces of the f of some properties
abbrev named : List Property → List Face
named ps = map (face 0 (λ k. of_named f (λ p. value p k) 0 ps)) (numbers_from 0 (elements_of f ps / 3))

module _ (s : List ℕ) where
  mesh_faces_lem : {starts : List ℕ} {ps : List Property} → Described s starts ps → Distinct ps → FitsRules mesh ps
      → node_faces (lines_of mesh) s starts ≡ named ps
  unfolding node_faces of_named
  mesh_faces_lem none d fits = refl
  mesh_faces_lem (one {at} {p} {starts} {ps} a more) d fits =
      let l = rule_of mesh p.name in
      by_test (same p.name f)
      (λ t.
      let is : p.name ≡ f = same_eq p.name f t in
      let held : l.held ≡ faces = ap (λ n. (rule_of mesh n).held) is ∙ f_held in
      let is_number : is_n p.code ≡ true = takes_number p.code fits.0.0 (faces_line mesh p.name held).1 in
      let w : ℕ = width_of p.code in
      let n : ℕ = p.elements / 3 in
      let here : faces_in w n (rest_at s at) ≡ map (face w (value p)) (numbers_from 0 n) =
      faces_by w (value p) n 0 (rest_at s at) (λ k less. values_read a is_number k (omega (arith, less)) ∙ ap (value p) (omega arith)) in
      let rest = no_faces mesh s more (λ k h. d.0 (rw is h)) in
      rw (a.name, held, a.code, a.elements, rest, here, t) (append-nil (map (face w (value p)) (numbers_from 0 n))))
      (λ t.
      rw (a.name, t)
      (by_faces (λ fs. fs ++ node_faces (lines_of mesh) s starts ≡ named ps) s at l.held
      (λ e. absurd (false≢true (sym t ∙ ap (λ n. same n f) (held_f mesh p.name e) ∙ same_refl f))) (mesh_faces_lem more d.1 fits.1)))

pub node_faces_lem : (kind hash n : ℕ) (s : List ℕ) (bones : ℕ) (good : GoodBody n s) → Obeys kind good.properties bones
    → node_faces (lines_of kind) s (properties s n).starts ≡ mesh_faces (record { kind = kind; hash = hash; properties = good.properties })
unfolding mesh_faces
node_faces_lem kind hash n s bones good obeys =
    let d = described n s good in
    by_test (eqb kind mesh)
    (λ t.
    let is : kind ≡ mesh = eqb-true kind mesh t in
    let fits : FitsRules mesh good.properties = rw is at ((fits_rules kind good.properties).1 obeys.fits) in
    rw t (ap (λ k. node_faces (lines_of k) s (properties s n).starts) is ∙ mesh_faces_lem s d obeys.distinct fits))
    (λ t. rw t (no_faces kind s d (λ k h. eqb-false kind mesh t k)))
