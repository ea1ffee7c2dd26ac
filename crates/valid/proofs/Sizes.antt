-- The faces of a node are no more than the bytes of its body.
use Prim.Native.Nat.{ℕ, ◌/◌, ◌≤◌}
use native.Mathlib.Omega.{arith}
use mathlib.Core.Path.{◌≡◌, sym, subst}
use mathlib.Core.Bool.{true}
use mathlib.Core.List.{List, [], ◌∷◌, flat_map}
use lib.ListN.{length, length-append}
use Rattle.body.specs.Body.{properties}
use Rattle.faces.specs.Faces.{width_of}
use Rattle.faces.proofs.Laws.{length_faces_in}
use Rattle.rules.proofs.Laws.{rule_of}
use Rattle.rules.specs.Rules.{lines_of, is_n}
use Rattle.props.specs.Step.{code_at, length_at}
use Rattle.judge.specs.Properties.{rule_at, rest_at}
use Rattle.judge.specs.Valued.{held_faces, node_faces}
use Rattle.format.specs.Layout.{Property, property_bytes, GoodBody}
use Rattle.format.proofs.Properties.{length_property}
use Rattle.valid.specs.Obeys.{FitsLine, Obeys}
use Rattle.valid.proofs.Ruled.{FitsRules}
use Rattle.valid.proofs.Agree.{fits_rules}
use Rattle.valid.proofs.Described.{At, Described, none, one, described}
use Rattle.valid.proofs.Lines.{faces_line, by_faces}
use Rattle.valid.proofs.Values.{takes_number, elements_most}

property_faces : (kind : ℕ) (s : List ℕ) {at : ℕ} {p : Property} → At s at p → FitsLine (rule_of kind p.name) p
    → length (held_faces (rule_at (lines_of kind) s at).held s at) ≤ length (property_bytes p)
property_faces kind s {at} {p} here fits =
    rw here.name (by_faces (λ fs. length fs ≤ length (property_bytes p)) s at (rule_of kind p.name).held
    (λ e.
    let number : is_n p.code ≡ true = takes_number p.code fits.0 (faces_line kind p.name e).1 in
    rw (length_faces_in (width_of (code_at s at)) (length_at s at / 3) (rest_at s at), here.elements)
    (omega (arith, elements_most here number, length_property p)))
    (omega arith))

node_faces_lem : (kind : ℕ) (s starts : List ℕ) (ps : List Property) → Described s starts ps → FitsRules kind ps
    → length (node_faces (lines_of kind) s starts) ≤ length (flat_map property_bytes ps)
unfolding node_faces flat_map
node_faces_lem kind s [] [] none h = omega arith
node_faces_lem kind s [] (p ∷ ps) x4 h = elim x4 [ ]
node_faces_lem kind s (at ∷ starts) [] x4 h = elim x4 [ ]
node_faces_lem kind s (at ∷ starts) (p ∷ ps) (one here more) h =
    let a = property_faces kind s here h.0 in
    let b = node_faces_lem kind s starts ps more h.1 in
    rw (length-append (held_faces (rule_at (lines_of kind) s at).held s at) (node_faces (lines_of kind) s starts), length-append (property_bytes p) (flat_map property_bytes ps))
    (omega (arith, a, b))

pub faces_most : (kind n : ℕ) (s : List ℕ) (bones : ℕ) (good : GoodBody n s) → Obeys kind good.properties bones
    → length (node_faces (lines_of kind) s (properties s n).starts) ≤ length s
faces_most kind n s bones good obeys =
    subst (λ l. length (node_faces (lines_of kind) s (properties s n).starts) ≤ length l) (sym good.bytes)
    (node_faces_lem kind s (properties s n).starts good.properties (described n s good) ((fits_rules kind good.properties).1 obeys.fits))
