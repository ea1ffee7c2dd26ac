-- 15 is given to no property exactly where each keeps what its line holds it to.
use Prim.Native.Nat.{ℕ, zero, suc, ◌+◌, ◌*◌, ◌/◌, ◌%◌, ◌≤◌, ◌<◌}
use native.Mathlib.Omega.{arith}
use mathlib.Core.Path.{◌≡◌, refl, sym, ap, ◌∙◌}
use mathlib.Core.Logic.Iff
use mathlib.Core.Logic.{◌↔◌}
use mathlib.Core.Bool.{Bool, true, false, cond, ◌&&◌, false≢true}
use mathlib.Core.List.{List, [], ◌∷◌, ◌++◌}
use lib.Dec.{eqb, leb}
use lib.IntN.{ℤ, pos, negsuc}
use Rattle.le.specs.Le.{number_at}
use Rattle.kinds.specs.Kinds.{curve}
use Rattle.props.specs.Step.{length_at, code_at}
use Rattle.faces.specs.Faces.{Values}
use Rattle.faces.specs.Faces.{Below, NotBelow}
use Rattle.faces.specs.Faces.{width_of, faces_in, below}
use Rattle.rules.specs.Table.{Held, nothing, flag, one_of, vertices, weights, faces, indices, keys, bone_number, link_to, Line}
use Rattle.base.specs.Letters.{letters}
use Rattle.props.specs.Types.{byte, int}
use Rattle.rules.proofs.Laws.{rule_of}
use Rattle.rules.specs.Rules.{is_n, takes, lines_of, is_one_of}
use Rattle.base.specs.Refusals.{Refusal}
use Rattle.judge.specs.Properties.{Beside, rest_at, value_at}
use Rattle.judge.specs.Valued.{Fault}
use Rattle.judge.specs.Valued.{Right, Whole, Element}
use Rattle.judge.specs.Valued.{whole, sole, signed, parent_ok, by_values, face_fault, fault_of, fault_number, valued}
use Rattle.base.specs.Refusals.{refusal, refused_or}
use Rattle.base.specs.Lists.{Each, Some}
use Rattle.format.specs.Layout.{Property}
use Rattle.valid.specs.Obeys.{Distinct, FitsLine, value, elements_of, vertex_count, AreFaces, KeyTyped, ReadSigned, BoneParent, Keeps}
use Rattle.valid.proofs.Ruled.{FitsRules, wanted}
use Rattle.valid.proofs.Agree.{Ends, key_agree, signed_agree}
use Rattle.valid.proofs.Says.{Says, says_eqb, says_leb, says_ltb, says_and}
use Rattle.valid.proofs.Described.{At, Described, none, one}
use Rattle.valid.proofs.Lines.{flag_line, text_line, vertices_line, weights_line, faces_line, indices_line, keys_line, parent_line}
use Rattle.valid.proofs.Values.{takes_number, takes_only, values_read, value_read, string_ends}
use Rattle.valid.proofs.Strings.{says_one_of}
use Rattle.valid.proofs.Triples.{all_below}
use Rattle.valid.proofs.Beside.{Beheld}

-- ---- a fault is right
whole_right : (t : Bool) → (whole t ≡ Right) ↔ (t ≡ true)
whole_right true = (λ e. refl, λ e. refl)
whole_right false = (λ e. cc, λ e. cc)

sole_right : (t : Bool) → (sole t ≡ Right) ↔ (t ≡ true)
sole_right true = (λ e. refl, λ e. refl)
sole_right false = (λ e. cc, λ e. cc)

values_right : (v : Values) → (by_values v ≡ Right) ↔ (v ≡ Below)
values_right Below = (λ e. refl, λ e. refl)
values_right (NotBelow k) = (λ e. cc, λ e. cc)

length_right : (t : Bool) (f : Fault) → (cond t f Whole ≡ Right) ↔ (t ≡ true) × (f ≡ Right)
length_right true f = (λ e. (refl, e), λ h. h.1)
length_right false f = (λ e. (cc, cc), λ h. cc)

says_parent : (z : ℤ) (bones : ℕ) → Says (parent_ok z bones) (BoneParent z bones)
says_parent (pos n) bones = says_ltb n bones
says_parent (negsuc zero) bones = (λ e. tt, λ h. refl)
says_parent (negsuc (suc n)) bones = (λ e. absurd (false≢true e), λ h. absurd h)

-- ---- one property, by what its line holds it to
module _ (kind : ℕ) (s : List ℕ) (ps : List Property) (bones : ℕ) (b : Beside) (beside : Beheld kind ps bones b)
    (d : Distinct ps) (ends : kind ≡ curve → Ends ps)
    {at : ℕ} {p : Property} (a : At s at p) (fits : FitsLine (rule_of kind p.name) p) where
  abbrev l : Line
  l = rule_of kind p.name

  flag_right : l.held ≡ flag → (sole (leb (value_at s at) 1) ≡ Right) ↔ (value p 0 ≤ 1)
  flag_right e =
      let line = flag_line kind p.name e in
      let code : p.code ≡ byte = takes_only fits.0 line.0 in
      let n : is_n p.code ≡ true = rw code in
      rw (value_read a n (fits.1 line.1)) (Iff.trans (sole_right (leb (value p 0) 1)) (says_leb (value p 0) 1))

  text_right : (strings : List (List ℕ)) → l.held ≡ one_of strings →
      (whole (is_one_of strings (rest_at s at)) ≡ Right) ↔ Some (λ string. p.content ≡ string ++ (0 ∷ [])) strings
  text_right strings e =
      let line = text_line kind p.name strings e in
      let ends = string_ends a (takes_only fits.0 line.0) in
      rw a.rest (Iff.trans (whole_right (is_one_of strings (p.content ++ a.more))) (says_one_of ends a.more strings line.1))

  count_right : {n m : ℕ} → n ≡ m → (whole (eqb (length_at s at) n) ≡ Right) ↔ (p.elements ≡ m)
  count_right {n} {m} e = rw (a.elements, e) (Iff.trans (whole_right (eqb p.elements m)) (says_eqb p.elements m))

  faces_right : l.held ≡ faces → (face_fault s at b.vertices ≡ Right) ↔ AreFaces (vertex_count ps) p
  faces_right e =
      let line = faces_line kind p.name e in
      let n : is_n p.code ≡ true = takes_number p.code fits.0 line.1 in
      let w : ℕ = width_of p.code in
      let v : ℕ = vertex_count ps in
      let count : ℕ = p.elements / 3 in
      let fs = faces_in w count (rest_at s at) in
      let long = length_right (eqb (p.elements % 3) 0) (by_values (below v 0 fs)) in
      let all = Iff.trans (values_right (below v 0 fs)) (all_below v w count (rest_at s at)) in
      rw (a.elements, a.code, beside.vertices line.0) (
        λ q.
            let threes : p.elements ≡ count * 3 = omega (arith, (says_eqb (p.elements % 3) 0).0 (long.0 q).0) in
            record { count = count; threes = threes; below = λ k h. rw (values_read a n k h) at (all.0 (long.0 q).1 k (omega arith)) },
        λ f.
            let threes : p.elements ≡ count * 3 = omega (arith, f.threes) in
            long.1 (
              (says_eqb (p.elements % 3) 0).1 (omega (arith, f.threes)),
              all.1 (λ k h. let less : k < p.elements = omega arith in rw (values_read a n k less) (f.below k less)),
            ),
      )

  keys_right : l.held ≡ keys →
      (whole (eqb (length_at s at) b.keys && takes b.types (code_at s at)) ≡ Right)
      ↔ (p.elements ≡ elements_of (letters "kb") ps) × KeyTyped ps p.code
  keys_right e =
      let line = keys_line kind p.name e in
      let n : ℕ = elements_of (letters "kb") ps in
      let test = takes (wanted ps) p.code in
      rw (a.elements, a.code, beside.keys line, beside.types line)
      (Iff.trans (whole_right (eqb p.elements n && test)) (says_and (eqb p.elements n) test (says_eqb p.elements n) (key_agree ps p.code d (ends line))))

  parent_right : l.held ≡ bone_number →
      (sole (parent_ok (signed (number_at 4 (rest_at s at) 0)) b.bones) ≡ Right) ↔ ((z : ℤ) → ReadSigned (value p 0) z → BoneParent z bones)
  unfolding width_of
  parent_right e =
      let line = parent_line kind p.name e in
      let code : p.code ≡ int = takes_only fits.0 line.0 in
      let n : is_n p.code ≡ true = rw code in
      let four : width_of (code_at s at) ≡ 4 = rw (a.code, code) in
      let read : number_at 4 (rest_at s at) 0 ≡ value p 0 = ap (λ w. number_at w (rest_at s at) 0) (sym four) ∙ value_read a n (fits.1 line.1) in
      rw (read, beside.bones) (Iff.trans (sole_right (parent_ok (signed (value p 0)) bones))
      (Iff.trans (says_parent (signed (value p 0)) bones) (signed_agree (value p 0) bones)))

  kept : (h : Held) → l.held ≡ h → (fault_of h s at b ≡ Right) ↔ Keeps h ps bones p
  unfolding fault_of
  kept nothing e = (λ q. tt, λ k. refl)
  kept flag e = flag_right e
  kept (one_of strings) e = text_right strings e
  kept vertices e = count_right (beside.vertices (vertices_line kind p.name e))
  kept weights e = count_right (beside.weights (weights_line kind p.name e))
  kept faces e = faces_right e
  kept indices e = count_right (beside.indices (indices_line kind p.name e))
  kept keys e = keys_right e
  kept bone_number e = parent_right e
  kept (link_to to) e = (λ q. tt, λ k. refl)

-- ---- all of 15
passed : (f : Fault) (at : ℕ) (v : Refusal) → ((refused_or (fault_number f) (refusal 15 at) v).number ≡ 0) ↔ (f ≡ Right) × (v.number ≡ 0)
passed Right at v = (λ e. (refl, e), λ h. h.1)
passed Whole at v = (λ e. absurd (omega arith), λ h. cc)
passed (Element k) at v = (λ e. absurd (omega arith), λ h. cc)

pub valued_right : (kind : ℕ) (s : List ℕ) (all : List Property) (bones : ℕ) (b : Beside) → Beheld kind all bones b →
    Distinct all → (kind ≡ curve → Ends all) → {starts : List ℕ} {ps : List Property} → Described s starts ps → FitsRules kind ps →
    ((valued (lines_of kind) s b starts).number ≡ 0) ↔ Each (λ p. Keeps (rule_of kind p.name).held all bones p) ps
unfolding valued
valued_right kind s all bones b beside d ends none fits = (λ e. tt, λ h. refl)
valued_right kind s all bones b beside d ends (one {at} {p} {starts} {ps} a more) fits =
    let held = (rule_of kind p.name).held in
    rw a.name
    (Iff.trans (passed (fault_of held s at b) (24 + at) (valued (lines_of kind) s b starts))
    (Iff.and (kept kind s all bones b beside d ends a fits.0 held refl) (valued_right kind s all bones b beside d ends more fits.1)))
