-- The rules as the reading goes by them are the rules in document 01's words: kv's type by kp, and signed numbers.
use Prim.Native.Nat.{ℕ, zero, suc, ◌-◌, ◌≤◌, ◌<◌}
use native.Mathlib.Omega.{arith}
use mathlib.Core.Path.{◌≡◌, refl, sym, ap, ◌∙◌}
use mathlib.Core.Logic.{inl, inr, ◌↔◌, ⊎_elim}
use mathlib.Core.Bool.{Bool, true, false, cond, true≢false, false≢true}
use mathlib.Core.List.{List, [], ◌∷◌, ◌++◌}
use lib.Dec.{ltb}
use lib.IntN.{ℤ, pos, negsuc}
use borrow.Author.Tests.{eq-eqb, eqb-true, ltb-true, ltb-false}
use Rattle.base.proofs.Tests.{by_test}
use Rattle.names.specs.Names.{same, bytes_ok}
use Rattle.names.proofs.Laws.{same_eq, same_refl}
use Rattle.kinds.specs.Kinds.{curve}
use Rattle.rules.specs.Table.{only, N, Line, free}
use Rattle.base.specs.Letters.{letters}
use Rattle.props.specs.Types.{float, v4, string}
use Rattle.rules.proofs.Laws.{rule_of}
use Rattle.rules.specs.Rules.{takes, is_text}
use Rattle.judge.specs.Valued.{signed}
use Rattle.base.specs.Lists.{Each, Some}
use Rattle.format.specs.Layout.{Property, EndsInZero, GoodProperty}
use Rattle.base.proofs.Lists.{each_both, each_map}
use Rattle.valid.specs.Lines.{ByLine, IsN}
use Rattle.valid.specs.Obeys.{Has, Distinct, FitsLine, of_named, KeyTyped, ReadSigned, BoneParent, Keeps, Obeys}
use Rattle.valid.proofs.Ruled.{wanted, FitsRules, ObeysRules}
use Rattle.valid.proofs.Says.{Says}
use Rattle.valid.proofs.Lines.{key_text, rotation_letters, visible_letters}
use Rattle.valid.proofs.Values.{says_n, takes_only}
use Rattle.valid.proofs.Strings.{says_string}
use Rattle.valid.proofs.Listed.{to_line, from_line}

-- ---- kv's type by kp: by the first kp, as no name stands twice
abbrev pub kp : List ℕ
kp = letters "kp"

unfoldable first_is : (text : List ℕ) → List Property → Bool
first_is text [] = false
first_is text (p ∷ ps) = cond (same p.name kp) (is_text p.content text) (first_is text ps)

wanted_by : (ps : List Property) → wanted ps ≡ cond (first_is (letters "rq") ps) (only v4) (cond (first_is (letters "vb") ps) N (only float))
unfolding of_named first_is
wanted_by [] = refl
wanted_by (p ∷ ps) = by_test (same p.name kp) (λ t. rw t) (λ t. rw t (wanted_by ps))

-- the strings of some properties named kp end in a zero
abbrev pub Ends : List Property → Type 0
Ends ps = Each (λ p. p.name ≡ kp → EndsInZero p.content) ps

abbrev Text : (text : List ℕ) → List Property → Type 0
Text text ps = Some (λ p. (p.name ≡ kp) × (p.content ≡ text ++ (0 ∷ []))) ps

none_named : (text : List ℕ) (ps : List Property) → (Has kp ps → ⊥) → Text text ps → ⊥
none_named text [] n h = h
none_named text (p ∷ ps) n (inl h) = n (inl h.0)
none_named text (p ∷ ps) n (inr h) = none_named text ps (λ k. n (inr k)) h

says_first : (text : List ℕ) → bytes_ok text ≡ true → (ps : List Property) → Distinct ps → Ends ps → Says (first_is text ps) (Text text ps)
unfolding first_is
says_first text ok [] d e = (λ h. absurd (false≢true h), λ h. absurd h)
says_first text ok (p ∷ ps) d e =
    by_test (same p.name kp)
    (λ t.
    let named : p.name ≡ kp = same_eq p.name kp t in
    let is = says_string (e.0 named) text ok in
    let later = none_named text ps (λ h. d.0 (rw named h)) in
    rw t (λ h. inl (named, is.0 h), λ h. ⊎_elim (λ k. is.1 k.1) (λ k. absurd (later k)) h))
    (λ t.
    let ih = says_first text ok ps d.1 e.1 in
    let other : p.name ≡ kp → ⊥ = λ k. false≢true (sym t ∙ ap (λ n. same n kp) k ∙ same_refl kp) in
    rw t (λ h. inr (ih.0 h), λ h. ⊎_elim (λ k. absurd (other k.0)) (λ k. ih.1 k) h))

-- not both rq and vb
apart : (content : List ℕ) → content ≡ letters "rq" ++ (0 ∷ []) → content ≡ letters "vb" ++ (0 ∷ []) → ⊥
unfolding letters
apart content e f = let h : ◌≡◌ {A = List ℕ} (114 ∷ 113 ∷ 0 ∷ []) (118 ∷ 98 ∷ 0 ∷ []) = sym e ∙ f in let k : ◌≡◌ {A = ℕ} 114 118 = cc in omega (arith, k)

not_both : (ps : List Property) → Distinct ps → Text (letters "rq") ps → Text (letters "vb") ps → ⊥
not_both [] d r v = r
not_both (p ∷ ps) d (inl r) (inl v) = apart p.content r.1 v.1
not_both (p ∷ ps) d (inl r) (inr v) = none_named (letters "vb") ps (λ h. d.0 (rw r.0 h)) v
not_both (p ∷ ps) d (inr r) (inl v) = none_named (letters "rq") ps (λ h. d.0 (rw v.0 h)) r
not_both (p ∷ ps) d (inr r) (inr v) = not_both ps d.1 r v

key_by : {A B : Type 0} (r v : Bool) (code : ℕ) → Says r A → Says v B → (A → B → ⊥)
    → (takes (cond r (only v4) (cond v N (only float))) code ≡ true) ↔ ((A → code ≡ v4) × (B → IsN code) × ((A → ⊥) → (B → ⊥) → code ≡ float))
key_by true v code r' v' n =
    let is = r'.0 refl in
    (λ e. (λ k. sym (eqb-true v4 code e), λ k. absurd (n is k), λ k m. absurd (k is)), λ h. eq-eqb v4 code (sym (h.0 is)))
key_by false true code r' v' n =
    let is = v'.0 refl in
    (λ e. (λ k. absurd (n k is), λ k. (says_n code).0 e, λ k m. absurd (m is)), λ h. (says_n code).1 (h.1 is))
key_by false false code r' v' n = (
  λ e. (λ k. absurd (false≢true (r'.1 k)), λ k. absurd (false≢true (v'.1 k)), λ k m. sym (eqb-true float code e)),
  λ h. eq-eqb float code (sym (h.2 (λ k. false≢true (r'.1 k)) (λ k. false≢true (v'.1 k)))),
)

pub key_agree : (ps : List Property) (code : ℕ) → Distinct ps → Ends ps → (takes (wanted ps) code ≡ true) ↔ KeyTyped ps code
key_agree ps code d e =
    let by = key_by (first_is (letters "rq") ps) (first_is (letters "vb") ps) code (says_first (letters "rq") rotation_letters ps d e)
    (says_first (letters "vb") visible_letters ps d e) (not_both ps d) in
    rw (wanted_by ps) (
      λ h. let k = by.0 h in record { rotation = k.0; visible = k.1; other = k.2 },
      λ k. by.1 (k.rotation, k.visible, k.other),
    )

-- ---- signed numbers
pub signed_agree : (v bones : ℕ) → BoneParent (signed v) bones ↔ ((z : ℤ) → ReadSigned v z → BoneParent z bones)
signed_agree v bones =
    by_test (ltb v 0x80000000)
    (λ t.
    let low : v < 0x80000000 = ltb-true v 0x80000000 t in
    rw t (λ h z r. positive low h z r, λ f. f (pos v) (low, refl)))
    (λ t.
    let high : 0x80000000 ≤ v = ltb-false v 0x80000000 t in
    rw t (λ h z r. negative (0xFFFFFFFF - v) refl high h z r, λ f. back (0xFFFFFFFF - v) refl high f))
  where
    positive : v < 0x80000000 → v < bones → (z : ℤ) → ReadSigned v z → BoneParent z bones
    positive low h (pos n) r = omega (arith, h, r.1)
    positive low h (negsuc n) r = absurd (omega (arith, low, r.0, r.1))

    negative : (m : ℕ) → 0xFFFFFFFF - v ≡ m → 0x80000000 ≤ v → BoneParent (negsuc m) bones → (z : ℤ) → ReadSigned v z → BoneParent z bones
    negative zero e high h (pos n) r = absurd (omega (arith, high, r.0, r.1))
    negative zero e high h (negsuc zero) r = tt
    negative zero e high h (negsuc (suc n)) r = absurd (omega (arith, e, r.1))
    negative (suc m) e high h z r = absurd h

    back : (m : ℕ) → 0xFFFFFFFF - v ≡ m → 0x80000000 ≤ v → ((z : ℤ) → ReadSigned v z → BoneParent z bones) → BoneParent (negsuc m) bones
    back zero e high f = tt
    back (suc m) e high f = f (negsuc (suc m)) (omega (arith, e, high), omega (arith, e))

-- ---- all of it
pub ends : (kind : ℕ) (ps : List Property) → Each GoodProperty ps → FitsRules kind ps → kind ≡ curve → Ends ps
ends kind ps good fits k =
    each_map (λ p b n.
    let code : p.code ≡ string = takes_only (rw (k, n) at b.1.0) key_text in
    (rw code at b.0.3).1) ps ((each_both _ _ ps).0 (good, fits))

-- by the line that is found, or by the lines that list a name
by_lines : (kind : ℕ) (P : Line → Property → Type 0) → ((p : Property) → P free p) → (ps : List Property)
    → Each (λ p. P (rule_of kind p.name) p) ps ↔ Each (λ p. ByLine kind p.name (λ l. P l p)) ps
by_lines kind P f ps =
    (each_map (λ p. to_line kind p.name (λ l. P l p)) ps, each_map (λ p. from_line kind p.name (λ l. P l p) (f p)) ps)

pub fits_rules : (kind : ℕ) (ps : List Property) → FitsRules kind ps ↔ Each (λ p. ByLine kind p.name (λ l. FitsLine l p)) ps
fits_rules kind ps = by_lines kind FitsLine (λ p. (tt, λ e. absurd (true≢false e))) ps

pub keeps_rules : (kind : ℕ) (all : List Property) (bones : ℕ) (ps : List Property)
    → Each (λ p. Keeps (rule_of kind p.name).held all bones p) ps ↔ Each (λ p. ByLine kind p.name (λ l. Keeps l.held all bones p)) ps
keeps_rules kind all bones ps = by_lines kind (λ l p. Keeps l.held all bones p) (λ p. tt) ps

pub obeys_agree : (kind : ℕ) (ps : List Property) (bones : ℕ) → ObeysRules kind ps bones ↔ Obeys kind ps bones
obeys_agree kind ps bones =
    let fits = fits_rules kind ps in
    let keeps = keeps_rules kind ps bones ps in (
      λ o. record { distinct = o.distinct; fits = fits.0 o.fits; complete = o.complete; partnered = o.partnered; keeps = keeps.0 o.keeps },
      λ o. record { distinct = o.distinct; fits = fits.1 o.fits; complete = o.complete; partnered = o.partnered; keeps = keeps.1 o.keeps },
    )
