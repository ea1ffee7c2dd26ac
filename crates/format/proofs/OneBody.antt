-- A body is of one list of properties: the first one's numbers, name and data are read from the bytes, and so on.
use Prim.Native.Nat.{ℕ, ◌+◌}
use native.Mathlib.Omega.{arith}
use mathlib.Core.Path.{◌≡◌, refl, ap, sym, ◌∙◌}
use mathlib.Core.List.{List, [], ◌∷◌, ◌++◌, append_assoc, flat_map}
use lib.ListN.{length, take, drop}
use Rattle.le.specs.Le.{number_at}
use Rattle.props.specs.Types.{Size}
use Rattle.props.specs.Types.{Bytes, Text, NoSuch}
use Rattle.props.specs.Types.{element_size}
use Rattle.base.specs.Lists.{Each}
use Rattle.format.specs.Layout.{Property, property_bytes, Content, GoodProperty}
use Rattle.format.specs.Laws.{OneBody}
use Rattle.format.proofs.Properties.{code_read, size_read, elements_read, name_read, content_read}
use Rattle.format.proofs.Unique.{cut}

-- texts without a zero that are followed by one
texts : (a b x y : List ℕ) → Each (λ n. n ≡ 0 → ⊥) a → Each (λ n. n ≡ 0 → ⊥) b → a ++ (0 ∷ x) ≡ b ++ (0 ∷ y) → (a ≡ b) × (x ≡ y)
texts [] [] x y f g e = (refl, cc)
texts [] (n ∷ b) x y f g e = absurd (g.0 cc)
texts (n ∷ a) [] x y f g e = absurd (f.0 cc)
texts (n ∷ a) (m ∷ b) x y f g e =
    let h : a ++ (0 ∷ x) ≡ b ++ (0 ∷ y) = cc in
    let first : n ≡ m = cc in
    let rest = texts a b x y f.1 g.1 h in
    (cc (first, rest.0), rest.1)

-- data of one type and length
contents : (size : Size) (n : ℕ) (a b x y : List ℕ) → Content size n a → Content size n b → a ++ x ≡ b ++ y → (a ≡ b) × (x ≡ y)
contents (Bytes w) n a b x y f g e = cut a b x y (f ∙ sym g) e
contents Text n a b x y f g e =
    let p = f.1 in
    let q = g.1 in
    let same : p.text ++ (0 ∷ x) ≡ q.text ++ (0 ∷ y) =
    sym (append_assoc p.text (0 ∷ []) x) ∙ ap (λ l. l ++ x) (sym p.ends) ∙ e ∙ ap (λ l. l ++ y) q.ends ∙ append_assoc q.text (0 ∷ []) y in
    let both = texts p.text q.text x y p.nonzero q.nonzero same in
    (p.ends ∙ ap (λ l. l ++ (0 ∷ [])) both.0 ∙ sym q.ends, both.1)
contents NoSuch n a b x y f g e = absurd f

-- one property, and what follows it
one : (p q : Property) (x y : List ℕ) → GoodProperty p → GoodProperty q → property_bytes p ++ x ≡ property_bytes q ++ y → (p ≡ q) × (x ≡ y)
one p q x y f g e =
    let code : p.code ≡ q.code = sym (code_read p [] x f) ∙ ap (λ l. number_at 2 l 0) e ∙ code_read q [] y g in
    let size : length p.name ≡ length q.name = sym (size_read p [] x f) ∙ ap (λ l. number_at 2 l 2) e ∙ size_read q [] y g in
    let elements : p.elements ≡ q.elements = sym (elements_read p [] x f) ∙ ap (λ l. number_at 4 l 4) e ∙ elements_read q [] y g in
    let name : p.name ≡ q.name = sym (name_read p [] x f) ∙ ap (λ l. take (length p.name) (drop 8 l)) e ∙ ap (λ n. take n (drop 8 (property_bytes q ++ y))) size ∙ name_read q [] y g in
    let rest : p.content ++ x ≡ q.content ++ y =
    sym (content_read p [] x f) ∙ ap (drop (8 + length p.name)) e ∙ ap (λ n. drop (8 + n) (property_bytes q ++ y)) size ∙ content_read q [] y g in
    let like : Content (element_size q.code) q.elements p.content = rw (code, elements) at f.3 in
    let both = contents (element_size q.code) q.elements p.content q.content x y like g.3 rest in
    (same p q code elements name both.0, both.1)
  where
    same : (p q : Property) → p.code ≡ q.code → p.elements ≡ q.elements → p.name ≡ q.name → p.content ≡ q.content → p ≡ q
    same p q a b c d =
        ap (λ n. record { code = n; elements = p.elements; name = p.name; content = p.content }) a
        ∙ ap (λ n. record { code = q.code; elements = n; name = p.name; content = p.content }) b
        ∙ ap (λ n. record { code = q.code; elements = q.elements; name = n; content = p.content }) c
        ∙ ap (λ n. record { code = q.code; elements = q.elements; name = q.name; content = n }) d

lists : (ps qs : List Property) → Each GoodProperty ps → Each GoodProperty qs → length ps ≡ length qs
    → flat_map property_bytes ps ≡ flat_map property_bytes qs → ps ≡ qs
unfolding flat_map
lists [] [] f g n e = refl
lists [] (q ∷ qs) f g n e = absurd (omega (arith, n))
lists (p ∷ ps) [] f g n e = absurd (omega (arith, n))
lists (p ∷ ps) (q ∷ qs) f g n e =
    let first = one p q (flat_map property_bytes ps) (flat_map property_bytes qs) f.0 g.0 e in
    let rest = lists ps qs f.1 g.1 (omega (arith, n)) first.1 in
    cc (first.0, rest)

pub one_body : OneBody
one_body n s a b = lists a.properties b.properties a.good b.good (a.counted ∙ sym b.counted) (sym a.bytes ∙ b.bytes)
