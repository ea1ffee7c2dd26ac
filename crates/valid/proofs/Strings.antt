-- A string stands at the start of some bytes exactly where it is the one that they begin with.
use Prim.Native.Nat.{ℕ}
use mathlib.Core.Path.{◌≡◌, refl, sym}
use mathlib.Core.Logic.Iff
use mathlib.Core.Logic.{◌↔◌}
use mathlib.Core.Bool.{true, and-eq-true_iff, and_assoc, false≢true}
use mathlib.Core.List.{List, [], ◌∷◌, ◌++◌, append_assoc, append-nil}
use lib.Dec.{eqb}
use lib.ListN.{length, take, get_or}
use borrow.Author.Tests.{ne_eqb}
use Rattle.names.specs.Names.{same, bytes_ok}
use Rattle.base.specs.Letters.{letters}
use Rattle.rules.specs.Rules.{is_text, is_one_of}
use Rattle.rules.proofs.Laws.{all}
use Rattle.judge.specs.Properties.{wanted_types}
use Rattle.base.specs.Lists.{Each, Some}
use Rattle.format.specs.Layout.{EndsInZero}
use Rattle.format.proofs.Stages.{bytes_sound}
use Rattle.valid.proofs.Says.{Says, says_eqb, says_and, says_or, says_equal}
use Rattle.base.proofs.Lists.{each_map}
use Rattle.valid.proofs.Lines.{rotation_letters, visible_letters}

abbrev Nonzero : ℕ → Type 0
Nonzero b = b ≡ 0 → ⊥

cons_both : {x y : ℕ} {xs ys : List ℕ} → ((x ≡ y) × (xs ≡ ys)) ↔ (x ∷ xs ≡ y ∷ ys)
cons_both = (λ p. cc (p.0, p.1), λ e. (cc, cc))

text_there : (text string more : List ℕ) → Each Nonzero text → Each Nonzero string →
    Says (is_text (text ++ (0 ∷ more)) string) (text ++ (0 ∷ []) ≡ string ++ (0 ∷ []))
unfolding is_text same
text_there [] [] more h k = (λ e. refl, λ e. refl)
text_there [] (y ∷ string) more h k =
    (λ e. absurd (false≢true (rw (ne_eqb 0 y (λ z. k.0 (sym z))) at e)), λ e. absurd (k.0 (sym (cons_both.1 e).0)))
text_there (x ∷ text) [] more h k = (λ e. absurd (false≢true (rw (ne_eqb x 0 h.0) at e)), λ e. absurd (h.0 (cons_both.1 e).0))
text_there (x ∷ text) (y ∷ string) more h k =
    let bytes : List ℕ = text ++ (0 ∷ more) in
    rw (and_assoc (eqb x y) (same (take (length string) bytes) string) (eqb (get_or bytes (length string) 1) 0))
    (Iff.trans (says_and (eqb x y) _ (says_eqb x y) (text_there text string more h.1 k.1)) cons_both)

-- a string of letters, where one that ends in a zero stands
module _ {content : List ℕ} (c : EndsInZero content) (more : List ℕ) where
  pub says_text : (string : List ℕ) → bytes_ok string ≡ true → Says (is_text (content ++ more) string) (content ≡ string ++ (0 ∷ []))
  says_text string e =
      rw (c.ends, append_assoc c.text (0 ∷ []) more)
      (text_there c.text string more c.nonzero (each_map (λ b h. h.0) string (bytes_sound string e)))

  pub says_one_of : (strings : List (List ℕ)) → all bytes_ok strings ≡ true
      → Says (is_one_of strings (content ++ more)) (Some (λ string. content ≡ string ++ (0 ∷ [])) strings)
  unfolding is_one_of all
  says_one_of [] e = (λ f. absurd (false≢true f), λ f. absurd f)
  says_one_of (string ∷ others) e =
      let both = (and-eq-true_iff (bytes_ok string) (all bytes_ok others)).0 e in
      says_or (is_text (content ++ more) string) (is_one_of others (content ++ more)) (says_text string both.0) (says_one_of others both.1)

-- alone
pub says_string : {content : List ℕ} → EndsInZero content → (string : List ℕ) → bytes_ok string ≡ true → Says (is_text content string) (content ≡ string ++ (0 ∷ []))
says_string {content} c string e = rw (append-nil content) at (says_text c [] string e)

-- so what follows does not matter
module _ {content : List ℕ} (c : EndsInZero content) (more : List ℕ) where
  text_alone : (string : List ℕ) → bytes_ok string ≡ true → is_text (content ++ more) string ≡ is_text content string
  text_alone string e =
      says_equal (is_text (content ++ more) string) (is_text content string) (says_text c more string e) (says_string c string e)

  pub key_alone : wanted_types (content ++ more) ≡ wanted_types content
  key_alone = rw (text_alone (letters "rq") rotation_letters, text_alone (letters "vb") visible_letters)
