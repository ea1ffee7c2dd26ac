-- Laws of texts that are put one after the other, and of a row's parent.
use Prim.Native.Nat.{ℕ, ◌+◌, ◌≤◌}
use native.Mathlib.Omega.{arith}
use mathlib.Core.Path.{◌≡◌, refl, ap, sym, ◌∙◌, subst}
use mathlib.Core.List.{List, [], ◌++◌, append_assoc, append-nil}
use lib.ListN.{length, length-append}
use lib.Seq.{sets, length-sets}
use borrow.Author.Tests.{eq-eqb, ne_eqb}
use Rattle.base.proofs.Stores.{sets_append}
use Rattle.text.specs.Text.{place_after, with_text, decimal}
use Rattle.text.proofs.Laws.{after_put, written_put}
use Rattle.table.specs.Table.{no_parent}
use Rattle.base.specs.Letters.{letters}
use Rattle.listing.specs.Listing.{parent_text}
use Rattle.listing.specs.Private.{Puts}

module _ (out : List ℕ) (at : ℕ) where
  pub front : (t u : List ℕ) → at + length (t ++ u) ≤ length out → at + length t ≤ length out
  front t u h = omega (arith, length-append t u)

  pub puts_first : (t : List ℕ) {r : ℕ} {last : List ℕ} → at + length t ≤ length out → (r ≡ place_after out at t) × (last ≡ with_text out at t) → Puts out at t r last
  puts_first t h p = record { place = p.0 ∙ after_put out at t h; stored = p.1 ∙ written_put out at t h }

  -- what has room after a text that was put
  pub room_after : (t u : List ℕ) {r : ℕ} {l : List ℕ} → at + length (t ++ u) ≤ length out → Puts out at t r l → r + length u ≤ length l
  room_after t u {r} {l} h p = omega (arith, length-append t u, ap length p.stored ∙ length-sets out at t, p.place)

  pub puts_both : (t u : List ℕ) {r r' : ℕ} {l l' : List ℕ} → Puts out at t r l → Puts l r u r' l' → Puts out at (t ++ u) r' l'
  puts_both t u {r} {r'} {l} {l'} p q =
      let same : l' ≡ sets (sets out at t) (at + length t) u = q.stored ∙ ap (λ k. sets l k u) p.place ∙ ap (λ z. sets z (at + length t) u) p.stored in
      record {
        place = omega (arith, p.place, q.place, length-append t u);
        stored = same ∙ sym (sets_append out at t u);
      }

-- a text put after another
pub puts_then : (out : List ℕ) (at : ℕ) (t u : List ℕ) {r r' : ℕ} {l l' : List ℕ} → at + length (t ++ u) ≤ length out → Puts out at t r l
    → (r' ≡ place_after l r u) × (l' ≡ with_text l r u) → Puts out at (t ++ u) r' l'
puts_then out at t u {r} {r'} {l} {l'} h p q = puts_both out at t u p (puts_first l r u (room_after out at t u h p) q)

-- a text that has room and was put is what the buffer holds
pub puts_written : (out : List ℕ) (at : ℕ) (t : List ℕ) {r : ℕ} {last : List ℕ} → at + length t ≤ length out → Puts out at t r last → (r ≡ place_after out at t) × (last ≡ with_text out at t)
puts_written out at t h p = (p.place ∙ sym (after_put out at t h), p.stored ∙ sym (written_put out at t h))

-- of a whole text what comes before the later part was put
pub record Passed (out : List ℕ) (at : ℕ) (whole later : List ℕ) (next : ℕ) (last : List ℕ) : Type 0 where
  pub text : List ℕ
  pub parts : whole ≡ text ++ later
  pub put : Puts out at text next last

module _ (out : List ℕ) (at : ℕ) (whole : List ℕ) where
  pub passed_none : Passed out at whole whole at out
  passed_none = record { text = []; parts = refl; put = record { place = omega arith; stored = refl } }

  module _ {later : List ℕ} {next : ℕ} {last : List ℕ} (p : Passed out at whole later next last) where
    -- what comes next has room
    pub passed_room : at + length whole ≤ length out → (u more : List ℕ) → later ≡ u ++ more → next + length u ≤ length last
    passed_room h u more e =
        let all : length whole ≡ length p.text + (length u + length more)
        = ap length p.parts ∙ length-append p.text later ∙ ap (λ n. length p.text + n) (ap length e ∙ length-append u more) in
        omega (arith, all, p.put.place, ap length p.put.stored ∙ length-sets out at p.text)

    -- and was put
    pub passed_more : (u more : List ℕ) → later ≡ u ++ more → {next' : ℕ} {last' : List ℕ} → Puts last next u next' last' → Passed out at whole more next' last'
    passed_more u more e q = record {
      text = p.text ++ u;
      parts = p.parts ∙ ap (λ z. p.text ++ z) e ∙ sym (append_assoc p.text u more);
      put = puts_both out at p.text u p.put q;
    }

    pub passed_all : later ≡ [] → Puts out at whole next last
    passed_all e = let same : p.text ≡ whole = sym (p.parts ∙ ap (λ z. p.text ++ z) e ∙ append-nil p.text) in
        subst (λ t. Puts out at t next last) same p.put

-- ---- a row's parent
pub parent_none : (p : ℕ) → p ≡ no_parent → parent_text p ≡ letters "-"
unfolding parent_text
parent_none p e = rw (eq-eqb p no_parent e)

pub parent_some : (p : ℕ) → (p ≡ no_parent → ⊥) → parent_text p ≡ decimal p
unfolding parent_text
parent_some p e = rw (ne_eqb p no_parent e)
