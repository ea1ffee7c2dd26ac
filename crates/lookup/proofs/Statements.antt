-- The lookup by the layout: which number it answers, and which part.
use Prim.Native.Nat.{ℕ, zero, suc, ◌+◌, ◌-◌, ◌*◌, ◌≤◌}
use native.Mathlib.Omega.{arith}
use mathlib.Core.Path.{◌≡◌, refl, ap, sym, subst, ◌∙◌}
use mathlib.Core.Logic.{◌⊎◌, inl, inr}
use mathlib.Core.Bool.{true, false, true≢false}
use mathlib.Core.List.{List, [], ◌∷◌}
use lib.ListN.{length, take, drop}
use lib.Seq.{take-take, drop-drop}
use borrow.Author.Tests.{le-leb, leb-true, leb-false}
use Rattle.le.specs.Le.{AreBytes}
use Rattle.le.proofs.Laws.{bytes_take, bytes_drop}
use Rattle.base.proofs.Tests.{by_test}
use Rattle.table.specs.declared.Row.{Row}
use Rattle.table.specs.Table.{row_from, has_row, row_at}
use Rattle.body.specs.Body.{exactly}
use Rattle.format.specs.Rows.{body_of, outside}
use Rattle.format.specs.Layout.{Property, InBytes}
use Rattle.format.proofs.Rows.{not_outside, is_inside, length_body}
use Rattle.format.proofs.Bodies.{good_exactly, exactly_good}
use Rattle.lookup.specs.Lookup.{Found}
use Rattle.lookup.specs.Lookup.{At, Refused}
use Rattle.lookup.specs.Lookup.{in_body, shifted, lookup_of, number_of, part_of, FoundWithin}
use Rattle.lookup.specs.Statements.{IsRow, IsBody, NoneNamed, FirstNamed, data_from, Finds, Answers, LooksUp}
use Rattle.lookup.proofs.Laws.{body_within}
use Rattle.lookup.proofs.Rows.{no_row_lem, beyond, inside}
use Rattle.lookup.proofs.Among.{there_or_not, none_in, first_in}

-- a part of a part
part_of_lem : (a k n : ℕ) (l : List ℕ) → a + k ≤ n → take k (drop a (take n l)) ≡ take k (drop a l)
part_of_lem zero k n l h = take-take k n l (omega (arith, h))
part_of_lem (suc a) k zero l h = absurd (omega (arith, h))
part_of_lem (suc a) k (suc n) [] h = refl
part_of_lem (suc a) k (suc n) (x ∷ l) h = part_of_lem a k n l (omega (arith, h))

no_body_lem : (s : List ℕ) (k : ℕ) (name : List ℕ) → exactly s k ≡ false → in_body s k name ≡ Refused 42
unfolding in_body
no_body_lem s k name e = rw e

shifted_number : (from : ℕ) (f : Found) → number_of (shifted from f) ≡ number_of f
shifted_number from (At start stop) = refl
shifted_number from (Refused n) = refl

module _ (bs t : List ℕ) (row : ℕ) (name : List ℕ) (bytes : AreBytes bs) where
  abbrev r : Row
  r = row_from t (8 * row)

  abbrev found : Found
  found = lookup_of bs t row name

  abbrev n : ℕ
  n = number_of found

  abbrev body : List ℕ
  body = body_of bs r

  -- ---- the row
  is_not : has_row t row ≡ false → IsRow t row → ⊥
  unfolding has_row
  is_not e h = omega (arith, leb-false (row * 8 + 8) (length t) e, h)

  has : IsRow t row → has_row t row ≡ true
  unfolding has_row
  has h = le-leb (row * 8 + 8) (length t) (omega (arith, h))

  is : has_row t row ≡ true → IsRow t row
  unfolding has_row
  is e = omega (arith, leb-true (row * 8 + 8) (length t) e)

  the_row : has_row t row ≡ true → r ≡ row_at t row
  unfolding row_at
  the_row e = rw e (ap (row_from t) (omega arith))

  -- ---- the body
  module _ (i : IsRow t row) where
    module _ (l : InBytes bs r) where
      in_body_lem : shifted r.start (in_body body r.properties name) ≡ found
      in_body_lem = inside bs t row name (has i) (the_row (has i)) (is_inside bs r l)

      number_is : n ≡ number_of (in_body body r.properties name)
      number_is = ap number_of (sym in_body_lem) ∙ shifted_number r.start (in_body body r.properties name)

      none_43 : (b : IsBody bs r) → NoneNamed name b.properties → n ≡ 43
      none_43 b h = number_is ∙ ap number_of (none_in r.properties body name b h)

      found_0 : (b : IsBody bs r) (p : Property) → FirstNamed name b.properties p → n ≡ 0
      found_0 b p f = number_is ∙ ap number_of (first_in r.properties body name b p f).is

      place_is : (b : IsBody bs r) (p : Property) (f : FirstNamed name b.properties p)
          → let from = data_from r.start f.before p in found ≡ At from (from + length p.content)
      place_is b p f =
          let at = first_in r.properties body name b p f in
          let from : r.start + at.start ≡ data_from r.start f.before p = omega (arith, at.from) in
          let past : r.start + at.stop ≡ data_from r.start f.before p + length p.content = omega (arith, at.from, at.past) in
          sym in_body_lem ∙ ap (shifted r.start) at.is ∙ ap (λ m. At m (r.start + at.stop)) from ∙ ap (At (data_from r.start f.before p)) past

      content_is : (b : IsBody bs r) (p : Property) → FirstNamed name b.properties p → part_of bs found ≡ p.content
      content_is b p f =
          let at = first_in r.properties body name b p f in
          let place : found ≡ At (r.start + at.start) (r.start + at.stop) = sym in_body_lem ∙ ap (shifted r.start) at.is in
          let within : (at.start ≤ at.stop) × (at.stop ≤ length body) = subst (FoundWithin (length body)) at.is (body_within body name r.properties) in
          let long = length_body bs r l.1 in
          let size : r.start + at.stop - (r.start + at.start) ≡ at.stop - at.start = omega arith in
          ap (part_of bs) place
          ∙ ap (λ k. take k (drop (r.start + at.start) bs)) size
          ∙ ap (take (at.stop - at.start)) (sym (drop-drop at.start r.start bs))
          ∙ sym (part_of_lem at.start (at.stop - at.start) (r.end - r.start) (drop r.start bs) (omega (arith, within.0, within.1, long)))
          ∙ at.content

      among : (b : IsBody bs r) → Finds bs t row name b.properties
      among b = record {
        absent = (λ e. absent_by e (there_or_not name b.properties), none_43 b);
        found = (λ e. found_by e (there_or_not name b.properties), λ f. found_0 b f.0 f.1);
        place = place_is b;
        content = content_is b;
      }
        where
          absent_by : n ≡ 43 → ((p : Property) × FirstNamed name b.properties p) ⊎ NoneNamed name b.properties → NoneNamed name b.properties
          absent_by e (inl f) = absurd (omega (arith, found_0 b f.0 f.1))
          absent_by e (inr h) = h

          found_by : n ≡ 0 → ((p : Property) × FirstNamed name b.properties p) ⊎ NoneNamed name b.properties → (p : Property) × FirstNamed name b.properties p
          found_by e (inl f) = f
          found_by e (inr h) = absurd (omega (arith, e, none_43 b h))

  -- ---- the numbers in turn
  abbrev Outcome : Type 0
  Outcome =
      ((IsRow t row → ⊥) × (n ≡ 40))
      ⊎ ((IsRow t row × (InBytes bs r → ⊥) × (n ≡ 41))
      ⊎ ((IsRow t row × InBytes bs r × (IsBody bs r → ⊥) × (n ≡ 42))
      ⊎ (IsRow t row × InBytes bs r × IsBody bs r × ((n ≡ 43) ⊎ (n ≡ 0)))))

  by_body : (i : IsRow t row) (l : InBytes bs r) → Outcome
  by_body i l =
      by_test (exactly body r.properties)
      (λ e.
      let b = exactly_good r.properties body (bytes_take (r.end - r.start) (drop r.start bs) (bytes_drop r.start bs bytes)) e in
      inr (inr (inr (i, l, b, told b (there_or_not name b.properties)))))
      (λ e. inr (inr (inl (
        i,
        l,
        λ b. true≢false (sym (good_exactly r.properties body b) ∙ e),
        number_is i l ∙ ap number_of (no_body_lem body r.properties name e),
      ))))
    where
      told : (b : IsBody bs r) → ((p : Property) × FirstNamed name b.properties p) ⊎ NoneNamed name b.properties → (n ≡ 43) ⊎ (n ≡ 0)
      told b (inl f) = inr (found_0 i l b f.0 f.1)
      told b (inr h) = inl (none_43 i l b h)

  outcome : Outcome
  outcome =
      by_test (has_row t row)
      (λ e.
      by_test (outside (length bs) r)
      (λ f. inr (inl (is e, λ l. true≢false (sym f ∙ is_inside bs r l), ap number_of (sym (beyond bs t row name e (the_row e) f)))))
      (λ f. by_body (is e) (not_outside bs r f)))
      (λ e. inl (is_not e, ap number_of (sym (no_row_lem bs t row name e))))

  empty_part : (f : Found) → (number_of f ≡ 0 → ⊥) → part_of bs f ≡ []
  empty_part (At start stop) h = absurd (h refl)
  empty_part (Refused m) h = refl

  answers_by : Outcome → Answers bs t row name r
  answers_by (inl o) = record {
    no_row = (λ e. o.0, λ h. o.1);
    outside = (λ e. absurd (omega (arith, e, o.1)), λ h. absurd (o.0 h.0));
    no_body = (λ e. absurd (omega (arith, e, o.1)), λ h. absurd (o.0 h.0));
    in_body = λ i l b. absurd (o.0 i);
    empty = empty_part found;
  }
  answers_by (inr (inl o)) = record {
    no_row = (λ e. absurd (omega (arith, e, o.2)), λ h. absurd (h o.0));
    outside = (λ e. (o.0, o.1), λ h. o.2);
    no_body = (λ e. absurd (omega (arith, e, o.2)), λ h. absurd (o.1 h.1));
    in_body = λ i l b. absurd (o.1 l);
    empty = empty_part found;
  }
  answers_by (inr (inr (inl o))) = record {
    no_row = (λ e. absurd (omega (arith, e, o.3)), λ h. absurd (h o.0));
    outside = (λ e. absurd (omega (arith, e, o.3)), λ h. absurd (h.1 o.1));
    no_body = (λ e. (o.0, o.1, o.2), λ h. o.3);
    in_body = λ i l b. absurd (o.2 b);
    empty = empty_part found;
  }
  answers_by (inr (inr (inr o))) = record {
    no_row = (λ e. absurd (neither 40 e (λ z. omega (arith, z)) (λ z. omega (arith, z)) o.3), λ h. absurd (h o.0));
    outside = (λ e. absurd (neither 41 e (λ z. omega (arith, z)) (λ z. omega (arith, z)) o.3), λ h. absurd (h.1 o.1));
    no_body = (λ e. absurd (neither 42 e (λ z. omega (arith, z)) (λ z. omega (arith, z)) o.3), λ h. absurd (h.2 o.2));
    in_body = λ i l b. among i l b;
    empty = empty_part found;
  }
    where
      neither : (m : ℕ) → n ≡ m → (43 ≡ m → ⊥) → (0 ≡ m → ⊥) → (n ≡ 43) ⊎ (n ≡ 0) → ⊥
      neither m e a b (inl f) = a (sym f ∙ e)
      neither m e a b (inr f) = b (sym f ∙ e)

pub looks_up : LooksUp
looks_up bs t row name bytes = answers_by bs t row name bytes (outcome bs t row name bytes)
