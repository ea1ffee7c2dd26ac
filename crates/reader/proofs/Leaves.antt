-- What a reading leaves in the table, number by number; and that none is refused with 8.
use Prim.Native.Nat.{ℕ, ◌+◌, ◌-◌, ◌*◌, ◌≤◌, ◌<◌}
use native.Mathlib.Omega.{arith}
use mathlib.Core.Path.{◌≡◌, refl, ap, sym, subst, ◌∙◌}
use mathlib.Core.Bool.{true, false}
use mathlib.Core.List.{List, ◌++◌}
use lib.Dec.{ltb}
use lib.ListN.{length, drop, replicate, length-append, length-replicate, get_or-replicate, get_or-append}
use lib.Seq.{drop_at, get_or-append-add}
use borrow.Author.Tests.{lt-leb}
use Rattle.le.specs.Le.{AreBytes}
use Rattle.base.proofs.Tests.{by_test}
use Rattle.table.specs.declared.Row.{Row}
use Rattle.table.specs.Table.{has_room, zeroed, cleared, flat, filled}
use Rattle.table.proofs.Rows.{length_flat}
use Rattle.table.proofs.Clearing.{length_cleared, length_filled, fits_has_room}
use Rattle.walk.specs.Walk.{limited}
use Rattle.walk.proofs.Depth.{never_too_deep}
use Rattle.reader.specs.Reading.{Reading}
use Rattle.reader.specs.Reading.{Accepted, Refused}
use Rattle.reader.specs.Reading.{checked, verdict, reading_of, table_after}
use Rattle.reader.specs.Leaves.{number_in, TableAtExit, LeavesTable, NoRefusal8}
use Rattle.reader.proofs.Exactly.{in_room, has_room_lem}
use Rattle.reader.proofs.Accepted.{nodes_are, table_left_lem, few}
use Rattle.reader.proofs.Numbers.{number_of, by_stage, checked_told}
use Rattle.reader.proofs.Whole.{short_table}

-- ---- zeros, for any count, so that they are never written out
zero_in : (n : ℕ) (front back : List ℕ) (i : ℕ) → length front ≤ i → i < length front + n → number_in (front ++ replicate n 0 ++ back) i ≡ 0
zero_in n front back i h b =
    let place : i ≡ length front + (i - length front) = omega arith in
    let zeros : List ℕ = replicate n 0 in
    get_or-append (front ++ zeros) back 1 i (omega (arith, length-append front zeros, length-replicate {A = ℕ} n 0))
    ∙ ap (number_in (front ++ zeros)) place
    ∙ get_or-append-add front zeros (i - length front) 1
    ∙ get_or-replicate n (i - length front) 0 1 (omega arith)

zeroed_in : (n : ℕ) (t : List ℕ) (i : ℕ) → i < n → number_in (zeroed n t) i ≡ 0
unfolding zeroed
zeroed_in n t i b = get_or-append (replicate n 0) (drop n t) 1 i (omega (arith, length-replicate {A = ℕ} n 0)) ∙ get_or-replicate n i 0 1 b

zeroed_past : (n : ℕ) (t : List ℕ) → drop n (zeroed n t) ≡ drop n t
unfolding zeroed
zeroed_past n t = drop_at (replicate n 0) (drop n t) n (length-replicate n 0)

-- rows, zeros up to a count, and the rest
filled_past : (n : ℕ) (front back : List ℕ) → length front ≤ n → drop n (front ++ replicate (n - length front) 0 ++ back) ≡ back
filled_past n front back h =
    let zeros : List ℕ = replicate (n - length front) 0 in
    drop_at (front ++ zeros) back n (length-append front zeros ∙ omega (arith, length-replicate {A = ℕ} (n - length front) 0))

module _ (t : List ℕ) (rs : List Row) (few : length rs ≤ 1024) where
  flat_long : length rs * 8 ≡ length (flat rs)
  flat_long = sym (length_flat rs)

  rows_past : drop 8192 (filled rs t) ≡ drop 8192 t
  unfolding filled
  rows_past = rw flat_long (filled_past 8192 (flat rs) (drop 8192 t) (omega (arith, length_flat rs)))

  rows_zero : (i : ℕ) → 8 * length rs ≤ i → i < 8192 → number_in (filled rs t) i ≡ 0
  unfolding filled
  rows_zero i h b = rw flat_long (zero_in (8192 - length (flat rs)) (flat rs) (drop 8192 t) i (omega (arith, length_flat rs)) (omega (arith, length_flat rs)))

-- ---- the reading
module _ (s t : List ℕ) where
  no_room_lem : length t < 8192 → has_room t ≡ false
  unfolding has_room
  no_room_lem h = lt-leb 8192 (length t) h

  left_cleared : has_room t ≡ true → {n place : ℕ} → verdict s ≡ Refused n place → table_after s t ≡ zeroed 8192 t
  unfolding table_after cleared
  left_cleared h e = rw (h, e) (rw h)

  long_zeroed : has_room t ≡ true → length (zeroed 8192 t) ≡ length t
  unfolding cleared
  long_zeroed h = rw h at (length_cleared t)

  module _ (bytes : AreBytes s) where
    by_verdict : (P : List ℕ → Type 0) → (has_room t ≡ false → P t)
        → (has_room t ≡ true → P (zeroed 8192 t)) → (has_room t ≡ true → (rs : List Row) → length rs ≤ 1024 → P (filled rs t)) → P (table_after s t)
    by_verdict P short clear fill =
        by_test (has_room t)
        (λ h. by (verdict s) refl h)
        (λ h. subst P (short_table s t h).1 (short h))
      where
        by : (r : Reading) → verdict s ≡ r → has_room t ≡ true → P (table_after s t)
        by (Accepted a) e h = subst P (sym (table_left_lem s e t h)) (fill h (limited s).rows (few s e bytes))
        by (Refused n place) e h = subst P (sym (left_cleared h e)) (clear h)

    leaves : TableAtExit s t
    leaves = record {
      untouched = λ h. let short = short_table s t (no_room_lem h) in (sym short.0, sym short.1);
      refused = λ h n place e i b. ap (λ u. number_in u i) (left_cleared (fits_has_room t h) (sym (in_room s t (fits_has_room t h)) ∙ e)) ∙ zeroed_in 8192 t i b;
      accepted = λ a e i h b.
          let in-it = has_room_lem s t e in
          let v = sym (in_room s t in-it) ∙ e in
          ap (λ u. number_in u i) (table_left_lem s v t in-it)
          ∙ rows_zero t (limited s).rows (few s v bytes) i (omega (arith, h, nodes_are s v)) b;
      past = by_verdict (λ u. drop 8192 u ≡ drop 8192 t) (λ h. refl) (λ h. zeroed_past 8192 t) (λ h rs f. rows_past t rs f);
      long = by_verdict (λ u. length u ≡ length t) (λ h. refl) long_zeroed (λ h rs f. length_filled t rs h f);
    }

pub leaves_table : LeavesTable
leaves_table = leaves

-- ---- 8
limited_not : (s : List ℕ) → (limited s).number ≡ 8 → ⊥
unfolding limited
limited_not s =
    by_test (ltb 16777216 (length s)) (λ t. rw t (λ e. omega (arith, e))) (λ t. rw t (never_too_deep s))

pub no_refusal8 : NoRefusal8
unfolding reading_of verdict
no_refusal8 s t place e =
    by_test (has_room t)
    (λ h.
    by_stage (λ m. m ≡ 8 → ⊥) (limited s).number (limited s).at (checked s (limited s).rows) (λ r. limited_not s)
    (λ f z. omega (arith, (checked_told s (limited s).rows 8 place f).0)) (rw h at e) refl)
    (λ h. let z : ◌≡◌ {A = ℕ} 1 8 = ap number_of (rw h at e) in omega (arith, z))
