-- A plan is written exactly when its rows are right, row by row, and the file is short and has room; and what its forest then is.
use Prim.Native.Nat.{ℕ, zero, suc, ◌+◌, ◌*◌, ◌%◌, ◌^◌, ◌≤◌, ◌<◌}
use native.Mathlib.Omega.{arith}
use mathlib.Core.Path.{◌≡◌, refl, ap, sym, ◌∙◌}
use mathlib.Core.Bool.{true, cond, and-eq-true_iff}
use mathlib.Core.List.{List, [], ◌∷◌}
use mathlib.Core.Logic.{ite}
use native.Mathlib.Decide.{ℕ_discrete}
use lib.Dec.{eqb, leb}
use lib.ListN.{length}
use borrow.Author.Tests.{eq-eqb, ne_eqb, eqb-true, le-leb}
use Rattle.base.specs.Refusals.{no_refusal}
use Rattle.le.specs.Le.{AreBytes}
use Rattle.table.specs.declared.Row.{Row}
use Rattle.table.specs.Table.{row_count, is_plan}
use Rattle.table.proofs.Rests.{length_rows_at}
use Rattle.table.specs.Counts.{count_under}
use Rattle.body.specs.Body.{exactly}
use Rattle.format.specs.Rows.{body_of, all_own_bytes}
use Rattle.base.specs.Lists.{Each}
use Rattle.base.proofs.Lists.{each_map}
use Rattle.base.specs.Refusals.{Refusal}
use Rattle.plan.specs.Plan.{naming, plan_refusal}
use Rattle.emit.specs.Emission.{file_bytes}
use Rattle.emit.proofs.Sizes.{owns, length_nodes_bytes}
use Rattle.emit.proofs.Whole.{length_file_bytes}
use Rattle.writer.specs.Writer.{plan_rows, written_of}
use Rattle.writer.specs.RoundTrip.{AreNumbers}
use Rattle.writer.specs.Writable.{nth_row, IsKnown, rows_naming, RightRow, Writable, WritesExactly, Described, WritableEncodes}
use Rattle.writer.proofs.Order.{Whole}
use Rattle.writer.proofs.Judged.{Fitting, Named, judged_parts, each_judged}
use Rattle.format.proofs.Rows.{is_inside}
use Rattle.format.proofs.Bodies.{good_exactly, exactly_good}
use Rattle.writer.proofs.Ancestors.{parents_are}
use Rattle.format.specs.Layout.{InBytes}
use Rattle.writer.proofs.Plans.{bytes_body, fitting_inside, whole_body, plan_bytes, plan_rows_lem, plan_few, plan_well_formed}
use Rattle.writer.proofs.Writing.{count_few, goes_on, emission_done}
use Rattle.writer.proofs.Written.{number, written_right, rows_few, wide_rows}

-- ---- what holds of each row, by its number
each_at : (P : Row → Type 0) (rs : List Row) → Each P rs → (k : ℕ) → k < length rs → P (nth_row rs k)
each_at P [] h k b = absurd (omega (arith, b))
each_at P (r ∷ rs) h zero b = h.0
each_at P (r ∷ rs) h (suc k) b = each_at P rs h.1 k (omega (arith, b))

pub at_each : (P : Row → Type 0) (rs : List Row) → ((k : ℕ) → k < length rs → P (nth_row rs k)) → Each P rs
at_each P [] h = tt
at_each P (r ∷ rs) h = (h 0 (omega arith), at_each P rs (λ k b. h (suc k) (omega (arith, b))))

-- ---- the rows naming a row
pub naming_filter : (rs : List Row) (k : ℕ) → naming rs k ≡ length (rows_naming rs k)
unfolding count_under
naming_filter [] k = refl
naming_filter (r ∷ rs) k = by (ℕ_discrete r.parent k) (naming_filter rs k)
  where
    by : (d : Dec (r.parent ≡ k)) → naming rs k ≡ length (rows_naming rs k)
        → cond (eqb r.parent k) (suc (naming rs k)) (naming rs k) ≡ length (ite {C = List Row} d (r ∷ rows_naming rs k) (rows_naming rs k))
    by (yes e) ih = rw (eq-eqb r.parent k e) (ap suc ih)
    by (no n) ih = rw (ne_eqb r.parent k n) ih

module _ (all : List Row) where
  named_at : (k : ℕ) (rs : List Row) → Named all k rs → (i : ℕ) → i < length rs → IsKnown (nth_row rs i) → (nth_row rs i).children ≡ naming all (k + i)
  named_at k [] h i b t = absurd (omega (arith, b))
  named_at k (r ∷ rs) h zero b t = h.0 t ∙ ap (naming all) (omega arith)
  named_at k (r ∷ rs) h (suc i) b t = named_at (suc k) rs h.1 i (omega (arith, b)) t ∙ ap (naming all) (omega arith)

  at_named : (k : ℕ) (rs : List Row) → ((i : ℕ) → i < length rs → IsKnown (nth_row rs i) → (nth_row rs i).children ≡ naming all (k + i)) → Named all k rs
  at_named k [] h = tt
  at_named k (r ∷ rs) h =
      (λ t. h 0 (omega arith) t ∙ ap (naming all) (omega arith), at_named (suc k) rs (λ i b t. h (suc i) (omega (arith, b)) t ∙ ap (naming all) (omega arith)))

-- ---- own bytes
owns_all : (s : List ℕ) (rs : List Row) → Each (Whole s) rs → owns s rs ≡ all_own_bytes rs
unfolding owns
owns_all s [] h = refl
owns_all s (r ∷ rs) h = omega (arith, h.0, owns_all s rs h.1)

pub file_long : (flags : ℕ) (s : List ℕ) (rs : List Row) → Each (InBytes s) rs → length (file_bytes flags s rs) ≡ 16 + all_own_bytes rs
file_long flags s rs h =
    omega (arith, length_file_bytes flags s rs, length_nodes_bytes s 0 rs, owns_all s rs (each_map (whole_body s) rs h))

inside_fitting : (s : List ℕ) (r : Row) → InBytes s r → (IsKnown r → exactly (body_of s r) r.properties ≡ true) → Fitting s r
inside_fitting s r i b = (is_inside s r i, b)

-- ---- 20
pub whole_plan : (plan : List ℕ) → is_plan plan ≡ true → length plan ≡ 8 * row_count plan
whole_plan plan e =
    let none = eqb-true (length plan % 8) 0 ((and-eq-true_iff (eqb (length plan % 8) 0) (leb (row_count plan) 1024)).0 e).0 in
    omega (arith, none)

pub plan_is : (plan : List ℕ) (count : ℕ) → length plan ≡ 8 * count → count ≤ 1024 → is_plan plan ≡ true
plan_is plan count whole few = rw (eq-eqb (length plan % 8) 0 (omega (arith, whole)), le-leb (row_count plan) 1024 (omega (arith, whole, few)))

module _ (plan s : List ℕ) (flags room : ℕ) (source : AreBytes s) where
  abbrev rs : List Row
  rs = plan_rows plan

  -- ---- what is written is writable
  is_writable : (written_of plan s flags room).number ≡ 0 → Writable plan s room
  is_writable e =
      let passed = written_right plan s flags room e in
      let few = rows_few plan passed.whole in
      let each = judged_parts s rs passed.right in
      let parents = (parents_are rs few).0 each.0 in
      let long = file_long flags s rs (each_map (fitting_inside s) rs each.1) in
      record {
        count = row_count plan;
        whole = whole_plan plan passed.whole;
        few = count_few plan passed.whole;
        right = λ k b.
            let in_rows : k < length rs = omega (arith, b, length_rows_at plan 0 (row_count plan)) in
            let fitting = each_at (Fitting s) rs each.1 k in_rows in
            record {
              parent = parents k in_rows;
              within = fitting_inside s (nth_row rs k) fitting;
              body = λ t. exactly_good (nth_row rs k).properties (body_of s (nth_row rs k)) (bytes_body s (nth_row rs k) source) (fitting.1 t);
              children = λ t. named_at rs 0 rs each.2 k in_rows t ∙ ap (naming rs) (omega arith) ∙ naming_filter rs k;
            };
        short = omega (arith, long, passed.short);
        fits = omega (arith, long, passed.fits);
      }

  -- ---- what is writable is written
  module _ (w : Writable plan s room) where
    rows_counted : length rs ≡ w.count
    rows_counted = omega (arith, length_rows_at plan 0 (row_count plan), w.whole)

    pub is_plan_lem : is_plan plan ≡ true
    is_plan_lem = plan_is plan w.count w.whole w.few

    pub few : length rs ≤ 1024
    few = omega (arith, rows_counted, w.few)

    at : (k : ℕ) → k < length rs → RightRow s rs k
    at k b = w.right k (omega (arith, b, rows_counted))

    inside : Each (InBytes s) rs
    inside = at_each (InBytes s) rs (λ k b. (at k b).within)

    fitting : Each (Fitting s) rs
    fitting = at_each (Fitting s) rs (λ k b. inside_fitting s (nth_row rs k) (at k b).within (λ t. good_exactly (nth_row rs k).properties (body_of s (nth_row rs k)) ((at k b).body t)))

    named : Named rs 0 rs
    named = at_named rs 0 rs (λ k b t. (at k b).children t ∙ sym (naming_filter rs k) ∙ ap (naming rs) (omega arith))

    is_judged_lem : plan_refusal s rs ≡ no_refusal
    unfolding plan_refusal
    is_judged_lem = each_judged s rs 0 [] rs ((parents_are rs few).1 (λ k b. (at k b).parent)) fitting named

    pub right : (plan_refusal s rs).number ≡ 0
    right = ap (λ (j : Refusal). j.number) is_judged_lem

    pub long : length (file_bytes flags s rs) ≡ 16 + all_own_bytes rs
    long = file_long flags s rs inside

    is_written : (written_of plan s flags room).number ≡ 0
    is_written = ap number (goes_on plan s flags room is_plan_lem right ∙ emission_done flags s rs room (16 + all_own_bytes rs) long w.short w.fits)

    -- ---- and its forest
    described : AreNumbers plan → flags < 256 ^ 4 → Described plan s flags
    described numbers bits =
        let wide = wide_rows plan 0 _ numbers in
        let low = each_map (λ r n. n.low) rs wide in
        record {
          rows = plan_rows_lem flags s rs few right low;
          well_formed = plan_well_formed flags s rs few right bits source wide (omega (arith, long, w.short));
          few = plan_few flags s rs few right low;
          size = sym (ap length (plan_bytes flags s rs few right)) ∙ long;
        }

pub writes_exactly : WritesExactly
writes_exactly plan s flags room source = (is_writable plan s flags room source, is_written plan s flags room source)

pub writable_encodes : WritableEncodes
writable_encodes plan s flags room numbers source bits w = described plan s flags room source w numbers bits
