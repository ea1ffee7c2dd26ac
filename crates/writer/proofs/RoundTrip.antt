-- Demand 2, second half: write after read, and read after write.
use Rattle.std.specs.Prelude.{None}
use Prim.Native.Nat.{ℕ, ◌≤◌, ◌<◌}
use native.Mathlib.Omega.{arith}
use mathlib.Core.Path.{◌≡◌, refl, ap, sym, subst, ◌∙◌}
use mathlib.Core.Logic.{◌⊎◌, inl, inr}
use mathlib.Core.List.{List, [], ◌∷◌, ◌++◌, map, append-nil}
use lib.ListN.{length, take, drop}
use lib.Seq.{take_at}
use Rattle.base.specs.Refusals.{no_refusal}
use Rattle.base.proofs.Tests.{by_test}
use Rattle.table.specs.declared.Row.{Row}
use Rattle.table.specs.Table.{no_parent, has_room, rows_at, row_count, first_rows, flat, filled}
use Rattle.table.proofs.Plans.{rows_filled, first_filled, count_flat, plan_flat, rows_flat}
use Rattle.format.specs.Forest.{Forest, count, encode, file_header, file_of}
use Rattle.format.specs.Rows.{rows_of, body_of}
use Rattle.base.specs.Lists.{Each}
use Rattle.format.specs.Layout.{Few}
use Rattle.base.proofs.Lists.{each_map}
use Rattle.format.proofs.Headers.{length_file_header, file_header_flags}
use Rattle.format.proofs.Rows.{length_rows}
use Rattle.walk.specs.Walk.{walk_of, limited, flags_of}
use Rattle.walk.proofs.Laws.{limited_is}
use Rattle.walk.proofs.Complete.{complete, others, walked_back}
use Rattle.base.specs.Refusals.{Refusal}
use Rattle.plan.specs.Plan.{plan_refusal}
use Rattle.emit.specs.Emission.{Written}
use Rattle.emit.specs.Emission.{writing_done, file_bytes, output_left}
use Rattle.valid.specs.Valid.{Valid}
use Rattle.reader.specs.declared.Account.{Account}
use Rattle.reader.specs.Reading.{Accepted, Refused}
use Rattle.reader.specs.Reading.{reading_of, table_after, verdict, checked}
use Rattle.reader.proofs.Accepted.{nodes_are, flags_are, table_left_lem}
use Rattle.reader.proofs.Exactly.{verdict_valid, in_room, has_room_lem, accepted_parts, answers_the_rules}
use Rattle.reader.proofs.Numbers.{number_of, by_stage, checked_told}
use Rattle.table.proofs.Rests.{length_rows_at}
use Rattle.reader.proofs.Whole.{short_table}
use Rattle.writer.specs.Writer.{plan_rows, written_of, output_after}
use Rattle.writer.specs.Forest.{forest_of, laid_out}
use Rattle.writer.specs.RoundTrip.{WriteAfterRead, Wrote, Encodes, WrittenEncodes, ReadsBack, ReadAfterWrite, FewRefusals}
use Rattle.writer.proofs.Judged.{Parents, Named, each_judged, parents_right, named_counts}
use Rattle.writer.proofs.Rebuilt.{Rebuilt, rebuilt}
use Rattle.writer.proofs.Placed.{placed_tops, over_self, rows_parents}
use Rattle.writer.proofs.Plans.{Wide, length_laid, plan_bytes, plan_rows_lem, plan_bodies, plan_few, plan_well_formed}
use Rattle.writer.proofs.Writing.{goes_on, emission_done}
use Rattle.writer.proofs.Written.{number, Passed, written_right, rows_few, wide_rows}

-- ---- a written file is the encoding of the plan's forest
module _ (plan s : List ℕ) (flags : ℕ) (file : List ℕ) (w : Wrote plan s flags file) where
  abbrev rs : List Row
  rs = plan_rows plan

  abbrev bytes : List ℕ
  bytes = file_bytes flags s rs

  right : Passed plan s flags (length w.out)
  right = written_right plan s flags (length w.out) (ap number w.success)

  long : length bytes ≡ length file
  long = ap (λ (v : Written). v.length) (sym right.is ∙ w.success)

  few : length rs ≤ 1024
  few = rows_few plan right.whole

  wide : Each Wide rs
  wide = wide_rows plan 0 (row_count plan) w.numbers

  low : Each (λ r. r.low < 4294967296) rs
  low = each_map (λ r x. x.low) rs wide

  put : output_after plan s flags w.out ≡ bytes ++ drop (length bytes) w.out
  unfolding output_after output_left
  put = rw w.success

  is_bytes : file ≡ bytes
  is_bytes = w.bytes ∙ ap (take (length file)) put ∙ take_at bytes (drop (length bytes) w.out) (length file) long

  is_file : file ≡ file_of flags (forest_of s rs)
  is_file = is_bytes ∙ plan_bytes flags s rs few right.right

  pub short : length file ≤ 16777216
  short = omega (arith, long, right.short)

  pub encodes : Encodes plan s flags file
  encodes = record {
    encoding = is_file;
    well_formed = plan_well_formed flags s rs few right.right w.flag_bits w.source wide right.short;
    few = plan_few flags s rs few right.right low;
    short = short;
    rows = plan_rows_lem flags s rs few right.right low;
    bodies = ap (λ b. map (body_of b) (laid_out 16 rs)) is_bytes ∙ plan_bodies flags s rs few right.right;
  }

pub written_encodes : WrittenEncodes
written_encodes plan s flags file w = encodes plan s flags file w

-- ---- read after write
module _ (plan s : List ℕ) (flags : ℕ) (file t : List ℕ) (w : Wrote plan s flags file) where
  abbrev f : Forest
  f = forest_of s (plan_rows plan)

  enc : Encodes plan s flags file
  enc = encodes plan s flags file w

  is_walk : limited file ≡ walk_of file
  is_walk = (limited_is file).0 (short plan s flags file w)

  file_flags : flags_of file ≡ flags
  unfolding file_of
  file_flags = ap flags_of enc.encoding ∙ file_header_flags (count f) flags (encode f) enc.well_formed.0

  -- where the walk accepts it, its rows are those of the plan's forest
  walk_rows : (walk_of file).number ≡ 0 → (walk_of file).rows ≡ rows_of f
  walk_rows e =
      ap (λ b. (walk_of b).rows) enc.encoding ∙ walked_back flags f enc.well_formed (ap (λ b. (walk_of b).number) (sym enc.encoding) ∙ e)

  pub reads_back_lem : (a : Account) → reading_of file t ≡ Accepted a → ReadsBack plan s flags file t a
  reads_back_lem a r =
      let room = has_room_lem file t r in
      let v : verdict file ≡ Accepted a = sym (in_room file t room) ∙ r in
      let parts = accepted_parts file v in
      let walked : (limited file).rows ≡ rows_of f = ap (λ x. x.rows) is_walk ∙ walk_rows (ap (λ x. x.number) (sym is_walk) ∙ parts.0) in
      let n = nodes_are file v in
      let all : rows_at (table_after file t) 0 a.nodes ≡ laid_out 16 (plan_rows plan)
      = ap (λ u. rows_at u 0 a.nodes) (table_left_lem file v t room) ∙ ap (rows_at (filled (limited file).rows t) 0) n
      ∙ ap (λ l. rows_at (filled l t) 0 (length l)) walked
      ∙ rows_filled t (rows_of f) room (omega (arith, length_rows f no_parent 0 16, enc.few)) ∙ enc.rows in
      record {
        flags_back = flags_are file v ∙ file_flags;
        nodes = n ∙ ap length (walked ∙ enc.rows) ∙ length_laid 16 (plan_rows plan) ∙ sym (length_rows_at plan 0 (row_count plan));
        rows = all;
        bodies = ap (map (body_of file)) all ∙ enc.bodies;
      }

  -- ---- its refusals
  abbrev Told : ℕ → Type 0
  Told n = (n ≡ 1) ⊎ ((n ≡ 6) ⊎ ((13 ≤ n) × (n ≤ 17)))

  not_walked : ((walk_of file).number ≡ 0 → ⊥) → (walk_of file).number ≡ 6
  not_walked h =
      by (others flags f enc.well_formed (λ both. h (complete file flags f (record { well_formed = enc.well_formed; placed = both.0; few = both.1; bytes = enc.encoding })).0))
    where
      by : ((walk_of (file_of flags f)).number ≡ 6) ⊎ (((walk_of (file_of flags f)).number ≡ 7) × (Few f → ⊥)) → (walk_of file).number ≡ 6
      by (inl e) = ap (λ b. (walk_of b).number) enc.encoding ∙ e
      by (inr e) = absurd (e.1 enc.few)

  verdict_told : {n place : ℕ} → verdict file ≡ Refused n place → Told n
  unfolding verdict
  verdict_told {n} {place} r =
      let number = ap (λ x. x.number) is_walk in
      by_stage Told (limited file).number (limited file).at (checked file (limited file).rows) (λ h. inr (inl (number ∙ not_walked (λ z. h (number ∙ z)))))
      (λ c. inr (inr (checked_told file (limited file).rows n place c)))
      r

  pub refused_told : (n place : ℕ) → reading_of file t ≡ Refused n place → Told n
  refused_told n place r =
      by_test (has_room t)
      (λ h. verdict_told (sym (in_room file t h) ∙ r))
      (λ h. inl (ap number_of (sym r ∙ sym (short_table file t h).0)))

pub read_after_write : ReadAfterWrite
read_after_write plan s flags file t a w r = reads_back_lem plan s flags file t w a r

pub few_refusals : FewRefusals
few_refusals plan s flags file t n place w r = refused_told plan s flags file t w n place r

-- ---- write after read
module _ (s : List ℕ) (flags : ℕ) (f : Forest) (v : Valid flags f) (e : s ≡ file_of flags f) where
  abbrev rows_of_lem : List Row
  rows_of_lem = rows_of f

  forest_few : length rows_of_lem ≤ 1024
  forest_few = omega (arith, length_rows f no_parent 0 16, v.few)

  whole : s ≡ file_header (count f) flags ++ (encode f ++ [])
  unfolding file_of
  whole = e ∙ ap (λ l. file_header (count f) flags ++ l) (sym (append-nil (encode f)))

  back : Rebuilt s f no_parent 0 16
  back = rebuilt s f (file_header (count f) flags) [] no_parent 0 16 v.well_formed.2 whole (sym (length_file_header (count f) flags)) (λ b. omega arith) (omega (arith, v.few))

  parents : Parents 0 [] rows_of_lem
  parents =
      subst (Parents 0 []) (append-nil rows_of_lem)
      (rows_parents f None no_parent 0 0 16 [] [] [] v.well_formed.2 (placed_tops f None v.placed) (refl, refl) (λ b. omega arith) (omega arith) (over_self 0 []) (omega (arith, v.few)) (λ then u. tt))

  named : Named rows_of_lem 0 rows_of_lem
  named =
      let path = parents_right 0 [] rows_of_lem parents tt (omega (arith, forest_few)) in
      (named_counts rows_of_lem 0 (no_parent ∷ []) rows_of_lem path (λ b. omega arith, tt) (omega (arith, forest_few)) (λ j a b. refl)).1 back.counts

  pub is_right : plan_refusal s rows_of_lem ≡ no_refusal
  unfolding plan_refusal
  is_right = each_judged s rows_of_lem 0 [] rows_of_lem parents back.fitting named

  pub same_bytes : file_bytes flags s rows_of_lem ≡ s
  same_bytes = plan_bytes flags s rows_of_lem forest_few (ap (λ (j : Refusal). j.number) is_right) ∙ ap (file_of flags) back.same ∙ sym e

output_done : (plan s : List ℕ) (flags : ℕ) (out : List ℕ) → written_of plan s flags (length out) ≡ writing_done (length s) → file_bytes flags s (plan_rows plan) ≡ s
    → output_after plan s flags out ≡ s ++ drop (length s) out
unfolding output_after output_left
output_done plan s flags out w e = rw (w, e)

pub write_after_read : WriteAfterRead
write_after_read s t out a are r room =
    let valid = verdict_valid s are (sym (in_room s t (has_room_lem s t r)) ∙ r) in
    let f = valid.forest in
    let answer = answers_the_rules s t valid.flags f a valid.valid valid.bytes r in
    let rs = rows_of f in
    let plan : first_rows (table_after s t) a.nodes ≡ flat rs
    = ap (λ u. first_rows u a.nodes) answer.2 ∙ ap (first_rows (filled rs t)) answer.1.nodes ∙ first_filled t rs in
    let few = forest_few s valid.flags f valid.valid valid.bytes in
    let rows_are : plan_rows (flat rs) ≡ rs = ap (rows_at (flat rs) 0) (count_flat rs) ∙ rows_flat rs in
    let right : (plan_refusal s (plan_rows (flat rs))).number ≡ 0
    = ap (λ l. (plan_refusal s l).number) rows_are ∙ ap (λ (j : Refusal). j.number) (is_right s valid.flags f valid.valid valid.bytes) in
    let file : file_bytes valid.flags s (plan_rows (flat rs)) ≡ s = ap (file_bytes valid.flags s) rows_are ∙ same_bytes s valid.flags f valid.valid valid.bytes in
    let short : length s ≤ 16777216 = subst (λ l. length l ≤ 16777216) (sym valid.bytes) valid.valid.short in
    let written : written_of (flat rs) s valid.flags (length out) ≡ writing_done (length s)
    = goes_on (flat rs) s valid.flags (length out) (plan_flat rs few) right ∙ emission_done valid.flags s (plan_rows (flat rs)) (length out) (length s) (ap length file) short room in
    let output = output_done (flat rs) s valid.flags out written file in (
      ap (λ p. written_of p s a.flags (length out)) plan ∙ ap (λ g. written_of (flat rs) s g (length out)) answer.0 ∙ written,
      ap (λ p. output_after p s a.flags out) plan ∙ ap (λ g. output_after (flat rs) s g out) answer.0 ∙ output,
    )
