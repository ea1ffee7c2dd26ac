-- One trimming and one answer of the tally, from the same marks: they answer the same, and go on from the same marks.
use Prim.Native.Nat.{ℕ, suc, ◌+◌, ◌≤◌}
use native.Mathlib.Omega.{arith}
use mathlib.Core.Path.{◌≡◌, refl, ap, sym, ◌∙◌}
use mathlib.Core.Logic.{◌⊎◌, inl, inr}
use mathlib.Core.Bool.{Bool, true, false, true≢false}
use mathlib.Core.Option.{some}
use mathlib.Core.List.{List}
use lib.Dec.{leb, ltb}
use lib.ListN.{length, get_or, set, drop}
use lib.Seq.{take-append_seam}
use borrow.Author.Tests.{ltb-true, ltb-false, leb-false, lt-ltb, le-ltb, le-leb, lt-leb, ne_eqb}
use Rattle.base.proofs.Tests.{by_test}
use Rattle.kinds.specs.Kinds.{is_known}
use Rattle.table.specs.declared.Row.{Row}
use Rattle.table.specs.Table.{no_parent, blank, has_room}
use Rattle.table.proofs.Clearing.{has_room_fits, fits_has_room}
use Rattle.format.specs.Forest.{Forest, nodes, file_of}
use Rattle.format.specs.Rows.{rows_of, own_bytes}
use Rattle.format.proofs.Rows.{length_rows}
use Rattle.links.specs.Links.{linked}
use Rattle.valid.specs.Valid.{Valid}
use Rattle.reader.specs.declared.Account.{Account}
use Rattle.reader.specs.Reading.{Accepted}
use Rattle.reader.specs.Reading.{ruled, account_of, reading_of}
use Rattle.reader.proofs.Exactly.{valid_rows, valid_verdict, in_room, answers_the_rules}
use Rattle.reader.proofs.Whole.{short_table}
use Rattle.emit.specs.Emission.{Written}
use Rattle.emit.specs.Emission.{refused_writing, writing_done, output_left}
use Rattle.removal.specs.Trimmer.{removal_of, new_file, trimmed_of, trimmed_output, trimmed_table}
use Rattle.removal.specs.Tally.{Tallied, refused_tally, by_row, file_left, tally_step}
use Rattle.removal.specs.RemovalSequence.{Trimming, answer_to, file_from, fed_by, IsRead, Removable, Goes, Leaves}
use Rattle.removal.proofs.Marked.{Marked, bare, kept, marks}
use Rattle.removal.proofs.Marking.{At, stands_at, Stands, numbered_at, numbered_none, unmarked_marks, at_left, kind_at, kind_left, mark, bare_mark, marks_mark, own_at, length_mark}
use Rattle.removal.proofs.StillValid.{valid_kept, length_file}
use Rattle.removal.proofs.TallyFile.{tally_left}
use Rattle.removal.proofs.Trimmed.{new_file_lem, one_goes, none_goes}

-- ---- a valid forest's file is read
abbrev pub account_for : (flags : ℕ) → Forest → Account
account_for flags f = let s = file_of flags f in account_of s (rows_of f) (ruled s (rows_of f) (rows_of f)) (linked s (rows_of f))

pub is_read : (flags : ℕ) (f : Forest) → Valid flags f → IsRead (file_of flags f) (rows_of f) (account_for flags f)
is_read flags f v = record {
  accepts = reads;
  nodes = refl;
  table = λ t h. (answers_the_rules (file_of flags f) t flags f (account_for flags f) v refl (reads t h)).2;
}
  where
    reads : (t : List ℕ) → 8192 ≤ length t → reading_of (file_of flags f) t ≡ Accepted (account_for flags f)
    reads t h = in_room (file_of flags f) t (fits_has_room t h) ∙ valid_verdict (file_of flags f) flags f v refl

-- ---- a table's length
no_room_lem : (t : List ℕ) → has_room t ≡ false → ltb (length t) 8192 ≡ true
unfolding has_room
no_room_lem t h = lt-ltb (length t) 8192 (leb-false 8192 (length t) h)

some_room : (t : List ℕ) → has_room t ≡ true → ltb (length t) 8192 ≡ false
some_room t h = le-ltb (length t) 8192 (has_room_fits t h)

-- ---- the file after an answer
module _ (s : List ℕ) (c : Trimming) where
  same_file : (n place : ℕ) → answer_to s c ≡ refused_writing (suc n) place → file_from s c ≡ s
  same_file n place e = rw (e, ne_eqb (suc n) 0 (λ z. omega (arith, z)))

  written_file : answer_to s c ≡ writing_done (length (new_file s c.row)) → file_from s c ≡ new_file s c.row
  unfolding trimmed_output output_left
  written_file e = rw e (take-append_seam (new_file s c.row) _)

  leaves_refused : (n place : ℕ) → answer_to s c ≡ refused_writing (suc n) place → Leaves s c
  unfolding trimmed_output output_left trimmed_table
  leaves_refused n place e = record {
    output = rw (e, ne_eqb (suc n) 0 (λ z. omega (arith, z)));
    table = rw (e, ne_eqb (suc n) 0 (λ z. omega (arith, z)));
  }

  leaves_written : answer_to s c ≡ writing_done (length (new_file s c.row)) → Leaves s c
  unfolding trimmed_output output_left trimmed_table
  leaves_written e = record {
    output = rw (e, take-append_seam (new_file s c.row) (drop (length (new_file s c.row)) c.output));
    table = rw (e, take-append_seam (new_file s c.row) (drop (length (new_file s c.row)) c.output));
  }

-- ---- the length without a node's own bytes
pub shorter : (flags : ℕ) (m : Marked) {k i : ℕ} (a : At m false k i)
    → length (file_of flags (kept (mark a))) + own_bytes (get_or (rows_of (kept m)) k blank) ≡ length (file_of flags (kept m))
shorter flags m a = omega (arith, length_mark a, own_at a no_parent 0 16 refl, length_file flags (kept (mark a)), length_file flags (kept m))

-- ---- one step of both
pub record Step (flags : ℕ) (m : Marked) (c : Trimming) : Type 0 where
  pub after : Marked
  pub same : bare after ≡ bare m
  pub answer : answer_to (file_of flags (kept m)) c ≡ (tally_step (file_of flags (bare m)) (rows_of (bare m)) (marks m) (fed_by c)).answer
  pub marked : (tally_step (file_of flags (bare m)) (rows_of (bare m)) (marks m) (fed_by c)).marks ≡ marks after
  pub file : file_from (file_of flags (kept m)) c ≡ file_of flags (kept after)
  pub goes : Goes (file_of flags (kept m)) c
  pub leaves : Leaves (file_of flags (kept m)) c

module _ (flags : ℕ) (m : Marked) (v : Valid flags (bare m)) (c : Trimming) where
  abbrev s : List ℕ
  s = file_of flags (kept m)

  abbrev rows : List Row
  rows = rows_of (kept m)

  abbrev told : Tallied
  told = tally_step (file_of flags (bare m)) (rows_of (bare m)) (marks m) (fed_by c)

  abbrev k : ℕ
  k = c.row

  valid : Valid flags (kept m)
  valid = valid_kept flags m v

  length_left : length rows ≡ nodes (kept m)
  length_left = length_rows (kept m) no_parent 0 16

  -- a refusal of both
  refuse : (n : ℕ) → answer_to s c ≡ refused_writing (suc n) 0 → told ≡ refused_tally (suc n) (marks m) → (Removable s rows c → ⊥) → Step flags m c
  refuse n a t stays = record {
    after = m;
    same = refl;
    answer = a ∙ ap (λ (x : Tallied). x.answer) (sym t);
    marked = ap (λ (x : Tallied). x.marks) t;
    file = same_file s c n 0 a;
    goes = record {
      rows = rows;
      account = account_for flags (kept m);
      read = is_read flags (kept m) valid;
      exactly = (λ e. absurd (omega (arith, ap (λ (w : Written). w.number) (sym a) ∙ e)), λ r. absurd (stays r));
      gone = same_file s c n 0 a ∙ rw (a, ne_eqb (suc n) 0 (λ z. omega (arith, z))) (sym (none_goes flags (kept m) valid));
    };
    leaves = leaves_refused s c n 0 a;
  }

  short : has_room c.table ≡ false → Step flags m c
  unfolding trimmed_of tally_step
  short h =
      let less = no_room_lem c.table h in
      refuse 0 (rw (← (short_table s c.table h).0)) (rw less) (λ r. omega (arith, r.table, ltb-true (length c.table) 8192 less))

  module _ (h : has_room c.table ≡ true) where
    trimmed : answer_to s c ≡ removal_of rows k (length (new_file s k)) (length c.output)
    unfolding trimmed_of
    trimmed = rw (in_room s c.table h, valid_verdict s flags (kept m) valid refl, valid_rows s flags (kept m) valid refl)

    none_there : nodes (kept m) ≤ k → Step flags m c
    unfolding tally_step
    none_there l =
        refuse 29 (trimmed ∙ rw (le-leb (length rows) k (omega (arith, length_left))))
        (rw (some_room c.table h, numbered_none 0 (marks m) k (omega (arith, unmarked_marks m))))
        (λ r. omega (arith, r.there, length_left))

    module _ {z : Bool} {i : ℕ} (a : At m z k i) where
      there : leb (length rows) k ≡ false
      there = lt-leb (length rows) k (omega (arith, at_left a, length_left))

      told_of : told ≡ by_row (some i) (file_of flags (bare m)) (rows_of (bare m)) (marks m) (length c.output)
      unfolding tally_step
      told_of =
          rw (some_room c.table h, numbered_at a 0)
          (ap (λ j. by_row (some j) (file_of flags (bare m)) (rows_of (bare m)) (marks m) (length c.output)) (omega arith))

      kind_old : is_known (get_or (rows_of (bare m)) i blank).kind ≡ z
      kind_old = kind_at a v.well_formed.2 no_parent 0 16

      kind_new : is_known (get_or rows k blank).kind ≡ z
      kind_new = kind_left a v.well_formed.2 no_parent 0 16

    known_there_lem : {i : ℕ} → At m true k i → Step flags m c
    known_there_lem a = refuse 30 (trimmed ∙ rw (there a, kind_new a)) (told_of a ∙ rw (kind_old a)) (λ r. true≢false (sym (kind_new a) ∙ r.unknown))

    module _ {i : ℕ} (a : At m false k i) where
      new : new_file s k ≡ file_of flags (kept (mark a))
      new = new_file_lem flags m v a

      -- the tally's file with the mark
      tally_new : file_left (file_of flags (bare m)) (rows_of (bare m)) (set (marks m) i true) ≡ file_of flags (kept (mark a))
      tally_new = tally_left flags (bare m) v (mark a) _ (bare_mark a) (marks_mark a)

      answered : answer_to s c ≡ removal_of rows k (length (file_of flags (kept (mark a)))) (length c.output)
      answered = trimmed ∙ ap (λ l. removal_of rows k (length l) (length c.output)) new

      no_output : ltb (length c.output) (length (file_of flags (kept (mark a)))) ≡ true → Step flags m c
      no_output t =
          refuse 31 (answered ∙ rw (there a, kind_new a, t)) (told_of a ∙ rw (kind_old a, tally_new, t))
          (λ r. omega (arith, r.output, shorter flags m a, ltb-true (length c.output) (length (file_of flags (kept (mark a)))) t))

      removed : ltb (length c.output) (length (file_of flags (kept (mark a)))) ≡ false → Step flags m c
      removed t =
          let answer : answer_to s c ≡ writing_done (length (file_of flags (kept (mark a)))) = answered ∙ rw (there a, kind_new a, t) in
          let both : told ≡ record { answer = writing_done (length (file_of flags (kept (mark a)))); marks = set (marks m) i true }
          = told_of a ∙ rw (kind_old a, tally_new, t) in
          let written = written_file s c (answer ∙ ap (λ l. writing_done (length l)) (sym new)) ∙ new in
          record {
            after = mark a;
            same = bare_mark a;
            answer = answer ∙ ap (λ (x : Tallied). x.answer) (sym both);
            marked = ap (λ (x : Tallied). x.marks) both ∙ sym (marks_mark a);
            file = written;
            goes = record {
              rows = rows;
              account = account_for flags (kept m);
              read = is_read flags (kept m) valid;
              exactly = (
                λ e. record {
                  there = omega (arith, at_left a, length_left);
                  unknown = kind_new a;
                  table = has_room_fits c.table h;
                  output = omega (arith, shorter flags m a, ltb-false (length c.output) (length (file_of flags (kept (mark a)))) t);
                },
                λ r. ap (λ (w : Written). w.number) answer,
              );
              gone = written ∙ rw answer (sym (one_goes flags m v a));
            };
            leaves = leaves_written s c (answer ∙ ap (λ l. writing_done (length l)) (sym new));
          }

    by_node : {z : Bool} {i : ℕ} → At m z k i → Step flags m c
    by_node {z} a = go z a
      where
        go : (b : Bool) {i : ℕ} → At m b k i → Step flags m c
        go true x = known_there_lem x
        go false x = by_test (ltb (length c.output) (length (file_of flags (kept (mark x))))) (no_output x) (removed x)

    by_row_lem : Stands m k ⊎ (nodes (kept m) ≤ k) → Step flags m c
    by_row_lem (inl st) = by_node st.stands
    by_row_lem (inr l) = none_there l

  pub step : Step flags m c
  step = by_test (has_room c.table) (λ h. by_row_lem h (stands_at m k)) short
