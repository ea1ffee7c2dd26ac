-- The new file of one trimming, by the rows of the file: its length, what the rows that stay take of it, and the table that a
-- reading of it leaves.
use Prim.Native.Nat.{ℕ, suc, ◌+◌, ◌≤◌, ◌<◌}
use native.Mathlib.Omega.{arith}
use mathlib.Core.Path.{◌≡◌, refl, ap, sym, subst, ◌∙◌}
use mathlib.Core.Logic.{◌⊎◌, inl, inr}
use mathlib.Core.Bool.{true, false}
use mathlib.Core.List.{List, [], ◌∷◌}
use lib.Arith.{lt_of_le-ne}
use lib.Dec.{eqb}
use lib.ListN.{length, get_or}
use borrow.Author.Tests.{ne_eqb, eqb-true, eqb-false}
use Rattle.base.proofs.Tests.{by_test}
use Rattle.le.specs.Le.{AreBytes}
use Rattle.kinds.specs.Kinds.{is_known}
use Rattle.table.proofs.Clearing.{has_room_fits}
use Rattle.table.specs.declared.Row.{Row}
use Rattle.table.specs.Table.{no_parent, blank, has_room, filled}
use Rattle.format.specs.Forest.{Forest, nodes, file_of}
use Rattle.format.specs.Rows.{rows_of, own_bytes, all_own_bytes}
use Rattle.format.proofs.Rows.{length_rows, own_rows}
use Rattle.valid.specs.Valid.{Valid}
use Rattle.walk.specs.Walk.{limited}
use Rattle.reader.specs.declared.Account.{Account}
use Rattle.reader.specs.Reading.{Accepted}
use Rattle.reader.specs.Reading.{verdict}
use Rattle.reader.specs.Acceptance.{IsValid}
use Rattle.reader.specs.Reading.{table_after as readTable}
use Rattle.reader.proofs.Exactly.{valid_rows}
use Rattle.reader.proofs.Accepted.{seen, rows_are}
use Rattle.writer.specs.Forest.{laid_out}
use Rattle.removal.specs.Trimmer.{without_from, without, new_file}
use Rattle.removal.proofs.Marked.{Marked, bare, kept, fresh, bare_fresh, kept_fresh}
use Rattle.removal.proofs.Marking.{At, Stands, stands_at, kind_left, mark, bare_mark}
use Rattle.removal.proofs.StillValid.{valid_kept, length_file}
use Rattle.removal.proofs.KeptRows.{own_laid}
use Rattle.removal.proofs.Trimmed.{new_file_lem, new_rows}
use Rattle.removal.proofs.Steps.{is_read, shorter}

-- ---- a row fewer
length_after : (k above i : ℕ) (rs : List Row) → k < i → length (without_from k above i rs) ≡ length rs
unfolding without_from
length_after k above i [] h = refl
length_after k above i (r ∷ rs) h = rw (ne_eqb i k (λ e. omega arith)) (ap suc (length_after k above (suc i) rs (omega arith)))

pub length_from : (k above i : ℕ) (rs : List Row) → i ≤ k → k < i + length rs → length (without_from k above i rs) + 1 ≡ length rs
unfolding without_from
length_from k above i [] l h = absurd (omega arith)
length_from k above i (r ∷ rs) l h =
    by_test (eqb i k)
    (λ t. rw t (omega (arith, length_after k above (suc i) rs (omega (arith, eqb-true i k t)))))
    (λ t. rw t (omega (arith, length_from k above (suc i) rs (lt_of_le-ne l (eqb-false i k t)) (omega arith))))

-- what is said of the new file
pub record NewFile (s : List ℕ) (k : ℕ) : Type 0 where
  pub shorter : length (new_file s k) + own_bytes (get_or (limited s).rows k blank) ≡ length s
  pub own : 16 + all_own_bytes (without k (limited s).rows) ≡ length (new_file s k)
  pub short : length (new_file s k) ≤ 16777216
  pub read : (t : List ℕ) → has_room t ≡ true → readTable (new_file s k) t ≡ filled (laid_out 16 (without k (limited s).rows)) t

-- of what is left of a valid forest, with one mark more
module _ (flags : ℕ) (m : Marked) (v : Valid flags (bare m)) {k i : ℕ} (a : At m false k i) where
  abbrev s : List ℕ
  s = file_of flags (kept m)

  abbrev left : List ℕ
  left = file_of flags (kept (mark a))

  valid : Valid flags (kept (mark a))
  valid = valid_kept flags (mark a) (subst (Valid flags) (sym (bare_mark a)) v)

  rows : (limited s).rows ≡ rows_of (kept m)
  rows = valid_rows s flags (kept m) (valid_kept flags m v) refl

  new : new_file s k ≡ left
  new = new_file_lem flags m v a

  laid : rows_of (kept (mark a)) ≡ laid_out 16 (without k (limited s).rows)
  laid = new_rows flags m v a ∙ ap (λ rs. laid_out 16 (without k rs)) (sym rows)

  one_new : NewFile s k
  one_new = record {
    shorter = rw (new, rows) (shorter flags m a);
    own = rw new
        (ap (λ n. 16 + n) (sym (own_laid 16 (without k (limited s).rows)) ∙ ap all_own_bytes (sym laid) ∙ own_rows (kept (mark a)) no_parent 0 16)
        ∙ sym (length_file flags (kept (mark a))));
    short = rw new valid.short;
    read = λ t h. ap (λ b. readTable b t) new ∙ (is_read flags (kept (mark a)) valid).table t (has_room_fits t h) ∙ ap (λ rs. filled rs t) laid;
  }

-- row k of an accepted file, of an unknown kind
module _ (s : List ℕ) (bytes : AreBytes s) {acc : Account} (v : verdict s ≡ Accepted acc) (k : ℕ) (there : k < length (limited s).rows) where
  abbrev file : IsValid s
  file = seen s v bytes

  abbrev flags : ℕ
  flags = file.flags

  abbrev f : Forest
  f = file.forest

  abbrev m : Marked
  m = fresh f

  valid_bare : Valid flags (bare m)
  valid_bare = subst (Valid flags) (sym (bare_fresh f)) file.valid

  rows_read : (limited s).rows ≡ rows_of (kept m)
  rows_read = rows_are s v bytes ∙ ap rows_of (sym (kept_fresh f))

  same_file : file_of flags (kept m) ≡ s
  same_file = ap (file_of flags) (kept_fresh f) ∙ sym file.bytes

  at_row : is_known (get_or (limited s).rows k blank).kind ≡ false → Stands m k ⊎ (nodes (kept m) ≤ k) → NewFile s k
  at_row u (inl st) =
      let z : st.is_known_node ≡ false = sym (kind_left st.stands valid_bare.well_formed.2 no_parent 0 16) ∙ ap (λ rs. is_known (get_or rs k blank).kind) (sym rows_read) ∙ u in
      subst (λ b. NewFile b k) same_file (one_new flags m valid_bare (subst (λ b. At m b k st.row) z st.stands))
  at_row u (inr l) = absurd (omega (arith, there, ap length rows_read, length_rows (kept m) no_parent 0 16))

  pub new_file_of : is_known (get_or (limited s).rows k blank).kind ≡ false → NewFile s k
  new_file_of u = at_row u (stands_at m k)
