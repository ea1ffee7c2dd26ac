-- The answer and the lent buffers of an accepted file by each case: 30, 31, 32, and a row taken out.
use Prim.Native.Nat.{ℕ, suc, ◌≤◌, ◌<◌}
use native.Mathlib.Omega.{arith}
use mathlib.Core.Path.{◌≡◌, ap, sym, ◌∙◌}
use mathlib.Core.Bool.{true, false}
use mathlib.Core.List.{List}
use lib.ListN.{length, get_or}
use borrow.Author.Tests.{ne_eqb, le-leb, lt-leb, lt-ltb, le-ltb}
use Rattle.kinds.specs.Kinds.{is_known}
use Rattle.table.specs.declared.Row.{Row}
use Rattle.table.specs.Table.{blank, cleared}
use Rattle.walk.specs.Walk.{limited}
use Rattle.reader.specs.Reading.{table_after as readTable}
use Rattle.emit.specs.Emission.{Written}
use Rattle.emit.specs.Emission.{refused_writing, writing_done, output_left}
use Rattle.removal.specs.Trimmer.{new_file, removal_of}
use Rattle.trimmer.specs.Private.{left_without}

-- ---- 30 to 32 by its tests
module _ (rows : List Row) (k new room : ℕ) where
  no_row_lem : length rows ≤ k → removal_of rows k new room ≡ refused_writing 30 0
  no_row_lem h = rw (le-leb (length rows) k h)

  module _ (there : k < length rows) where
    known_row : is_known (get_or rows k blank).kind ≡ true → removal_of rows k new room ≡ refused_writing 31 0
    known_row e = rw (lt-leb (length rows) k there, e)

    module _ (unknown : is_known (get_or rows k blank).kind ≡ false) where
      no_output : room < new → removal_of rows k new room ≡ refused_writing 32 0
      no_output h = rw (lt-leb (length rows) k there, unknown, lt-ltb room new h)

      all_right_lem : new ≤ room → removal_of rows k new room ≡ writing_done new
      all_right_lem h = rw (lt-leb (length rows) k there, unknown, le-ltb room new h)

-- ---- the answer w, and output and table at exit
module _ (s : List ℕ) (k : ℕ) (t out : List ℕ) where
  abbrev rows : List Row
  rows = (limited s).rows

  abbrev new : ℕ
  new = length (new_file s k)

  abbrev room : ℕ
  room = length out

  abbrev pub Ends : (w : Written) (o t' : List ℕ) → Type 0
  Ends w o t' =
      (w ≡ removal_of rows k new room) × ((o ≡ output_left w.number (new_file s k) out) × (t' ≡ left_without w.number s k t))

  -- a refusal, and then each of them
  refusal_ends : (n : ℕ) {w : Written} {t' : List ℕ} → removal_of rows k new room ≡ refused_writing (suc n) 0
      → w ≡ refused_writing (suc n) 0 → t' ≡ cleared t → Ends w out t'
  unfolding output_left
  refusal_ends n e a c = (a ∙ sym e, (rw (a, ne_eqb (suc n) 0 (λ z. omega (arith, z))), c ∙ rw (a, ne_eqb (suc n) 0 (λ z. omega (arith, z)))))

  pub ends_30 : {w : Written} {t' : List ℕ} → length rows ≤ k → w ≡ refused_writing 30 0 → t' ≡ cleared t → Ends w out t'
  ends_30 h = refusal_ends 29 (no_row_lem rows k new room h)

  module _ (there : k < length rows) where
    pub ends_31 : {w : Written} {t' : List ℕ} → is_known (get_or rows k blank).kind ≡ true → w ≡ refused_writing 31 0 → t' ≡ cleared t → Ends w out t'
    ends_31 e = refusal_ends 30 (known_row rows k new room there e)

    module _ (unknown : is_known (get_or rows k blank).kind ≡ false) where
      pub ends_32 : {w : Written} {t' : List ℕ} → room < new → w ≡ refused_writing 32 0 → t' ≡ cleared t → Ends w out t'
      ends_32 h = refusal_ends 31 (no_output rows k new room there unknown h)

      pub ends_done : {w : Written} {o t' : List ℕ} → new ≤ room → w ≡ writing_done new → o ≡ output_left 0 (new_file s k) out
          → t' ≡ readTable (new_file s k) t → Ends w o t'
      ends_done h a b c =
          (a ∙ sym (all_right_lem rows k new room there unknown h), (rw (ap (λ (w : Written). w.number) a) b, rw (ap (λ (w : Written). w.number) a) c))
