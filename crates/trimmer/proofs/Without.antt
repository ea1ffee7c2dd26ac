-- What is left of a file that was read once a row is taken out: the emission of the rows, and the table laid out anew.
use Prim.Native.Nat.{ℕ, ◌+◌, ◌-◌, ◌≤◌, ◌<◌, min}
use native.Mathlib.Omega.{arith}
use mathlib.Core.Path.{◌≡◌, refl, ap, sym, ◌∙◌}
use mathlib.Core.Bool.{true}
use mathlib.Core.List.{List}
use lib.ListN.{length, get_or}
use borrow.Author.Tests.{le-ltb}
use Rattle.le.specs.Le.{AreBytes}
use Rattle.table.specs.declared.Row.{Row}
use Rattle.table.specs.Table.{blank, row_at, rows_at, with_row, put_rows, has_room, filled}
use Rattle.table.proofs.Clearing.{row_at_filled}
use Rattle.table.proofs.Plans.{rows_filled}
use Rattle.table.proofs.Rests.{length_rows_at}
use Rattle.table.proofs.Filled.{put_filled, fewer_filled}
use Rattle.format.specs.Rows.{all_own_bytes}
use Rattle.walk.specs.Walk.{limited}
use Rattle.reader.specs.Reading.{table_after as readTable}
use Rattle.reader.proofs.Accepted.{few}
use Rattle.emit.specs.Emission.{Written}
use Rattle.emit.specs.Emission.{file_bytes, writing_done, emission, output_left, output_of}
use Rattle.writer.specs.Forest.{laid_out}
use Rattle.writer.proofs.Plans.{length_laid}
use Rattle.removal.specs.Trimmer.{without_from, without, new_file}
use Rattle.removal.proofs.NewFile.{NewFile, new_file_of, length_from}
use Rattle.trimmer.specs.Private.{Read, Removes}

-- ---- a row taken out of any rows
pub taken_out : (t : List ℕ) (k p n : ℕ) → k < n → n ≤ 1024 → has_room t ≡ true → t ≡ filled (rows_at t 0 n) t
    → with_row (put_rows t 0 (without_from k p 0 (rows_at t 0 n))) (n - 1) blank ≡ filled (without_from k p 0 (rows_at t 0 n)) t
taken_out t k p n there few room e =
    let rs = rows_at t 0 n in
    let stay = without_from k p 0 rs in
    let long : n ≡ length rs = length_rows_at t 0 n in
    let less : length stay + 1 ≡ length rs = length_from k p 0 rs (omega arith) (omega arith) in
    let last : n - 1 ≡ length stay = omega arith in
    ap (λ u. with_row (put_rows u 0 stay) (n - 1) blank) e ∙ ap (λ i. with_row (put_rows (filled rs t) 0 stay) i blank) last
    ∙ fewer_filled t rs stay room (omega arith) less

-- ---- the rows of a file that was read
module _ {s t : List ℕ} {n f : ℕ} (bytes : AreBytes s) (read : Read s t n f) where
  few_rows : length (limited s).rows ≤ 1024
  few_rows = few s read.accepted bytes

  pub few_nodes : n ≤ 1024
  few_nodes = omega (arith, read.nodes, few_rows)

  rows_there : rows_at t 0 n ≡ (limited s).rows
  rows_there =
      ap (rows_at t 0) read.nodes ∙ ap (λ u. rows_at u 0 (length (limited s).rows)) read.rows
      ∙ rows_filled t (limited s).rows read.room few_rows

  pub row_there : (k : ℕ) → k < n → row_at t k ≡ get_or (limited s).rows k blank
  row_there k h =
      ap (λ u. row_at u k) read.rows ∙ row_at_filled t (limited s).rows read.room few_rows k (omega (arith, few_nodes))

  pub filled_there : t ≡ filled (rows_at t 0 n) t
  filled_there = read.rows ∙ ap (λ rs. filled rs t) (sym rows_there)

-- ---- a row of them taken out
module _ {s t : List ℕ} {k p n f room : ℕ} (bytes : AreBytes s) (there : k < n) (r : Removes s t k p n f room) where
  abbrev stay : List Row
  stay = without k (limited s).rows

  new : NewFile s k
  new = new_file_of s bytes r.read.accepted k (omega (arith, there, r.read.nodes)) r.unknown

  length_stay : length stay + 1 ≡ n
  length_stay =
      length_from k (get_or (limited s).rows k _).parent 0 (limited s).rows (omega arith) (omega (arith, there, r.read.nodes))
      ∙ sym r.read.nodes

  few_stay : length stay ≤ 1024
  few_stay = omega (arith, length_stay, few_nodes bytes r.read)

  -- the table without the row
  module _ (t' : List ℕ) (e : t' ≡ filled (without_from k p 0 (rows_at t 0 n)) t) where
    taken : t' ≡ filled stay t
    taken = e ∙ ap (λ rs. filled (without_from k p 0 rs) t) (rows_there bytes r.read) ∙ ap (λ q. filled (without_from k q 0 (limited s).rows) t) r.above

    rows_stay : (m : ℕ) → m ≡ length stay → rows_at t' 0 m ≡ stay
    rows_stay m h = ap (rows_at t' 0) h ∙ ap (λ u. rows_at u 0 (length stay)) taken ∙ rows_filled t stay r.read.room few_stay

    rows_left_lem : rows_at t' 0 (n - 1) ≡ stay
    rows_left_lem = rows_stay (n - 1) (omega (arith, length_stay))

    rows_put : rows_at t' 0 (min (n - 1) 1024) ≡ stay
    rows_put = rows_stay (min (n - 1) 1024) (omega (arith, length_stay, few_stay))

    pub fits : 16 + all_own_bytes (rows_at t' 0 (n - 1)) ≤ 16777216
    fits = rw rows_left_lem (omega (arith, new.own, new.short))

    bytes_are : file_bytes f s (rows_at t' 0 (min (n - 1) 1024)) ≡ new_file s k
    unfolding new_file
    bytes_are = rw rows_put (ap (λ g. file_bytes g s stay) r.read.flags)

    pub emitted : (w : Written) → w ≡ emission f s (rows_at t' 0 (min (n - 1) 1024)) room → w ≡ writing_done (length (new_file s k))
    unfolding emission
    emitted w h = h ∙ rw (bytes_are, le-ltb 16777216 (length (new_file s k)) new.short, le-ltb room (length (new_file s k)) r.fits)

    pub put : (out o : List ℕ) → length out ≡ room → o ≡ output_of f s (rows_at t' 0 (min (n - 1) 1024)) out → o ≡ output_left 0 (new_file s k) out
    put out o h e =
        let answer : emission f s (rows_at t' 0 (min (n - 1) 1024)) (length out) ≡ writing_done (length (new_file s k)) = rw h (emitted _ refl) in
        e ∙ ap (λ (w : Written). output_left w.number (file_bytes f s (rows_at t' 0 (min (n - 1) 1024))) out) answer
        ∙ ap (λ bs. output_left 0 bs out) bytes_are

    pub laid : put_rows t' 0 (laid_out 16 (rows_at t' 0 (n - 1))) ≡ readTable (new_file s k) t
    laid = rw rows_left_lem (ap (λ u. put_rows u 0 (laid_out 16 stay)) taken ∙ put_filled t stay (laid_out 16 stay) r.read.room few_stay (length_laid 16 stay) ∙ sym (new.read t r.read.room))
