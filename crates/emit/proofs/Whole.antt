-- The answer and the output, of a file that is too long, of one without room, and of one that is put.
use Prim.Native.Nat.{ℕ, ◌+◌, ◌≤◌, ◌<◌}
use native.Mathlib.Omega.{arith}
use native.Mathlib.Nat.{zero-add}
use mathlib.Core.Path.{◌≡◌, refl, ap, sym, ◌∙◌}
use mathlib.Core.List.{List, ◌++◌}
use lib.ListN.{length, drop, length-append}
use lib.Seq.{sets, sets-eq}
use borrow.Author.Tests.{lt-ltb, le-ltb}
use Rattle.base.proofs.Stores.{sets_append}
use Rattle.format.specs.Forest.{file_header}
use Rattle.format.proofs.Headers.{length_file_header}
use Rattle.table.specs.declared.Row.{Row}
use Rattle.emit.specs.Emission.{Written}
use Rattle.emit.specs.Emission.{nodes_bytes, roots, file_bytes, refused_writing, writing_done, emission, output_left, output_of}

module _ (flags : ℕ) (s : List ℕ) (rows : List Row) where
  pub length_file_bytes : length (file_bytes flags s rows) ≡ 16 + length (nodes_bytes s 0 rows)
  unfolding file_bytes
  length_file_bytes = omega (arith, length-append (file_header (roots rows) flags) (nodes_bytes s 0 rows), length_file_header (roots rows) flags)

  module _ (out : List ℕ) where
    -- an answer whose number is not 0 leaves the output
    left : (w : Written) → emission flags s rows (length out) ≡ w → output_left w.number (file_bytes flags s rows) out ≡ out
        → (w ≡ emission flags s rows (length out)) × (out ≡ output_of flags s rows out)
    left w e f = (sym e, sym (rw e f))

    pub too_long_lem : 16777216 < 16 + length (nodes_bytes s 0 rows) → (refused_writing 25 0 ≡ emission flags s rows (length out)) × (out ≡ output_of flags s rows out)
    unfolding emission output_left
    too_long_lem h = left (refused_writing 25 0) (rw (length_file_bytes, lt-ltb 16777216 (16 + length (nodes_bytes s 0 rows)) h)) refl

    module _ (short : 16 + length (nodes_bytes s 0 rows) ≤ 16777216) where
      pub no_room_lem : length out < 16 + length (nodes_bytes s 0 rows) → (refused_writing 26 0 ≡ emission flags s rows (length out)) × (out ≡ output_of flags s rows out)
      unfolding emission output_left
      no_room_lem h =
          left
          (refused_writing 26 0)
          (rw (length_file_bytes, le-ltb 16777216 (16 + length (nodes_bytes s 0 rows)) short, lt-ltb (length out) (16 + length (nodes_bytes s 0 rows)) h))
          refl

      module _ (fits : 16 + length (nodes_bytes s 0 rows) ≤ length out) where
        well : emission flags s rows (length out) ≡ writing_done (16 + length (nodes_bytes s 0 rows))
        unfolding emission
        well = rw (length_file_bytes, le-ltb 16777216 (16 + length (nodes_bytes s 0 rows)) short, le-ltb (length out) (16 + length (nodes_bytes s 0 rows)) fits)

        pub file_put : {head last : List ℕ} {n : ℕ} → head ≡ sets out 0 (file_header (roots rows) flags) → last ≡ sets head 16 (nodes_bytes s 0 rows)
            → n ≡ 16 + length (nodes_bytes s 0 rows)
            → (writing_done n ≡ emission flags s rows (length out)) × (last ≡ output_of flags s rows out)
        unfolding output_left file_bytes
        file_put {head} {last} e f g =
            let bytes = file_bytes flags s rows in
            let place : 16 ≡ 0 + length (file_header (roots rows) flags) = omega (arith, length_file_header (roots rows) flags) in
            let whole : last ≡ sets out 0 bytes
            = f
            ∙ ap (λ z. sets z 16 (nodes_bytes s 0 rows)) e
            ∙ ap (λ k. sets (sets out 0 (file_header (roots rows) flags)) k (nodes_bytes s 0 rows)) place
            ∙ sym (sets_append out 0 (file_header (roots rows) flags) (nodes_bytes s 0 rows)) in
            let put : sets out 0 bytes ≡ bytes ++ drop (length bytes) out
            = sets-eq bytes out 0 (omega (arith, length_file_bytes)) ∙ ap (λ k. bytes ++ drop k out) (zero-add (length bytes)) in
            (rw (well, g), rw well (whole ∙ put))
