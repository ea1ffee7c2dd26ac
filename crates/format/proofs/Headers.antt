-- Laws of headers: their numbers are read back, and bytes that are read are a header's.
use Prim.Native.Nat.{ℕ, ◌/◌, ◌%◌, ◌^◌, ◌≤◌, ◌<◌}
use native.Mathlib.Omega.{arith}
use mathlib.Core.Path.{◌≡◌, refl, ap, sym, ◌∙◌}
use mathlib.Core.List.{List, [], ◌∷◌, ◌++◌, append_assoc}
use lib.ListN.{length, take, drop}
use Rattle.le.specs.Le.{val, number_at, le, AreBytes}
use Rattle.le.proofs.Laws.{val_le, number_at_lt, le_number_at, le_front, part_front, le_halves}
use Rattle.format.specs.Forest.{header, file_header}
use Rattle.format.specs.Layout.{Fits}

-- ---- a node's header
module _ (k s h p c : ℕ) where
  pub length_header : length (header k s h p c) ≡ 24
  unfolding header le
  length_header = refl

  module _ (rest : List ℕ) where
    pub header_drop : drop 24 (header k s h p c ++ rest) ≡ rest
    unfolding header le
    header_drop = refl

    module _ (fits : Fits k s h p c) where
      pub header_kind : number_at 4 (header k s h p c ++ rest) 0 ≡ k
      unfolding number_at header le
      header_kind = val_le 4 k fits.0

      pub header_size : number_at 4 (header k s h p c ++ rest) 4 ≡ s
      unfolding number_at header le
      header_size = val_le 4 s fits.1

      pub header_hash : number_at 8 (header k s h p c ++ rest) 8 ≡ h
      unfolding number_at header le
      header_hash = val_le 8 h fits.2

      pub header_low : number_at 4 (header k s h p c ++ rest) 8 ≡ h % 256 ^ 4
      unfolding number_at header le
      header_low = ap (λ l. number_at 4 ((le 4 k ++ (le 4 s ++ (l ++ (le 4 p ++ le 4 c)))) ++ rest) 8) (le_halves 4 h)
          ∙ val_le 4 (h % 256 ^ 4) (omega arith)

      pub header_high : number_at 4 (header k s h p c ++ rest) 12 ≡ h / 256 ^ 4
      unfolding number_at header le
      header_high = ap (λ l. number_at 4 ((le 4 k ++ (le 4 s ++ (l ++ (le 4 p ++ le 4 c)))) ++ rest) 12) (le_halves 4 h)
          ∙ val_le 4 (h / 256 ^ 4) (omega (arith, fits.2))

      pub header_properties : number_at 4 (header k s h p c ++ rest) 16 ≡ p
      unfolding number_at header le
      header_properties = val_le 4 p fits.3

      pub header_children : number_at 4 (header k s h p c ++ rest) 20 ≡ c
      unfolding number_at header le
      header_children = val_le 4 c fits.4

module _ (bs : List ℕ) (y : AreBytes bs) (room : 24 ≤ length bs) where
  pub header_of_lem : header (number_at 4 bs 0) (number_at 4 bs 4) (number_at 8 bs 8) (number_at 4 bs 16) (number_at 4 bs 20) ++ drop 24 bs ≡ bs
  unfolding header
  header_of_lem =
      simp append_assoc
      (rw (
        le_front 4 bs 20 24 y refl room,
        le_front 4 bs 16 20 y refl (omega arith),
        le_front 8 bs 8 16 y refl (omega arith),
        le_front 4 bs 4 8 y refl (omega arith),
      )
      (le_front 4 bs 0 4 y refl (omega arith)))

  pub header_fits : Fits (number_at 4 bs 0) (number_at 4 bs 4) (number_at 8 bs 8) (number_at 4 bs 16) (number_at 4 bs 20)
  header_fits = (number_at_lt 4 bs 0 y, number_at_lt 4 bs 4 y, number_at_lt 8 bs 8 y, number_at_lt 4 bs 16 y, number_at_lt 4 bs 20 y)

-- ---- a file's header
module _ (roots flags : ℕ) where
  pub length_file_header : length (file_header roots flags) ≡ 16
  unfolding file_header le
  length_file_header = refl

  module _ (rest : List ℕ) where
    pub file_header_drop : drop 16 (file_header roots flags ++ rest) ≡ rest
    unfolding file_header le
    file_header_drop = refl

    pub file_header_first : number_at 4 (file_header roots flags ++ rest) 0 ≡ 0x74736163
    unfolding number_at val file_header le
    file_header_first = refl

    pub file_header_version : number_at 4 (file_header roots flags ++ rest) 4 ≡ 1
    unfolding number_at val file_header le
    file_header_version = refl

    pub file_header_roots : roots < 256 ^ 4 → number_at 4 (file_header roots flags ++ rest) 8 ≡ roots
    unfolding number_at file_header le
    file_header_roots h = val_le 4 roots h

    pub file_header_flags : flags < 256 ^ 4 → number_at 4 (file_header roots flags ++ rest) 12 ≡ flags
    unfolding number_at file_header le
    file_header_flags h = val_le 4 flags h

module _ (bs : List ℕ) (y : AreBytes bs) (room : 16 ≤ length bs) (first : number_at 4 bs 0 ≡ 0x74736163) (version : number_at 4 bs 4 ≡ 1) where
  four : take 4 (drop 0 bs) ≡ 0x63 ∷ 0x61 ∷ 0x73 ∷ 0x74 ∷ []
  unfolding le
  four = sym (le_number_at 4 bs 0 y (omega arith)) ∙ ap (le 4) first

  pub file_header_of : file_header (number_at 4 bs 8) (number_at 4 bs 12) ++ drop 16 bs ≡ bs
  unfolding file_header
  file_header_of =
      ap (λ l. l ++ (le 4 1 ++ (le 4 (number_at 4 bs 8) ++ le 4 (number_at 4 bs 12))) ++ drop 16 bs) (sym four)
      ∙ simp append_assoc
      (rw (← version, le_front 4 bs 12 16 y refl room, le_front 4 bs 8 12 y refl (omega arith), le_front 4 bs 4 8 y refl (omega arith))
      (part_front 4 bs 0 4 refl))
