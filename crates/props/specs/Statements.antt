-- Document 01's element sizes, type by type in its order.
use Rattle.std.specs.Prelude.{ℕ, ◌≡◌, ◌⊎◌}
use Rattle.props.specs.Types.{Bytes, Text, NoSuch}
use Rattle.props.specs.Types.{element_size}

-- one of the ten type codes
abbrev pub IsTypeCode : ℕ → Type 0
IsTypeCode code =
    (code ≡ 0x62) ⊎ ((code ≡ 0x68) ⊎ ((code ≡ 0x69) ⊎ ((code ≡ 0x6C) ⊎ ((code ≡ 0x66) ⊎ ((code ≡ 0x64) ⊎
    ((code ≡ 0x7632) ⊎ ((code ≡ 0x7633) ⊎ ((code ≡ 0x7634) ⊎ (code ≡ 0x73)))))))))

-- "Element sizes by type code: 0x62 `b` 1, 0x68 `h` 2, 0x69 `i` 4, 0x6C `l` 8, 0x66 `f` 4, 0x64 `d` 8, 0x7632 `v2` 8, 0x7633
-- `v3` 12, 0x7634 `v4` 16. 0x73 `s`: array length must be 1, and the data runs up to and including the first zero byte."
pub record SizesAre : Type 0 where
  pub b : element_size 0x62 ≡ Bytes 1
  pub h : element_size 0x68 ≡ Bytes 2
  pub i : element_size 0x69 ≡ Bytes 4
  pub l : element_size 0x6C ≡ Bytes 8
  pub f : element_size 0x66 ≡ Bytes 4
  pub d : element_size 0x64 ≡ Bytes 8
  pub v2 : element_size 0x7632 ≡ Bytes 8
  pub v3 : element_size 0x7633 ≡ Bytes 12
  pub v4 : element_size 0x7634 ≡ Bytes 16
  pub s : element_size 0x73 ≡ Text
  -- "the element size or no such type"
  pub other : (code : ℕ) → (IsTypeCode code → ⊥) → element_size code ≡ NoSuch
