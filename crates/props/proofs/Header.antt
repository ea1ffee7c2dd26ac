-- A property's header: its three numbers by the one number of its 8 bytes, and the same header in a part that starts at its place.
use Prim.Native.Nat.{ℕ, ◌+◌, ◌/◌, ◌%◌, ◌≤◌}
use native.Mathlib.Omega.{arith}
use mathlib.Core.Path.{◌≡◌}
use mathlib.Core.List.{List}
use lib.ListN.{length, take, drop}
use Rattle.std.specs.Int.Bits.{bit_and}
use Rattle.std.proofs.lemmas.Nat.{and_mask}
use Rattle.le.specs.Le.{number_at, AreBytes}
use Rattle.le.proofs.Laws.{rest, drop_rest, number_at_part, number_at_rest, number_at_past, number_at_short, number_at_high}
use Rattle.props.specs.declared.PropertyHeader.{PropertyHeader}
use Rattle.props.specs.Step.{header_at, name_at}

abbrev pub headed : (code size len : ℕ) → PropertyHeader
headed code size len = record { code = code; size = size; length = len }

pub header_number : (s : List ℕ) → AreBytes s → {n : ℕ} → n ≡ number_at 8 s 0 → headed (bit_and n 65535) (bit_and (n / 65536) 65535) (n / 4294967296) ≡ header_at s 0
header_number s bytes {n} e =
    let code : number_at 8 s 0 % 65536 ≡ number_at 2 s 0 = number_at_short 2 6 s 0 bytes in
    let above : number_at 8 s 0 / 65536 ≡ number_at 6 s 2 = number_at_high 2 6 s 0 bytes in
    let size : number_at 6 s 2 % 65536 ≡ number_at 2 s 2 = number_at_short 2 4 s 2 bytes in
    let len : number_at 8 s 0 / 4294967296 ≡ number_at 4 s 4 = number_at_high 4 4 s 0 bytes in
    rw (and_mask n 16, and_mask (n / 65536) 16, e, code, above, size, len)

-- ---- in a part
module _ (s : List ℕ) (at : ℕ) where
  same_start : at + 0 ≡ at
  same_start = omega arith

  -- of its 8 bytes
  pub header_part : (n : ℕ) → 8 ≤ n → header_at (take n (drop at s)) 0 ≡ header_at s at
  header_part n h =
      rw (number_at_part 2 n s at 0 (omega arith), number_at_part 2 n s at 2 (omega arith), number_at_part 4 n s at 4 (omega arith), same_start)

  -- of all that is left
  pub header_rest : header_at (rest s at) 0 ≡ header_at s at
  header_rest = rw (number_at_rest 2 s at 0, number_at_rest 2 s at 2, number_at_rest 4 s at 4, same_start)

  pub name_rest : name_at (rest s at) 0 ≡ name_at s at
  unfolding name_at
  name_rest = rw (number_at_rest 2 s at 2, drop_rest s at 8)

  pub header_past : length s ≤ at → headed 0 0 0 ≡ header_at s at
  header_past h =
      rw (number_at_past 2 s at h, number_at_past 2 s (at + 2) (omega arith), number_at_past 4 s (at + 4) (omega arith))
