-- Laws of a table that is cleared from a row on.
use Prim.Native.Nat.{ℕ, ◌+◌, ◌-◌, ◌*◌, ◌≤◌}
use native.Mathlib.Omega.{arith}
use mathlib.Core.Path.{◌≡◌, refl, ap, sym, ◌∙◌}
use mathlib.Core.Bool.{Bool, true, false, ◌&&◌, and-eq-true_iff}
use mathlib.Core.List.{List, append_assoc}
use lib.ListN.{length, take, drop, replicate, length-drop}
use lib.Dec.{leb}
use lib.Seq.{sets-eq, length-take-le, take_at, drop-drop}
use borrow.Rule.Slice.PartMut.{put_mid}
use borrow.Author.Tests.{leb-true, le-leb}
use Rattle.table.specs.declared.Row.{Row}
use Rattle.table.specs.Table.{put_rows, flat, has_room, zeroed, cleared, cleared_from, filled}
use Rattle.base.proofs.Stores.{drop_sets}
use Rattle.table.proofs.Rows.{put_rows_sets, length_put_rows, length_flat}
use Rattle.table.proofs.Clearing.{has_room_fits, has_room_length}

-- both sides of the definition's test
module _ (k : ℕ) (t : List ℕ) {room : Bool} (e : room ≡ has_room t) where
  pub clears : (leb k 1024 && room) ≡ true → (k ≤ 1024) × (8192 ≤ length t)
  clears b =
      let both = (and-eq-true_iff (leb k 1024) room).0 b in
      (leb-true k 1024 both.0, has_room_fits t (sym e ∙ both.1))

  -- zeros filled into the part
  pub cleared_from_in : (leb k 1024 && room) ≡ true → {part : List ℕ} → part ≡ replicate (length (take (8192 - k * 8) (drop (k * 8) t))) 0
      → put_mid (k * 8) (8192 - k * 8) t part ≡ cleared_from k t
  unfolding cleared_from
  cleared_from_in b p =
      let to : k * 8 + (8192 - k * 8) ≡ 8192 = omega (arith, (clears b).0) in
      let all : length (take (8192 - k * 8) (drop (k * 8) t)) ≡ 8192 - k * 8
      = length-take-le (8192 - k * 8) (drop (k * 8) t) (omega (arith, clears b, length-drop (k * 8) t)) in
      rw (p, all, drop-drop (8192 - k * 8) (k * 8) t, to, ← e, b) (sym (append_assoc (take (k * 8) t) (replicate (8192 - k * 8) 0) (drop 8192 t)))

  pub cleared_from_out : (leb k 1024 && room) ≡ false → t ≡ cleared_from k t
  unfolding cleared_from
  cleared_from_out b = rw (← e, b)

-- from the first row on, that is all
pub cleared_from_none : (t : List ℕ) → cleared_from 0 t ≡ cleared t
unfolding cleared_from cleared zeroed
cleared_from_none t = refl

module _ (t : List ℕ) (rs : List Row) (h : has_room t ≡ true) (few : length rs ≤ 1024) where
  -- the rows put are kept, and so is what is after 8,192 numbers
  first_put : take (length rs * 8) (put_rows t 0 rs) ≡ flat rs
  first_put =
      ap (take (length rs * 8)) (put_rows_sets t 0 rs (omega (arith, has_room_fits t h)) ∙ sets-eq (flat rs) t (0 * 8) (omega (arith, has_room_fits t h, length_flat rs)))
      ∙ take_at (flat rs) (drop (0 * 8 + length (flat rs)) t) (length rs * 8) (length_flat rs)

  after_put : drop 8192 (put_rows t 0 rs) ≡ drop 8192 t
  after_put =
      ap (drop 8192) (put_rows_sets t 0 rs (omega (arith, has_room_fits t h)))
      ∙ drop_sets 8192 t (0 * 8) (flat rs) (omega (arith, length_flat rs))

  pub filled_from : cleared_from (length rs) (put_rows t 0 rs) ≡ filled rs t
  unfolding cleared_from filled
  filled_from =
      rw (le-leb (length rs) 1024 few, has_room_length (put_rows t 0 rs) t (length_put_rows t 0 rs), h, first_put, after_put)
