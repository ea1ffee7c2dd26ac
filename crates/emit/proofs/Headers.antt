-- Headers put number by number.
use Prim.Native.Nat.{ℕ, ◌+◌, ◌^◌, ◌/◌, ◌%◌, ◌<◌}
use native.Mathlib.Omega.{arith}
use mathlib.Core.Path.{◌≡◌, refl, ap, sym, ◌∙◌}
use mathlib.Core.List.{List, ◌++◌}
use lib.ListN.{length}
use lib.Seq.{sets}
use Rattle.le.specs.Le.{le}
use Rattle.le.proofs.Laws.{le_halves}
use Rattle.base.proofs.Stores.{sets_append}
use Rattle.table.specs.declared.Row.{Row}
use Rattle.format.specs.Forest.{header, file_header}
use Rattle.format.specs.Rows.{hash_of}

-- a number of 4 bytes stored after bytes that were
put_next : (l : List ℕ) (at : ℕ) (bs : List ℕ) (x : ℕ) {a : ℕ} {before after : List ℕ} → length bs ≡ a → before ≡ sets l at bs
    → after ≡ sets before (at + a) (le 4 x) → after ≡ sets l at (bs ++ le 4 x)
put_next l at bs x {a} e p q =
    q ∙ ap (λ z. sets z (at + a) (le 4 x)) p ∙ ap (λ k. sets (sets l at bs) (at + k) (le 4 x)) (sym e) ∙ sym (sets_append l at bs (le 4 x))

pub file_header_put : (l : List ℕ) (roots flags : ℕ) {a b c d : List ℕ} → a ≡ sets l 0 (le 4 0x74736163) → b ≡ sets a 4 (le 4 1)
    → c ≡ sets b 8 (le 4 roots) → d ≡ sets c 12 (le 4 flags) → d ≡ sets l 0 (file_header roots flags)
unfolding file_header le
file_header_put l roots flags pa pb pc pd =
    let first = le 4 0x74736163 in
    let two = put_next l 0 first 1 refl pa pb in
    let three = put_next l 0 (first ++ le 4 1) roots refl two pc in
    put_next l 0 ((first ++ le 4 1) ++ le 4 roots) flags refl three pd

hash_halves : (r : Row) → r.low < 4294967296 → le 8 (hash_of r) ≡ le 4 r.low ++ le 4 r.high
hash_halves r h =
    let low : hash_of r % 256 ^ 4 ≡ r.low = omega arith in
    let high : hash_of r / 256 ^ 4 ≡ r.high = omega arith in
    le_halves 4 (hash_of r) ∙ rw (low, high)

pub header_put : (l : List ℕ) (r : Row) (size : ℕ) → r.low < 4294967296 → {a b c d e f : List ℕ} → a ≡ sets l 0 (le 4 r.kind)
    → b ≡ sets a 4 (le 4 size) → c ≡ sets b 8 (le 4 r.low) → d ≡ sets c 12 (le 4 r.high)
    → e ≡ sets d 16 (le 4 r.properties) → f ≡ sets e 20 (le 4 r.children)
    → f ≡ sets l 0 (header r.kind size (hash_of r) r.properties r.children)
unfolding header le
header_put l r size h pa pb pc pd pe pf =
    let one = le 4 r.kind in
    let two = one ++ le 4 size in
    let three = two ++ le 4 r.low in
    let four = three ++ le 4 r.high in
    let five = four ++ le 4 r.properties in
    let p2 = put_next l 0 one size refl pa pb in
    let p3 = put_next l 0 two r.low refl p2 pc in
    let p4 = put_next l 0 three r.high refl p3 pd in
    let p5 = put_next l 0 four r.properties refl p4 pe in
    put_next l 0 five r.children refl p5 pf
    ∙ ap (λ hash. sets l 0 (one ++ (le 4 size ++ (hash ++ (le 4 r.properties ++ le 4 r.children))))) (sym (hash_halves r h))
