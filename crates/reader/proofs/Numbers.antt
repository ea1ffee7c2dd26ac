-- The numbers that a file which was walked can be refused with: 13 to 17; and that no refusal's number is 0.
use Prim.Native.Nat.{ℕ, zero, suc, ◌≤◌}
use native.Mathlib.Omega.{arith}
use mathlib.Core.Path.{◌≡◌, refl, ap, subst}
use mathlib.Core.Bool.{Bool, true, false, false≢true}
use mathlib.Core.List.{List, [], ◌∷◌}
use Rattle.base.specs.Refusals.{refused_or}
use Rattle.base.proofs.Refusals.{by_refusal}
use Rattle.base.proofs.Tests.{by_test}
use Rattle.kinds.specs.Kinds.{is_known}
use Rattle.table.specs.declared.Row.{Row}
use Rattle.table.specs.Table.{has_room}
use Rattle.judge.proofs.Numbers.{Among, judged_number}
use Rattle.format.specs.Rows.{body_of}
use Rattle.links.specs.Links.{linked}
use Rattle.links.proofs.Numbers.{linked_number}
use Rattle.reader.specs.Reading.{Reading}
use Rattle.reader.specs.Reading.{Accepted, Refused}
use Rattle.reader.specs.Reading.{Ruled}
use Rattle.walk.specs.Walk.{limited}
use Rattle.reader.specs.Reading.{bones_under, judged_with, judged_row, ruled, checked, verdict, reading_of}

with_number : (s : List ℕ) (r : Row) (bones : ℕ) → Among 13 15 (judged_with s r bones).number
unfolding judged_with
with_number s r bones =
    by_test (is_known r.kind) (λ t. rw t (judged_number r.kind r.properties (body_of s r) bones)) (λ t. rw t (λ h. absurd (h refl)))

ruled_number : (s : List ℕ) (all rows : List Row) → Among 13 15 (ruled s all rows).number
unfolding ruled
ruled_number s all [] = λ h. absurd (h refl)
ruled_number s all (r ∷ rs) =
    by_refusal (λ (u : Ruled). Among 13 15 u.number) (judged_row s all r).number _ _ (λ h. with_number s r (bones_under all r.parent)) (λ z. ruled_number s all rs)

-- a refusal's number
abbrev pub number_of : Reading → ℕ
number_of (Accepted a) = 0
number_of (Refused n place) = n

abbrev Told : ℕ → Type 0
Told n = (13 ≤ n) × (n ≤ 17)

-- the number of a refusal is that of a stage, or of what comes after it
pub by_stage : (P : ℕ → Type 0) (n place : ℕ) (next : Reading) {m at : ℕ} → ((n ≡ 0 → ⊥) → P n) → (next ≡ Refused m at → P m)
    → refused_or n (Refused n place) next ≡ Refused m at → P m
by_stage P zero place next a on r = on r
by_stage P (suc n) place next a on r = subst P (ap number_of r) (a (λ z. omega (arith, z)))

pub checked_told : (s : List ℕ) (rows : List Row) (n place : ℕ) → checked s rows ≡ Refused n place → (13 ≤ n) × (n ≤ 17)
unfolding checked
checked_told s rows n place =
    by_stage Told (ruled s rows rows).number (ruled s rows rows).place _ (λ h. let a = ruled_number s rows rows h in (a.0, omega (arith, a.1)))
    (by_stage Told (linked s rows).number (linked s rows).place _ (λ h. let a = linked_number s rows h in (omega (arith, a.0), a.1)) (λ r. absurd (false≢true (ap refuses r))))
  where
    refuses : Reading → Bool
    refuses (Accepted a) = false
    refuses (Refused n place) = true

-- ---- no refusal's number is 0
verdict_some : (s : List ℕ) (n place : ℕ) → verdict s ≡ Refused n place → n ≡ 0 → ⊥
unfolding verdict
verdict_some s n place =
    by_stage (λ m. m ≡ 0 → ⊥) (limited s).number (limited s).at (checked s (limited s).rows) (λ h. h)
    (λ r z. let told = checked_told s (limited s).rows n place r in omega arith)

pub refused_some : (s t : List ℕ) (n place : ℕ) → reading_of s t ≡ Refused n place → n ≡ 0 → ⊥
unfolding reading_of
refused_some s t n place r z =
    by_test (has_room t)
    (λ h. verdict_some s n place (rw h at r) z)
    (λ h. let e = ap number_of (rw h at r) in omega arith)
