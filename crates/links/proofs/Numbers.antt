-- The numbers of a link's refusal: 16 and 17.
use Prim.Native.Nat.{ℕ, zero, suc}
use native.Mathlib.Omega.{arith}
use mathlib.Core.Path.{refl}
use mathlib.Core.List.{List, [], ◌∷◌}
use lib.ListN.{length}
use Rattle.base.proofs.Refusals.{by_refusal}
use Rattle.table.specs.declared.Row.{Row}
use Rattle.judge.proofs.Numbers.{Among}
use Rattle.links.specs.Links.{Link, links_of, refusal_of, refused_links, resolved, linked}

refusal_number : (targets : ℕ) → Among 16 17 (refusal_of targets)
refusal_number zero h = (omega arith, omega arith)
refusal_number (suc zero) h = absurd (h refl)
refusal_number (suc (suc n)) h = (omega arith, omega arith)

resolved_number : (n : ℕ) (ls : List Link) → Among 16 17 (resolved n ls).number
unfolding resolved
resolved_number n [] = λ h. absurd (h refl)
resolved_number n (l ∷ ls) =
    let number = refusal_of (length l.targets) in
    by_refusal (λ w. Among 16 17 w.number) number (refused_links number l.property) (resolved (suc n) ls)
    (λ h. refusal_number (length l.targets)) (λ h. resolved_number (suc n) ls)

pub linked_number : (s : List ℕ) (rows : List Row) → Among 16 17 (linked s rows).number
unfolding linked
linked_number s rows = resolved_number 0 (links_of s rows)
