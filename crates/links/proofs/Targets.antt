-- The hashes of the four kinds that links reach, counted, tell how many rows a link reaches.
use Prim.Native.Nat.{ℕ, suc, min}
use mathlib.Core.Path.{◌≡◌, refl, ap}
use mathlib.Core.Logic.{⊎_elim}
use mathlib.Core.Bool.{Bool, true, ◌||◌}
use mathlib.Core.List.{List, [], ◌∷◌}
use lib.Dec.{eqb}
use lib.ListN.{length}
use borrow.Author.Tests.{eqb-true}
use Rattle.base.proofs.Tests.{by_test}
use Rattle.kinds.specs.Kinds.{mesh, bone, material, file}
use Rattle.table.specs.declared.Row.{Row}
use Rattle.rules.specs.Table.{Line, link_to, lines}
use Rattle.rules.proofs.Laws.{rule_of, all, ruled}
use Rattle.rules.specs.Rules.{if_link}
use Rattle.format.specs.Rows.{hash_of}
use Rattle.links.specs.Private.{hashes_of, occurrences, Same, Ascending, AllAscending, Count, hashes_for, count_in}
use Rattle.links.specs.Links.{reached}

pub reached_count : (kind hash i : ℕ) (rs : List Row) → length (reached kind hash i rs) ≡ occurrences hash (hashes_of kind rs)
unfolding reached hashes_of occurrences
reached_count kind hash i [] = refl
reached_count kind hash i (r ∷ rs) =
    by_test
    (eqb r.kind kind)
    (λ e. by_test
    (eqb (hash_of r) hash)
    (λ f. rw (e, f) (ap suc (reached_count kind hash (suc i) rs)))
    (λ f. rw (e, f) (reached_count kind hash (suc i) rs)))
    (λ e. rw e (reached_count kind hash (suc i) rs))

-- ---- a link's target is one of the four kinds
abbrev is_target : ℕ → Bool
is_target kind = eqb kind material || (eqb kind mesh || (eqb kind bone || eqb kind file))

abbrev aims : Line → Bool
aims l = if_link l.held is_target true

lines_aim : all aims lines ≡ true
unfolding all lines
lines_aim = refl

module _ (kind : ℕ) (name : List ℕ) where
  target : (to : ℕ) → (rule_of kind name).held ≡ link_to to → is_target to ≡ true
  target to e = rw e at (⊎_elim (λ f. ap aims f) (λ l. l.0) (ruled aims kind name lines_aim))

-- ---- the counts of four lists that have the hashes of the four kinds
pub record CountsReached (count : Count) (rows : List Row) : Type 0 where
  pub right : (kind : ℕ) (name : List ℕ) (to hash : ℕ) → (rule_of kind name).held ≡ link_to to → count to hash ≡ min (length (reached to hash 0 rows)) 2

pub ascending_for : (m e b f : List ℕ) (kind : ℕ) → AllAscending m e b f → Ascending (hashes_for m e b f kind)
ascending_for m e b f kind h =
    by_test (eqb kind material) (λ t. rw t h.0)
    (λ t. by_test (eqb kind mesh) (λ u. rw (t, u) h.1)
    (λ u. by_test (eqb kind bone) (λ v. rw (t, u, v) h.2) (λ v. rw (t, u, v) h.3)))

abbrev Hashes : List ℕ → (kind : ℕ) → List Row → Type 0
Hashes xs kind rows = Same xs (hashes_of kind rows)

module _ (rows : List Row) (m e b f : List ℕ) (sm : Hashes m material rows) (se : Hashes e mesh rows) (sb : Hashes b bone rows)
    (sf : Hashes f file rows) where
  same_kind : (kind : ℕ) → is_target kind ≡ true → Hashes (hashes_for m e b f kind) kind rows
  same_kind kind h x =
      by_test (eqb kind material) (λ t. rw (t, eqb-true kind material t) (sm x))
      (λ t. by_test (eqb kind mesh) (λ u. rw (t, u, eqb-true kind mesh u) (se x))
      (λ u. by_test (eqb kind bone) (λ v. rw (t, u, v, eqb-true kind bone v) (sb x))
      (λ v. rw (t, u, v, eqb-true kind file (rw (t, u, v) at h)) (sf x))))

  pub counts_reached : CountsReached (count_in m e b f) rows
  counts_reached = record { right = λ kind name to hash h. rw (same_kind to (target kind name to h) hash, reached_count to hash 0 rows) }
