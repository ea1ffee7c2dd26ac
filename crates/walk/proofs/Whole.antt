-- How the walk over a file ends: its answer, the rows put into the table, and that they are at most 1,024.
use Rattle.std.specs.Prelude.{None}
use Prim.Native.Nat.{ℕ, suc, ◌<◌, ◌≤◌}
use native.Mathlib.Omega.{arith}
use native.Mathlib.Nat.{zero-add}
use mathlib.Core.Path.{◌≡◌, refl, sym, ◌∙◌}
use mathlib.Core.Bool.{true, false, and-eq-true_iff}
use mathlib.Core.List.{List}
use lib.Dec.{leb, eqb}
use lib.ListN.{length, drop}
use borrow.Author.Tests.{eq-eqb, ne_eqb, leb-true}
use Rattle.base.specs.Refusals.{refused_or}
use Rattle.base.proofs.Refusals.{goes_on, is_refused}
use Rattle.le.specs.Le.{number_at}
use Rattle.table.specs.Table.{no_parent, put_rows}
use Rattle.walk.specs.Walk.{Answer}
use Rattle.walk.specs.Private.{Reached}
use Rattle.walk.specs.Walk.{Walked, refused_walk, is_cast, walk_of, limited, flags_of, refused_answer, accepted_answer, answer, table_walked, children_at}
use Rattle.walk.specs.Private.{Came}
use Rattle.walk.proofs.Laws.{limited_is}

-- a file that starts as it must has its header's 16 bytes
pub header_there : (s : List ℕ) → is_cast s ≡ true → 16 ≤ length s
header_there s e = leb-true 16 (length s) ((and-eq-true_iff (leb 16 (length s)) (eqb (number_at 4 s 0) 0x74736163)).0 e).0

module _ (s t : List ℕ) where
  abbrev Ends : Answer → List ℕ → Type 0
  Ends r t' = (r ≡ answer s) × (t' ≡ table_walked s t) × (length (limited s).rows ≤ 1024)

  -- refused before its first node
  at_once : (n place : ℕ) {r : Answer} → limited s ≡ refused_walk (suc n) place → r ≡ refused_answer (suc n) place → Ends r t
  unfolding answer put_rows
  at_once n place e a = rw e (a, refl, omega arith)

  pub too_long_lem : 16777216 < length s → {r : Answer} → r ≡ refused_answer 2 0 → Ends r t
  too_long_lem l a = at_once 1 0 ((limited_is s).1 l) a

  module _ (short : length s ≤ 16777216) where
    walked : {w : Walked} → walk_of s ≡ w → limited s ≡ w
    walked e = (limited_is s).0 short ∙ e

    pub no_cast : is_cast s ≡ false → {r : Answer} → r ≡ refused_answer 3 0 → Ends r t
    unfolding walk_of
    no_cast e a = at_once 2 0 (walked (rw e)) a

    module _ (cast : is_cast s ≡ true) where
      pub no_version : (number_at 4 s 4 ≡ 1 → ⊥) → {r : Answer} → r ≡ refused_answer 4 4 → Ends r t
      unfolding walk_of
      no_version e a = at_once 3 4 (walked (rw (cast, ne_eqb _ _ e))) a

      -- its nodes are walked
      module _ (version : number_at 4 s 4 ≡ 1) {roots : ℕ} (counted : roots ≡ number_at 4 s 8) {r : Reached} {t' : List ℕ}
          (c : Came r (children_at None no_parent 1 roots 16 0 (drop 16 s)) 16 0 (drop 16 s) t t') where
        abbrev w : Walked
        w = children_at None no_parent 1 roots 16 0 (drop 16 s)

        is : limited s ≡ w
        unfolding walk_of
        is = walked (rw (cast, eq-eqb _ _ version, counted))

        by_nodes : {a : Answer} → a ≡ refused_or w.number (refused_answer w.number w.at) (accepted_answer (length w.rows) (flags_of s))
            → Ends a t'
        unfolding answer
        by_nodes e = rw is (e, c.table, omega (arith, c.rows, c.few))

        pub nodes_refused : (r.number ≡ 0 → ⊥) → {a : Answer} → a ≡ refused_answer r.number r.at → Ends a t'
        nodes_refused z e = by_nodes (e ∙ (rw (c.number, c.reached) (sym (is_refused w.number _ _ (λ n. z (c.number ∙ n))))))

        pub nodes_done : r.number ≡ 0 → {flags : ℕ} → flags ≡ flags_of s → Ends (accepted_answer r.rows flags) t'
        nodes_done z e = by_nodes (rw (e, c.rows, zero-add) (sym (goes_on w.number _ _ (sym c.number ∙ z))))
