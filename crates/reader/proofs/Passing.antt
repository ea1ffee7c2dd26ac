-- The properties of a walked file's known nodes are passed, so that their places are found again by their headers alone; and the Bones of
-- a file that has none.
use Rattle.std.specs.Prelude.{Some}
use Prim.Native.Nat.{ℕ, suc, ◌+◌}
use mathlib.Core.Path.{◌≡◌, refl, ap, sym, ◌∙◌}
use mathlib.Core.Bool.{Bool, true, false, ◌||◌, true≢false, and-eq-true_iff, false≢true}
use mathlib.Core.List.{List, [], ◌∷◌, ◌++◌}
use lib.Dec.{eqb}
use lib.ListN.{length, get_or}
use borrow.Author.Tests.{eqb-true}
use Rattle.base.specs.Lists.{Each}
use Rattle.base.proofs.Lists.{each_append}
use Rattle.kinds.specs.Kinds.{bone}
use Rattle.table.specs.declared.Row.{Row}
use Rattle.table.specs.Table.{no_parent}
use Rattle.table.proofs.Rests.{rest}
use Rattle.table.proofs.Counts.{counted_none}
use Rattle.body.specs.Body.{properties, exactly, skimmed}
use Rattle.body.proofs.Skimmed.{skimmed_passed}
use Rattle.format.specs.Forest.{Forest, end, known, unknown, nodes, encode, file_of}
use Rattle.format.specs.Rows.{rows, rows_of}
use Rattle.format.specs.Layout.{GoodBody, WellFormed, WellFormedFile}
use Rattle.format.proofs.Bodies.{good_exactly}
use Rattle.judge.specs.Judge.{judged_at, judged}
use Rattle.rules.specs.Rules.{lines_of}
use Rattle.reader.specs.Private.{Passed, BonesCounted, has_kind}
use Rattle.reader.proofs.Parts.{Lie, known_parts, after_unknown, file_lies}

-- ---- a walked file's rows
good_passed : (k : ℕ) (s : List ℕ) → GoodBody k s → (properties s k).number ≡ 0
unfolding exactly
good_passed k s good = eqb-true (properties s k).number 0 ((and-eq-true_iff (eqb (properties s k).number 0) _).0 (good_exactly k s good)).0

module _ (s : List ℕ) where
  passed_rows : (f : Forest) (post : List ℕ) (parent row at : ℕ) → WellFormed f → Lie s f post at → Each (Passed s) (rows f parent row at)
  passed_rows end post parent row at well lie = tt
  passed_rows (known k h ps body kids next) post parent row at well lie =
      let here : ℕ = at + 24 + length body in
      let parts = known_parts s post at k h ps body kids next lie in (
        λ is. ap (λ l. (properties l ps).number) parts.body_here ∙ good_passed ps body well.3,
        (each_append (Passed s) (rows kids row (suc row) here) (rows next parent (suc row + nodes kids) (here + length (encode kids)))).1 (
          passed_rows kids (encode next ++ post) row (suc row) here well.4 parts.below,
          passed_rows next post parent (suc row + nodes kids) (here + length (encode kids)) well.5 parts.beside,
        ),
      )
  passed_rows (unknown k h ps c rest next) post parent row at well lie = (
    λ is. absurd (false≢true (sym well.0 ∙ is)),
    passed_rows next post parent (suc row) (at + 24 + length rest) well.3 (after_unknown s post at k h ps c rest next lie),
  )

pub file_passed : (s : List ℕ) (flags : ℕ) (f : Forest) → WellFormedFile flags f → s ≡ file_of flags f → Each (Passed s) (rows_of f)
file_passed s flags f well e = passed_rows s f [] no_parent 0 16 well.2 (file_lies s flags f e)

-- a known node's judgement by places that its headers tell is the one by places that the walk tells
pub judged_skimmed : (kind count : ℕ) (s : List ℕ) (bones : ℕ) → (properties s count).number ≡ 0 →
    judged_at kind (lines_of kind) s (skimmed s count) bones ≡ judged kind count s bones
unfolding judged
judged_skimmed kind count s bones e = ap (λ starts. judged_at kind (lines_of kind) s starts bones) (sym (skimmed_passed s count e))

-- ---- no Bones
boneless : (rs : List Row) (p : ℕ) → has_kind bone rs ≡ false → Each (λ r. eqb r.kind bone ≡ true → r.parent ≡ p → ⊥) rs
unfolding has_kind
boneless [] p e = tt
boneless (r ∷ rs) p e = let both = neither (eqb r.kind bone) (has_kind bone rs) e in (λ k q. true≢false (sym k ∙ both.0), boneless rs p both.1)
  where
    neither : (a b : Bool) → (a || b) ≡ false → (a ≡ false) × (b ≡ false)
    neither true b e = absurd (true≢false e)
    neither false b e = (refl, e)

pub none_counted : (rs : List Row) → has_kind bone rs ≡ false → {bones : List ℕ} → bones ≡ [] → BonesCounted bones rs
none_counted rs e n p = ap (λ l. get_or l p 0) n ∙ sym (counted_none (Some bone) rs p (boneless rs p e))
