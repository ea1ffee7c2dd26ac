-- 14: whether a name is among those of some properties, one at a time; and partners.
use Rattle.std.proofs.Common.{◌≡◌, ℕ, suc, Bool, true, false, not, ◌&&◌, ◌||◌, List, [], ◌∷◌, ◌++◌, length, arith, lt-ltb}
use lib.Dec.{leb-suc-suc}
use Rattle.base.proofs.Tests.{by_test}
use Rattle.names.specs.Names.{same}
use Rattle.props.specs.Step.{name_at}
use Rattle.body.specs.Body.{first_named}
use Rattle.judge.specs.Properties.{has}
use Rattle.judge.specs.Missing.{partnered}

module _ (s name : List ℕ) where
  pub has_cons : (at : ℕ) (more : List ℕ) → has s (at ∷ more) name ≡ (same (name_at s at) name || has s more name)
  unfolding first_named
  has_cons at more =
      by_test (same (name_at s at) name)
      (λ e. rw e (lt-ltb 0 (suc (length more)) (omega arith)))
      (λ e. rw e (leb-suc-suc (suc (first_named s name more)) (length more)))

  -- one more after them
  pub has_snoc : (starts : List ℕ) (at : ℕ) → has s (starts ++ (at ∷ [])) name ≡ (has s starts name || same (name_at s at) name)
  unfolding first_named
  has_snoc [] at = by_test (same (name_at s at) name) (λ e. rw e) (λ e. rw e)
  has_snoc (b ∷ starts) at =
      rw (has_cons b (starts ++ (at ∷ [])), has_cons b starts, has_snoc starts at)
      (by_test (same (name_at s b) name) (λ e. rw e) (λ e. rw e))

-- ---- partners: mi is asked for only where wb or wv is there
module _ (wb wv mi : Bool) where
  pub without_weights : (not wb && not wv) ≡ true → false ≡ not (partnered wb wv mi)
  without_weights e = rw e

  pub with_weights : (not wb && not wv) ≡ false → not ((wb && wv) && mi) ≡ not (partnered wb wv mi)
  with_weights e = rw e
