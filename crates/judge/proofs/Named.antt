-- Where a name is found by the numbers of lines: a line that no number follows is the line of one name.
use Rattle.std.proofs.Common.{◌≡◌, ℕ, ◌<◌, suc, true, false, cond, eqb, List, [], ◌∷◌, map, length, get_or, sym, refl, ap, ◌∙◌, true≢false, arith, eq-eqb, ne_eqb, lt-ltb, rules}
use Rattle.std.specs.Prelude.{Option, None, Some}
use Rattle.std.specs.Option.{option_map}
use Rattle.std.specs.List.{position, position_or_len, list_any}
use Rattle.std.proofs.lemmas.List.Recursion.{is_position_or_len}
use lib.Dec.{leb-suc-suc}
use Rattle.base.proofs.Tests.{by_test}
use Rattle.names.specs.Names.{same}
use Rattle.names.proofs.Laws.{same_refl, same_eq}
use Rattle.props.specs.Step.{name_at}
use Rattle.body.specs.Body.{first_named}
use Rattle.rules.specs.Table.{Line, free}
use Rattle.rules.specs.Rules.{lists, find_in}
use Rattle.judge.specs.Properties.{line_number}
use Rattle.judge.specs.ByLine.{first_number, has_number, place_by_line}
use Rattle.judge.specs.Private.{place_found}

-- ---- a number among some
module _ (k : ℕ) where
  is_first : (ns : List ℕ) → position_or_len (λ n. eqb n k) ns ≡ first_number ns k
  unfolding first_number
  is_first ns = sym (is_position_or_len (λ l. first_number l k) (λ n. eqb n k) refl (λ n more. ap (cond (eqb n k) 0) (omega arith)) ns)

  -- where its first place is, another list has what stands there
  pub at_first : (ps ns : List ℕ) {found : Option ℕ} → found ≡ position (λ n. eqb n k) ns → option_map (λ i. get_or ps i 0) found ≡ place_found ps ns k
  at_first ps ns e =
      rw (e, is_first ns)
      (by_test (has_number ns k) (λ t. rw t) (λ t. rw t))

  module _ (ps ns : List ℕ) where
    pub not_found : None ≡ place_found ps ns k → has_number ns k ≡ false
    not_found = by_test (has_number ns k) (λ t e. absurd (search (rules, rw t at e))) (λ t e. t)

    pub found_at : {at : ℕ} → Some at ≡ place_found ps ns k → (has_number ns k ≡ true) × (at ≡ place_by_line ps ns k)
    found_at = by_test (has_number ns k) (λ t e. (t, search (rules, rw t at e))) (λ t e. absurd (search (rules, rw t at e)))

  pub among : (ns : List ℕ) → list_any (λ n. eqb n k) ns ≡ has_number ns k
  unfolding first_number
  among [] = refl
  among (n ∷ ns) =
      by_test (eqb n k)
      (λ t. rw t (sym (lt-ltb 0 (suc (length ns)) (omega arith))))
      (λ t. rw t (among ns ∙ sym (leb-suc-suc (suc (first_number ns k)) (length ns))))

-- ---- a line and its names
-- the line that is found for a name has it
finds : (ls : List Line) (name : List ℕ) → find_in ls name < length ls → lists (get_or ls (find_in ls name) free) name ≡ true
unfolding find_in
finds [] name h = absurd (omega arith)
finds (l ∷ ls) name h = by_test (lists l name) (λ t. rw t t) (λ t. rw t (finds ls name (let g = rw t at h in omega (arith, g))))

module _ (ls : List Line) (k : ℕ) (inside : k < length ls) (plain : (get_or ls k free).numbered ≡ false) where
  -- a name that has it is its own
  only_name : (name : List ℕ) → find_in ls name ≡ k → name ≡ (get_or ls k free).name
  unfolding lists
  only_name name e =
      let has-it : lists (get_or ls k free) name ≡ true = rw (← e) (finds ls name (omega (arith, e, inside))) in
      same_eq name (get_or ls k free).name (rw plain at has-it)

  -- so that another name which has it is the same
  by_number : (name : List ℕ) → find_in ls name ≡ k → (other : List ℕ) → eqb (find_in ls other) k ≡ same other name
  by_number name e other =
      by_test (same other name)
      (λ t. eq-eqb _ _ (ap (find_in ls) (same_eq other name t) ∙ e) ∙ sym t)
      (λ t. ne_eqb _ _ (λ q. true≢false (sym (alike q) ∙ t)) ∙ sym t)
    where
      alike : find_in ls other ≡ k → same other name ≡ true
      alike q = ap (λ n. same n name) (only_name other q ∙ sym (only_name name e)) ∙ same_refl name

  module _ (s : List ℕ) where
    pub first_by_number : (name : List ℕ) → find_in ls name ≡ k → (starts : List ℕ) → first_number (map (line_number ls s) starts) k ≡ first_named s name starts
    unfolding first_number first_named
    first_by_number name e [] = refl
    first_by_number name e (at ∷ more) = rw (by_number name e (name_at s at), first_by_number name e more)
