-- The links of a node all resolve exactly where each of its link properties reaches one row.
use Prim.Native.Nat.{ℕ, zero, suc, ◌+◌}
use native.Mathlib.Omega.{arith}
use mathlib.Core.Path.{◌≡◌, refl, sym, ap, ◌∙◌, subst}
use mathlib.Core.Bool.{false≢true}
use mathlib.Core.Logic.{◌↔◌}
use mathlib.Core.List.{List, ◌∷◌}
use lib.ListN.{length}
use Rattle.le.specs.Le.{val}
use Rattle.table.specs.declared.Row.{Row}
use Rattle.body.specs.Body.{properties}
use Rattle.rules.specs.Table.{Line, link_to}
use Rattle.rules.proofs.Laws.{rule_of}
use Rattle.rules.proofs.Helds.{is_link, by_link, one_kind}
use Rattle.rules.specs.Rules.{lines_of}
use Rattle.base.specs.Refusals.{refused_or}
use Rattle.base.specs.Lists.{Each}
use Rattle.format.specs.Layout.{Property, GoodBody}
use Rattle.base.proofs.Lists.{each_map}
use Rattle.links.specs.Links.{Linked}
use Rattle.links.specs.Links.{reached, links_at, refusal_of, refused_links, resolved}
use Rattle.valid.specs.Lines.{ByLine}
use Rattle.valid.specs.Obeys.{FitsLine}
use Rattle.valid.proofs.Ruled.{FitsRules}
use Rattle.valid.proofs.Agree.{fits_rules}
use Rattle.valid.proofs.Listed.{to_line, from_line}
use Rattle.valid.proofs.Described.{Described, none, one, described}
use Rattle.valid.proofs.Lines.{link_line}
use Rattle.valid.proofs.Values.{takes_only, hash_read}

one_target : (n place : ℕ) (next : Linked) → ((refused_or (refusal_of n) (refused_links (refusal_of n) place) next).number ≡ 0) ↔ (n ≡ 1) × (next.number ≡ 0)
one_target zero place next = (λ e. absurd (omega arith), λ h. absurd (omega (arith, h.0)))
one_target (suc zero) place next = (λ e. (refl, e), λ h. h.1)
one_target (suc (suc n)) place next = (λ e. absurd (omega arith), λ h. absurd (omega (arith, h.0)))

-- where its line makes it a link, it reaches one row
abbrev ReachedBy : (all : List Row) → Property → Line → Type 0
ReachedBy all p l = (to : ℕ) → l.held ≡ link_to to → length (reached to (val p.content) 0 all) ≡ 1

abbrev pub RowReached : (all : List Row) (kind : ℕ) → Property → Type 0
RowReached all kind p = ByLine kind p.name (ReachedBy all p)

reaches_agree : (all : List Row) (kind : ℕ) (p : Property) → ReachedBy all p (rule_of kind p.name) ↔ RowReached all kind p
reaches_agree all kind p = (to_line kind p.name (ReachedBy all p), from_line kind p.name (ReachedBy all p) (λ to e. absurd (false≢true (ap is_link e))))

module _ (all : List Row) (kind row start : ℕ) (s : List ℕ) where
  resolved_right : {starts : List ℕ} {ps : List Property} → Described s starts ps → FitsRules kind ps → (m : ℕ) →
      ((resolved m (links_at all (lines_of kind) row start s starts)).number ≡ 0) ↔ Each (λ p. ReachedBy all p (rule_of kind p.name)) ps
  unfolding links_at resolved
  resolved_right none fits m = (λ e. tt, λ h. refl)
  resolved_right (one {at} {p} {starts} {ps} a d) fits m =
      let held = (rule_of kind p.name).held in
      let Reached = Each (λ p. ReachedBy all p (rule_of kind p.name)) (p ∷ ps) in
      rw a.name
      (by_link (λ links. ((resolved m links).number ≡ 0) ↔ Reached) held _ _
      (λ to link.
      let line = link_line kind p.name to link in
      let hash = hash_read a (takes_only fits.0.0 line.0) (fits.0.1 line.1) in
      let targets = length (reached to (val p.content) 0 all) in
      let here = one_target targets (start + at) (resolved (suc m) (links_at all (lines_of kind) row start s starts)) in
      let ih = resolved_right d fits.1 (suc m) in
      rw hash (
        λ e. (λ k j. subst (λ k. length (reached k (val p.content) 0 all) ≡ 1) (one_kind (sym link ∙ j)) (here.0 e).0, ih.0 (here.0 e).1),
        λ h. here.1 (h.0 to link, ih.1 h.1),
      ))
      (λ other.
      let ih = resolved_right d fits.1 m in
      (λ e. (λ k j. absurd (other k j), ih.0 e), λ h. ih.1 h.1)))

-- for callers
module _ (all : List Row) (kind row start n m : ℕ) (s : List ℕ) (good : GoodBody n s)
    (fits : Each (λ p. ByLine kind p.name (λ l. FitsLine l p)) good.properties) where
  pub links_reach : (resolved m (links_at all (lines_of kind) row start s (properties s n).starts)).number ≡ 0 → Each (RowReached all kind) good.properties
  links_reach e =
      each_map (λ p. (reaches_agree all kind p).0) good.properties
      ((resolved_right all kind row start s (described n s good) ((fits_rules kind good.properties).1 fits) m).0 e)

  pub links_good : Each (RowReached all kind) good.properties → (resolved m (links_at all (lines_of kind) row start s (properties s n).starts)).number ≡ 0
  links_good h =
      (resolved_right all kind row start s (described n s good) ((fits_rules kind good.properties).1 fits) m).1
      (each_map (λ p. (reaches_agree all kind p).1) good.properties h)
