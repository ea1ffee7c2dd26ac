-- The links of a node, a property at a time.
use Prim.Native.Nat.{ℕ, suc, ◌+◌, ◌-◌, ◌≤◌, ◌<◌}
use native.Mathlib.Omega.{arith}
use native.Mathlib.Numerals.{add-one}
use mathlib.Core.Path.{◌≡◌, ap, ◌∙◌}
use mathlib.Core.List.{List}
use lib.ListN.{length, get_or, drop, length-take, length-drop, drop_of_length-le}
use lib.Seq.{drop-cons}
use Rattle.base.specs.Refusals.{refused_or}
use Rattle.le.specs.Le.{number_at}
use Rattle.table.specs.declared.Row.{Row}
use Rattle.props.specs.Step.{name_at}
use Rattle.rules.specs.declared.Held.TheVariants as H
use Rattle.rules.specs.declared.Line.{Line as CodeLine}
use Rattle.rules.specs.Table.{Line, free}
use Rattle.rules.specs.Packing.{line_of}
use Rattle.rules.specs.Rules.{find_in}
use Rattle.rules.proofs.Laws.{found}
use Rattle.rules.proofs.Helds.{no_link}
use Rattle.judge.specs.Properties.{rule_at, rest_at}
use Rattle.format.specs.Rows.{body_of}
use Rattle.links.specs.Links.{Linked}
use Rattle.links.specs.Links.{refusal_of, refused_links, accepted_links}
use Rattle.links.specs.Private.{Count, node_linked}

-- the line of a property, as it is found
pub ruled : (ls : List Line) (s : List ℕ) (at : ℕ) {name : List ℕ} {k : ℕ} {l : Line} → name ≡ name_at s at → k ≡ find_in ls name
    → l ≡ get_or ls k free → l ≡ rule_at ls s at
ruled ls s at f g h = rw (h, g, f) (found ls (name_at s at))

module _ (count : Count) (ls : List Line) (start : ℕ) (s starts : List ℕ) (n i : ℕ) where
  abbrev from : (n i : ℕ) → Linked
  from n i = node_linked count ls start s n (drop i starts)

  abbrev at : ℕ
  at = get_or starts i 0

  module _ (h : i < length starts) (c : CodeLine) (line : line_of c ≡ rule_at ls s at) where
    pub node_other : ((kind : ℕ) → c.held ≡ H.Link kind → ⊥) → from n i ≡ from n (i + 1)
    unfolding node_linked
    node_other f = rw (add-one, drop-cons starts i 0 h, ← line) (no_link c.held _ _ f)

    module _ {target : ℕ} (f : c.held ≡ H.Link target) {r hash : ℕ} {bytes : List ℕ} (x : r ≡ count target hash) (y : hash ≡ number_at 8 bytes 0)
        (z : bytes ≡ rest_at s at) where
      abbrev by : ℕ → Linked
      by k = refused_or (refusal_of k) (refused_links (refusal_of k) (start + at)) (from (n + 1) (i + 1))

      linking : from n i ≡ by r
      unfolding node_linked
      linking = rw (x, y, z, add-one n, add-one i, drop-cons starts i 0 h, ← line, f)

      pub node_none : r ≡ 0 → from n i ≡ refused_links 16 (start + at)
      node_none g = linking ∙ ap by g

      pub node_one : r ≡ 1 → from n i ≡ from (n + 1) (i + 1)
      node_one g = linking ∙ ap by g

      pub node_many : (r ≡ 0 → ⊥) → (r ≡ 1 → ⊥) → from n i ≡ refused_links 17 (start + at)
      node_many g k = let m : r ≡ suc (suc (r - 2)) = omega (arith, g, k) in linking ∙ ap by m

  pub node_ended : length starts ≤ i → from n i ≡ accepted_links n
  unfolding node_linked
  node_ended h = rw (drop_of_length-le starts h)

-- ---- a row
pub body_fits : (s : List ℕ) (r : Row) → {body : List ℕ} → body ≡ body_of s r → length body ≤ length s
body_fits s r e = rw e (simp (length-take, length-drop) (omega arith))
