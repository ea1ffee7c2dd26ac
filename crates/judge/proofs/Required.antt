-- How many of some properties have required lines, one property after the other.
use Rattle.std.proofs.Common.{◌≡◌, ℕ, ◌+◌, ◌≤◌, cond, List, [], ◌∷◌, ◌++◌, map, get_or, take, refl, ap, ◌∙◌, arith}
use mathlib.Core.List.{map-append}
use Rattle.rules.specs.Table.{Line, free}
use Rattle.judge.specs.Properties.{line_number}
use Rattle.judge.specs.ByLine.{required_among}

module _ (ls : List Line) where
  abbrev bit : Line → ℕ
  bit l = cond l.required 1 0

  one_more : (ns : List ℕ) (n : ℕ) → required_among ls (ns ++ (n ∷ [])) ≡ required_among ls ns + bit (get_or ls n free)
  unfolding required_among
  one_more [] n = omega arith
  one_more (m ∷ ns) n = omega (arith, one_more ns n)

  module _ (s all : List ℕ) where
    -- those before the i-th
    pub record Counted (i n : ℕ) : Type 0 where
      pub count : n ≡ required_among ls (map (line_number ls s) (take i all))
      pub most : n ≤ i

    pub none_counted : Counted 0 0
    unfolding required_among
    none_counted = record { count = refl; most = omega arith }

    pub counted : (i at : ℕ) {n : ℕ} → Counted i n → take (i + 1) all ≡ take i all ++ (at ∷ []) → {k : ℕ} → k ≡ line_number ls s at →
        {l : Line} → l ≡ get_or ls k free → {m : ℕ} → m ≡ bit l → m ≤ 1 → Counted (i + 1) (n + m)
    counted i at {n} o t {k} f {l} g {m} q h = record {
      count =
          let here : m ≡ bit (get_or ls (line_number ls s at) free) = q ∙ ap bit (g ∙ ap (λ k. get_or ls k free) f) in
          let more : required_among ls (map (line_number ls s) (take (i + 1) all)) ≡ required_among ls (map (line_number ls s) (take i all)) + bit (get_or ls (line_number ls s at) free)
          = ap (λ l. required_among ls (map (line_number ls s) l)) t ∙ ap (required_among ls) (map-append (line_number ls s) (take i all) (at ∷ [])) ∙ one_more (map (line_number ls s) (take i all)) (line_number ls s at) in
          omega (arith, here, more, o.count);
      most = omega (arith, o.most, h);
    }
