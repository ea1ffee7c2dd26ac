-- Of the lines of the node's kind, the judgement by lines is the one by names.
use Rattle.std.proofs.Common.{◌≡◌, ℕ, zero, suc, ◌<◌, false, eqb, List, [], map, length, get_or, sym, refl, arith, eqb-true}
use lib.ListN.{length-map}
use Rattle.base.specs.Refusals.{Refusal}
use Rattle.base.specs.Refusals.{refused_or}
use Rattle.base.specs.Letters.{letters}
use Rattle.base.proofs.Tests.{by_test}
use Rattle.names.specs.Names.{same, read_digits, number, number_after}
use Rattle.kinds.specs.Kinds.{mesh, blend_shape, curve}
use Rattle.body.specs.Body.{first_named}
use Rattle.rules.specs.Table.{lines, free}
use Rattle.rules.specs.Rules.{lists, find_in, of_kind, lines_of, required_in}
use Rattle.judge.specs.Properties.{line_number, has, length_of, value_of, types_of, beside_of}
use Rattle.judge.specs.Typed.{typed}
use Rattle.judge.specs.Missing.{unpartnered, lacks}
use Rattle.judge.specs.Judge.{verdict_at, judged_at}
use Rattle.judge.specs.ByLine.{vp_line, wb_line, wv_line, mi_line, vi_line, kp_line, kb_line, first_number, has_number, required_among, unpartnered_by_line, lacks_by_line, length_by_line, value_by_line, types_by_line, beside_by_line, verdict_by_line, judged_by_line}
use Rattle.judge.proofs.Named.{first_by_number}
use Rattle.judge.proofs.Lacking.{by_count}

-- where the property of a line stands, its name's does: where the line has no number after its name and is the first that has it
module _ (kind k : ℕ) (name : List ℕ) (inside : k < length (lines_of kind)) (plain : (get_or (lines_of kind) k free).numbered ≡ false)
    (here : k ≡ find_in (lines_of kind) name) (s starts : List ℕ) where
  abbrev numbers : List ℕ
  numbers = map (line_number (lines_of kind) s) starts

  first : first_number numbers k ≡ first_named s name starts
  first = first_by_number (lines_of kind) k inside plain s name (sym here) starts

  there : has_number numbers k ≡ has s starts name
  there = rw (first, length-map starts (line_number (lines_of kind) s))

  length_by : length_by_line s starts numbers k ≡ length_of s starts name
  unfolding length_by_line length_of
  length_by = rw (first, length-map starts (line_number (lines_of kind) s))

  value_by : value_by_line s starts numbers k ≡ value_of s starts name
  unfolding value_by_line value_of
  value_by = rw (first, length-map starts (line_number (lines_of kind) s))

-- ---- the lines that others are held against
module _ (s starts : List ℕ) where
  abbrev of : (kind : ℕ) → List ℕ
  of kind = map (line_number (lines_of kind) s) starts

  vp_line_lem : length_by_line s starts (of mesh) vp_line ≡ length_of s starts (letters "vp")
  unfolding lines of_kind lines_of find_in lists same number_after read_digits number letters
  vp_line_lem = length_by mesh vp_line (letters "vp") (omega arith) refl refl s starts

  mi_line_lem : value_by_line s starts (of mesh) mi_line ≡ value_of s starts (letters "mi")
  unfolding lines of_kind lines_of find_in lists same number_after read_digits number letters
  mi_line_lem = value_by mesh mi_line (letters "mi") (omega arith) refl refl s starts

  vi_line_lem : length_by_line s starts (of blend_shape) vi_line ≡ length_of s starts (letters "vi")
  unfolding lines of_kind lines_of find_in lists same number_after read_digits number letters
  vi_line_lem = length_by blend_shape vi_line (letters "vi") (omega arith) refl refl s starts

  kb_line_lem : length_by_line s starts (of curve) kb_line ≡ length_of s starts (letters "kb")
  unfolding lines of_kind lines_of find_in lists same number_after read_digits number letters
  kb_line_lem = length_by curve kb_line (letters "kb") (omega arith) refl refl s starts

  kp_line_lem : first_number (of curve) kp_line ≡ first_named s (letters "kp") starts
  unfolding lines of_kind lines_of find_in lists same number_after read_digits number letters
  kp_line_lem = first curve kp_line (letters "kp") (omega arith) refl refl s starts

  types_by : types_by_line s starts (of curve) ≡ types_of s starts
  unfolding types_by_line types_of
  types_by = rw (kp_line_lem, length-map starts (line_number (lines_of curve) s))

  -- what properties are held against
  beside_by : (kind bones : ℕ) → beside_by_line kind s starts (of kind) bones ≡ beside_of kind s starts bones
  unfolding beside_by_line beside_of
  beside_by kind bones =
      by_test (eqb kind mesh)
      (λ t. rw (eqb-true kind mesh t, vp_line_lem, mi_line_lem))
      (λ t.
      by_test (eqb kind blend_shape)
      (λ u. rw (eqb-true kind blend_shape u, vi_line_lem))
      (λ u.
      by_test (eqb kind curve)
      (λ v. rw (eqb-true kind curve v, kb_line_lem, types_by))
      (λ v. rw (t, u, v))))

  -- partners
  mesh_has : (has_number (of mesh) wb_line ≡ has s starts (letters "wb")) × (has_number (of mesh) wv_line ≡ has s starts (letters "wv"))
      × (has_number (of mesh) mi_line ≡ has s starts (letters "mi"))
  unfolding lines of_kind lines_of find_in lists same number_after read_digits number letters
  mesh_has = (
    there mesh wb_line (letters "wb") (omega arith) refl refl s starts,
    there mesh wv_line (letters "wv") (omega arith) refl refl s starts,
    there mesh mi_line (letters "mi") (omega arith) refl refl s starts,
  )

  unpartnered_by : (kind : ℕ) → unpartnered_by_line kind (of kind) ≡ unpartnered kind s starts
  unpartnered_by kind =
      by_test (eqb kind mesh) (λ t. rw (eqb-true kind mesh t, mesh_has.0, mesh_has.1, mesh_has.2)) (λ t. rw t)

  -- ---- 13, then 14, then 15
  module _ (kind bones : ℕ) where
    lacks_by : (typed (lines_of kind) s [] starts).number ≡ 0 →
        lacks_by_line kind (required_in (lines_of kind)) (required_among (lines_of kind) (of kind)) (of kind) ≡ lacks kind (lines_of kind) s starts
    unfolding lacks_by_line lacks
    lacks_by e = rw (by_count kind s starts e, unpartnered_by kind)

    verdict_by : verdict_by_line kind (required_in (lines_of kind)) (lines_of kind) s starts bones ≡ verdict_at kind (lines_of kind) s starts bones
    unfolding verdict_by_line verdict_at
    verdict_by =
        by_number (typed (lines_of kind) s [] starts).number (typed (lines_of kind) s [] starts) (λ e. rw (lacks_by e, beside_by kind bones))
      where
        by_number : (n : ℕ) (v : Refusal) {a b : Refusal} → (n ≡ 0 → a ≡ b) → refused_or n v a ≡ refused_or n v b
        by_number zero v e = e refl
        by_number (suc n) v e = refl

    pub by_line : judged_by_line kind (required_in (lines_of kind)) (lines_of kind) s starts bones ≡ judged_at kind (lines_of kind) s starts bones
    unfolding judged_by_line judged_at
    by_line = rw verdict_by
