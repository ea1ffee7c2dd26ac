-- What properties are held against, read over places, is what the properties say.
use Prim.Native.Nat.{ℕ, ◌*◌}
use mathlib.Core.Path.{◌≡◌}
use mathlib.Core.List.{List}
use lib.Dec.{eqb}
use Rattle.base.proofs.Tests.{by_test}
use Rattle.kinds.specs.Kinds.{mesh, blend_shape, curve}
use Rattle.props.specs.Step.{length_at}
use Rattle.base.specs.Letters.{letters}
use Rattle.props.specs.Types.{float}
use Rattle.rules.specs.Table.{only}
use Rattle.rules.proofs.Laws.{rule_of}
use Rattle.judge.specs.Properties.{Beside, rest_at, value_at, length_of, value_of, wanted_types, types_of, beside_of}
use Rattle.format.specs.Layout.{Property}
use Rattle.valid.specs.Obeys.{FitsLine, value, elements_of, first_value_of, vertex_count}
use Rattle.valid.proofs.Ruled.{FitsRules, wanted}
use Rattle.valid.proofs.Described.{Described}
use Rattle.base.proofs.Lists.{each_map}
use Rattle.valid.proofs.Names.{read_named}
use Rattle.valid.proofs.Lines.{weights_each, key_text}
use Rattle.valid.proofs.Values.{takes_number, takes_only, value_read, string_ends}
use Rattle.valid.proofs.Strings.{key_alone}

-- what the rules of each kind ask for
pub record Beheld (kind : ℕ) (ps : List Property) (beside : ℕ) (b : Beside) : Type 0 where
  pub vertices : kind ≡ mesh → b.vertices ≡ vertex_count ps
  pub weights : kind ≡ mesh → b.weights ≡ first_value_of (letters "mi") ps * vertex_count ps
  pub indices : kind ≡ blend_shape → b.indices ≡ elements_of (letters "vi") ps
  pub keys : kind ≡ curve → b.keys ≡ elements_of (letters "kb") ps
  pub types : kind ≡ curve → b.types ≡ wanted ps
  pub bones : b.bones ≡ beside

-- a property of a name fits the line of that name
fits_named : (kind : ℕ) (p : Property) {k : ℕ} {name : List ℕ} → kind ≡ k → p.name ≡ name → FitsLine (rule_of kind p.name) p → FitsLine (rule_of k name) p
fits_named kind p k e f = rw (k, e) at f

module _ (kind : ℕ) (s : List ℕ) {starts : List ℕ} {ps : List Property} (d : Described s starts ps)
    (fits : FitsRules kind ps) where
  length_of_lem : (name : List ℕ) → length_of s starts name ≡ elements_of name ps
  unfolding length_of
  length_of_lem name = read_named s name (length_at s) (λ p. p.elements) 0 d (each_map (λ p f at a e. a.elements) ps fits)

  weights_of : kind ≡ mesh → value_of s starts (letters "mi") ≡ first_value_of (letters "mi") ps
  unfolding value_of
  weights_of k =
      read_named s (letters "mi") (value_at s) (λ p. value p 0) 0 d
      (each_map (λ p f at a e.
      let g = fits_named kind p k e f in
      value_read a (takes_number p.code g.0 weights_each.0) (g.1 weights_each.1)) ps fits)

  types_of_lem : kind ≡ curve → types_of s starts ≡ wanted ps
  unfolding types_of
  types_of_lem k =
      read_named s (letters "kp") (λ at. wanted_types (rest_at s at)) (λ p. wanted_types p.content) (only float) d
      (each_map (λ p f at a e.
      rw a.rest (key_alone (string_ends a (takes_only (fits_named kind p k e f).0 key_text)) a.more)) ps fits)

  pub beheld : (bones : ℕ) → Beheld kind ps bones (beside_of kind s starts bones)
  unfolding beside_of
  beheld bones = record {
    vertices = λ k. rw k (length_of_lem (letters "vp"));
    weights = λ k. rw (k, length_of_lem (letters "vp"), weights_of k);
    indices = λ k. rw k (length_of_lem (letters "vi"));
    keys = λ k. rw k (length_of_lem (letters "kb"));
    types = λ k. rw k (types_of_lem k);
    bones =
        by_test (eqb kind mesh) (λ e. rw e)
        (λ e. by_test (eqb kind blend_shape) (λ f. rw (e, f))
        (λ f. by_test (eqb kind curve) (λ g. rw (e, f, g)) (λ g. rw (e, f, g))));
  }
