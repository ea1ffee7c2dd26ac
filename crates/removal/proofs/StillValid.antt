-- A valid file is valid without some of its unknown nodes.
use Rattle.std.specs.Prelude.{Option, Some, None}
use Prim.Native.Nat.{ℕ, ◌+◌}
use native.Mathlib.Omega.{arith}
use mathlib.Core.Path.{◌≡◌, refl, ◌∙◌}
use mathlib.Core.Bool.{true, false}
use mathlib.Core.List.{List}
use lib.ListN.{length, length-append}
use Rattle.le.specs.Le.{val}
use Rattle.kinds.specs.Kinds.{bone, is_known, parents_of, parents_in, parents_table}
use Rattle.rules.specs.Table.{lines as rules}
use Rattle.format.specs.Forest.{Forest, count, encode, file_header, file_of}
use Rattle.format.specs.Layout.{Property, WellFormed, Placed}
use Rattle.format.proofs.Headers.{length_file_header}
use Rattle.base.proofs.Lists.{each_both, each_map}
use Rattle.valid.specs.Valid.{Valid, bones, EachKnown, reaches, Links}
use Rattle.removal.proofs.Marked.{Marked, mend, mkn, mun, bare, kept, length_kept, count_kept, nodes_kept}
use Rattle.removal.proofs.Targets.{ToKnown, targets_known, unlike}

unfoldable pub well_kept : (m : Marked) → WellFormed (bare m) → WellFormed (kept m)
well_kept mend w = tt
well_kept (mkn k h p body kids next) (known, (a, b, c, d, e), bytes, good, below, beside) =
    let shorter = length_kept kids in
    let fewer = count_kept kids in
    (known, (a, omega arith, c, d, omega arith), bytes, good, well_kept kids below, well_kept next beside)
well_kept (mun true k h p c rest next) w = well_kept next w.3
well_kept (mun false k h p c rest next) w = (w.0, w.1, w.2, well_kept next w.3)

placed_kept : (parent : Option ℕ) (m : Marked) → Placed parent (bare m) → Placed parent (kept m)
placed_kept parent mend w = tt
placed_kept parent (mkn k h p body kids next) w = (w.0, placed_kept (Some k) kids w.1, placed_kept parent next w.2)
placed_kept parent (mun true k h p c rest next) w = placed_kept parent next w.1
placed_kept parent (mun false k h p c rest next) w = (w.0, placed_kept parent next w.1)

pub length_file : (flags : ℕ) (f : Forest) → length (file_of flags f) ≡ 16 + length (encode f)
unfolding file_of
length_file flags f = length-append (file_header (count f) flags) (encode f) ∙ rw (length_file_header (count f) flags)

bone_known : is_known bone ≡ true
unfolding is_known parents_of parents_in parents_table
bone_known = refl

pub bones_kept : (m : Marked) → WellFormed (bare m) → bones (kept m) ≡ bones (bare m)
bones_kept mend w = refl
bones_kept (mkn k h p body kids next) w = rw (bones_kept next w.5)
bones_kept (mun true k h p c rest next) w = rw (unlike k bone w.0 bone_known) (bones_kept next w.3)
bones_kept (mun false k h p c rest next) w = rw (bones_kept next w.3)

-- no node of a known kind goes
module _ (kind hash : ℕ) (is_one : is_known kind ≡ true) where
  pub reaches_kept : (m : Marked) → WellFormed (bare m) → reaches kind hash (kept m) ≡ reaches kind hash (bare m)
  reaches_kept mend w = refl
  reaches_kept (mkn k h p body kids next) w = rw (reaches_kept kids w.4, reaches_kept next w.5)
  reaches_kept (mun true k h p c rest next) w = rw (unlike k kind w.0 is_one) (reaches_kept next w.3)
  reaches_kept (mun false k h p c rest next) w = rw (reaches_kept next w.3)

-- what holds of each known node still does
module _ {P Q : (beside kind count : ℕ) (body : List ℕ) → Type 0}
    (so : (beside kind count : ℕ) (body : List ℕ) → P beside kind count body → Q beside kind count body) where
  each_kept : (beside : ℕ) (m : Marked) → WellFormed (bare m) → EachKnown P beside (bare m) → EachKnown Q beside (kept m)
  each_kept beside mend w e = tt
  each_kept beside (mkn k h p body kids next) w e =
      (so beside k p body e.0, rw (bones_kept kids w.4) (each_kept (bones (bare kids)) kids w.4 e.1), each_kept beside next w.5 e.2)
  each_kept beside (mun true k h p c rest next) w e = each_kept beside next w.3 e
  each_kept beside (mun false k h p c rest next) w e = each_kept beside next w.3 e

links_kept : (m : Marked) → WellFormed (bare m) → (kind : ℕ) (p : Property) → Links (bare m) kind p → Links (kept m) kind p
links_kept m w kind p links =
    each_map (λ l b k n to e. reaches_kept to (val p.content) (b.0 to e) m w ∙ b.1 k n to e) rules
    ((each_both ToKnown _ rules).0 (targets_known, links))

pub valid_kept : (flags : ℕ) (m : Marked) → Valid flags (bare m) → Valid flags (kept m)
valid_kept flags m v =
    let well = v.well_formed.2 in
    let fewer = count_kept m in
    record {
      well_formed = (v.well_formed.0, omega arith, well_kept m well);
      placed = placed_kept None m v.placed;
      few = omega (arith, nodes_kept m);
      short = omega (arith, length_kept m, length_file flags (bare m), length_file flags (kept m));
      ruled = rw (bones_kept m well) (each_kept (λ beside kind count body p. p) (bones (bare m)) m well v.ruled);
      linked =
          rw (bones_kept m well)
          (each_kept (λ beside kind count body p good. each_map (links_kept m well kind) good.properties (p good))
          (bones (bare m)) m well v.linked);
    }

pub kept_well : (flags : ℕ) (m : Marked) (v : Valid flags (bare m)) → (valid_kept flags m v).well_formed.2 ≡ well_kept m v.well_formed.2
unfolding valid_kept
kept_well flags m v = refl
