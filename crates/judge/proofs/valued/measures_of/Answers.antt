-- `judge::valued::measures_of`: each kind by its letters.
use Rattle.std.proofs.Common.{ne_eqb}
use Rattle.judge.specs.ByLine.{beside_by_line}
use Rattle.judge.proofs.valued.measures_of.Goals as goal

pub returns-then-kind-eq-MESH : goal.returns-then-kind-eq-MESH
returns-then-kind-eq-MESH c = rw c.if-kind-eq-MESH.true c.mesh_measures.ensures

pub returns-then-kind-eq-BLEND_SHAPE : goal.returns-then-kind-eq-BLEND_SHAPE
returns-then-kind-eq-BLEND_SHAPE c = rw c.if-kind-eq-BLEND_SHAPE.true c.blend_shape_measures.ensures

pub returns-then-kind-eq-CURVE : goal.returns-then-kind-eq-CURVE
returns-then-kind-eq-CURVE c = rw c.if-kind-eq-CURVE.true c.curve_measures.ensures

pub returns : goal.returns
unfolding beside_by_line
returns c =
    rw (c.none.ensures, ne_eqb _ _ c.if-kind-eq-MESH.false, ne_eqb _ _ c.if-kind-eq-BLEND_SHAPE.false, ne_eqb _ _ c.if-kind-eq-CURVE.false)
