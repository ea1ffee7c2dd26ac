-- `judge::missing::unpartnered`: only a mesh has partners.
use Rattle.std.proofs.Common.{◌∙◌, eq-eqb, ne_eqb}
use Rattle.judge.proofs.missing.unpartnered.Goals as goal

pub returns-then-kind-ne-MESH : goal.returns-then-kind-ne-MESH
returns-then-kind-ne-MESH c = rw (ne_eqb _ _ c.if-kind-ne-MESH.true)

pub returns : goal.returns
returns c = c.mesh_unpartnered.ensures ∙ rw (eq-eqb _ _ c.if-kind-ne-MESH.false)
