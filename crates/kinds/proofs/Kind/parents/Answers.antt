-- `kinds::Kind::parents`: by the kind.
use mathlib.Core.Path.{◌≡◌, ap, sym}
use mathlib.Core.Logic.{⊎_elim}
use Rattle.kinds.specs.declared.Kind.{Kind}
use Rattle.kinds.specs.Kinds.{kind_number, parents_table, parents_in, parents_of}
use Rattle.kinds.proofs.Kind.parents.Goals as goal

-- the parents of a kind that is known
at : {a b : Kind} → a ≡ b → parents_of (kind_number b) ≡ parents_of (kind_number a)
at e = ap (λ k. parents_of (kind_number k)) (sym e)

pub returns-in-Root : goal.returns-in-Root
unfolding parents_of parents_in parents_table
returns-in-Root c = at c.in-Root.is

pub returns-in-Model : goal.returns-in-Model
unfolding parents_of parents_in parents_table
returns-in-Model c = ⊎_elim at (⊎_elim at (⊎_elim at at)) c.in-Model.is

pub returns-in-Mesh : goal.returns-in-Mesh
unfolding parents_of parents_in parents_table
returns-in-Mesh c = ⊎_elim at (⊎_elim at (⊎_elim at at)) c.in-Mesh.is

pub returns-in-Bone : goal.returns-in-Bone
unfolding parents_of parents_in parents_table
returns-in-Bone c = ⊎_elim at (⊎_elim at at) c.in-Bone.is

pub returns-in-Curve : goal.returns-in-Curve
unfolding parents_of parents_in parents_table
returns-in-Curve c = ⊎_elim at (⊎_elim at at) c.in-Curve.is

pub returns-in-File : goal.returns-in-File
unfolding parents_of parents_in parents_table
returns-in-File c = at c.in-File.is
