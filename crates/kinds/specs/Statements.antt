-- Which kinds are known and where each may stand, said anew in document 01's words and order, as propositions over plain lists.
-- None of it looks into `parents_table`, by which the program goes; that the two agree is proved.
use Rattle.std.specs.Prelude.{ℕ, ◌≡◌, ◌↔◌, ◌⊎◌, true, false, List, [], ◌∷◌, None, Option, Some}
use Rattle.base.specs.Lists.{Some as SomeOf}
use Rattle.kinds.specs.Kinds.{root, model, mesh, blend_shape, skeleton, bone, ik_handle, constraint, animation, curve, curve_mode_override, notification_track, material, file, instance, metadata, is_known, may_stand}

-- ---- "Kinds"

-- "Kinds: Root 0x746F6F72, Model 0x6C646F6D, Mesh 0x6873656D, BlendShape 0x68736C62, Skeleton 0x6C656B73, Bone 0x656E6F62,
-- IKHandle 0x64686B69, Constraint 0x74736E63, Animation 0x6D696E61, Curve 0x76727563, CurveModeOverride 0x564F4D43,
-- NotificationTrack 0x6669746E, Material 0x6C74616D, File 0x656C6966, Instance 0x74736E69, Metadata 0x6174656D."
abbrev pub sixteen : List ℕ
sixteen =
    root ∷ model ∷ mesh ∷ blend_shape ∷ skeleton ∷ bone ∷
    ik_handle ∷ constraint ∷ animation ∷ curve ∷ curve_mode_override ∷
    notification_track ∷ material ∷ file ∷ instance ∷ metadata ∷ []

abbrev pub IsOneOfSixteen : ℕ → Type 0
IsOneOfSixteen k = SomeOf (λ listed. k ≡ listed) sixteen

abbrev pub KnownExactly : Type 0
KnownExactly = (k : ℕ) → (is_known k ≡ true) ↔ IsOneOfSixteen k

-- "Any other kind is unknown"
abbrev pub UnknownExactly : Type 0
UnknownExactly = (k : ℕ) → (is_known k ≡ false) ↔ (IsOneOfSixteen k → ⊥)

-- ---- "Parents"

-- "Parents: Model, Animation, Instance, Metadata under Root; Mesh, BlendShape, Skeleton, Material under Model; Bone, IKHandle,
-- Constraint under Skeleton; Curve, CurveModeOverride, NotificationTrack under Animation; File under Material or Instance."
-- Each is a pair of the parent and the kind under it.
abbrev pub parents : List (ℕ × ℕ)
parents =
    (root, model) ∷ (root, animation) ∷ (root, instance) ∷ (root, metadata) ∷
    (model, mesh) ∷ (model, blend_shape) ∷ (model, skeleton) ∷ (model, material) ∷
    (skeleton, bone) ∷ (skeleton, ik_handle) ∷ (skeleton, constraint) ∷
    (animation, curve) ∷ (animation, curve_mode_override) ∷ (animation, notification_track) ∷
    (material, file) ∷ (instance, file) ∷ []

abbrev pub IsParent : (parent k : ℕ) → Type 0
IsParent parent k = SomeOf (λ pair. (parent ≡ pair.0) × (k ≡ pair.1)) parents

-- "Root stands only at the top", and nothing else stands there; under a kind stand those that "Parents" names; and of any other
-- kind, "it may stand below any known node"
abbrev pub Stands : Option ℕ → ℕ → Type 0
Stands None k = k ≡ root
Stands (Some parent) k = IsParent parent k ⊎ ((IsOneOfSixteen k → ⊥) × IsOneOfSixteen parent)

abbrev pub StandsExactly : Type 0
StandsExactly = (parent : Option ℕ) (k : ℕ) → (may_stand parent k ≡ true) ↔ Stands parent k
