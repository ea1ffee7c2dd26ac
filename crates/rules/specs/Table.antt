-- Document 01, "Properties of the known kinds": "The rules stand in one constant table, a line per kind and name. `!`
-- required, `[]` array of any length (else length 1), `B` a `b` that is 0 or 1, `N` any of `b h i`, read unsigned; strings
-- in brackets are the only ones taken, any other is 15 at its property. Names not listed are free."
use Rattle.std.specs.Prelude.{ℕ, Bool, true, false, List, [], ◌∷◌, map}
use Prim.Native.String.{String}
use Rattle.base.specs.Letters.{letters}
use Rattle.kinds.specs.Kinds.{model, mesh, blend_shape, bone, ik_handle, constraint, animation, curve, curve_mode_override, notification_track, material, file, instance, metadata}
use Rattle.props.specs.Types.{byte, int, long, float, string, v2, v3, v4}

-- ---- what a line says

-- the types of a property
pub data Types : Type 0 where
  -- one, by its code
  only : (code : ℕ) → Types
  -- "`N` any of `b h i`"
  N : Types
  -- kv's "one of b h i f v4"
  key_type : Types
  -- any, of a name that is not listed
  any_type : Types

-- what else a property is held to
pub data Held : Type 0 where
  nothing : Held
  -- "`B` a `b` that is 0 or 1"
  flag : Held
  -- "strings in brackets are the only ones taken"
  one_of : (strings : List (List ℕ)) → Held
  -- "vn, vt, c%d and u%d have length V"
  vertices : Held
  -- "wb and wv ... each of length mi times V"
  weights : Held
  -- "f has a length divisible by 3 (three values a face) and each value below V"
  faces : Held
  -- "BlendShape vi and vp have equal lengths", "unequal vi and vp at vp"
  indices : Held
  -- "as have Curve kb and kv; kv is v4 for rq, N for vb, f for any other kp", "unequal kb and kv at kv"
  keys : Held
  -- "Bone p is read as signed: -1 is no parent"
  bone_number : Held
  -- "Links, where the node's kind lists the name as l: m to Material; b to Mesh; sb eb tb pv pb cb to Bone; the Material hashes and rf to
  -- File."
  link_to : (kind : ℕ) → Held

-- "a line per kind and name". The name is in letters; where it is numbered, `%d` follows them.
pub record Line : Type 0 where
  pub kind : ℕ
  pub name : List ℕ
  pub numbered : Bool
  pub types : Types
  pub array : Bool
  pub required : Bool
  pub held : Held

-- a name as it stands, or one that a number follows, `%d`
abbrev pub plain : Bool
plain = false

abbrev pub numbered : Bool
numbered = true

-- length 1, or "`[]` array of any length"
abbrev pub single : Bool
single = false

abbrev pub array : Bool
array = true

-- "`!` required"
abbrev pub optional : Bool
optional = false

abbrev pub required : Bool
required = true

abbrev pub rule : (kind : ℕ) (name : String) (numbered : Bool) (types : Types) (array required : Bool) (held : Held) → Line
rule k name n t a r h = record { kind = k; name = letters name; numbered = n; types = t; array = a; required = r; held = h }

-- ---- the strings in brackets

-- sm: "(linear, quaternion)"
abbrev pub skinning : List (List ℕ)
skinning = map letters ("linear" ∷ "quaternion" ∷ [])

-- ct: "(pt, or, sc)"
abbrev pub constraints : List (List ℕ)
constraints = map letters ("pt" ∷ "or" ∷ "sc" ∷ [])

-- kp: "(rq tx ty tz sx sy sz bs vb)"
abbrev pub key_properties : List (List ℕ)
key_properties = map letters ("rq" ∷ "tx" ∷ "ty" ∷ "tz" ∷ "sx" ∷ "sy" ∷ "sz" ∷ "bs" ∷ "vb" ∷ [])

-- m: "(additive, absolute, relative)", "(as Curve)"
abbrev pub modes : List (List ℕ)
modes = map letters ("additive" ∷ "absolute" ∷ "relative" ∷ [])

-- up: "(x, y, z)"
abbrev pub axes : List (List ℕ)
axes = map letters ("x" ∷ "y" ∷ "z" ∷ [])

-- ---- the lines

unfoldable pub lines : List Line
lines =
    -- "Model: n s."
    rule model "n" plain (only string) single optional nothing ∷
    -- "Mesh: n s, vp! v3[], vn vt v3[], c%d i[], u%d v2[], wb N[], wv f[], f! N[], cl ul mi N, sm s (linear, quaternion), m l."
    rule mesh "n" plain (only string) single optional nothing ∷
    rule mesh "vp" plain (only v3) array required nothing ∷
    rule mesh "vn" plain (only v3) array optional vertices ∷
    rule mesh "vt" plain (only v3) array optional vertices ∷
    rule mesh "c" numbered (only int) array optional vertices ∷
    rule mesh "u" numbered (only v2) array optional vertices ∷
    rule mesh "wb" plain N array optional weights ∷
    rule mesh "wv" plain (only float) array optional weights ∷
    rule mesh "f" plain N array required faces ∷
    rule mesh "cl" plain N single optional nothing ∷
    rule mesh "ul" plain N single optional nothing ∷
    rule mesh "mi" plain N single optional nothing ∷
    rule mesh "sm" plain (only string) single optional (one_of skinning) ∷
    rule mesh "m" plain (only long) single optional (link_to material) ∷
    -- "BlendShape: n! s, b! l, vi! N[], vp! v3[], ts f[]."
    rule blend_shape "n" plain (only string) single required nothing ∷
    rule blend_shape "b" plain (only long) single required (link_to mesh) ∷
    rule blend_shape "vi" plain N array required nothing ∷
    rule blend_shape "vp" plain (only v3) array required indices ∷
    rule blend_shape "ts" plain (only float) array optional nothing ∷
    -- "Bone: n! s, p i, ssc B, lp wp s v3, lr wr v4."
    rule bone "n" plain (only string) single required nothing ∷
    rule bone "p" plain (only int) single optional bone_number ∷
    rule bone "ssc" plain (only byte) single optional flag ∷
    rule bone "lp" plain (only v3) single optional nothing ∷
    rule bone "wp" plain (only v3) single optional nothing ∷
    rule bone "s" plain (only v3) single optional nothing ∷
    rule bone "lr" plain (only v4) single optional nothing ∷
    rule bone "wr" plain (only v4) single optional nothing ∷
    -- "IKHandle: n s, sb! eb! l, tb pv pb l, tr B."
    rule ik_handle "n" plain (only string) single optional nothing ∷
    rule ik_handle "sb" plain (only long) single required (link_to bone) ∷
    rule ik_handle "eb" plain (only long) single required (link_to bone) ∷
    rule ik_handle "tb" plain (only long) single optional (link_to bone) ∷
    rule ik_handle "pv" plain (only long) single optional (link_to bone) ∷
    rule ik_handle "pb" plain (only long) single optional (link_to bone) ∷
    rule ik_handle "tr" plain (only byte) single optional flag ∷
    -- "Constraint: n s, ct! s (pt, or, sc), cb! tb! l, mo sx sy sz B."
    rule constraint "n" plain (only string) single optional nothing ∷
    rule constraint "ct" plain (only string) single required (one_of constraints) ∷
    rule constraint "cb" plain (only long) single required (link_to bone) ∷
    rule constraint "tb" plain (only long) single required (link_to bone) ∷
    rule constraint "mo" plain (only byte) single optional flag ∷
    rule constraint "sx" plain (only byte) single optional flag ∷
    rule constraint "sy" plain (only byte) single optional flag ∷
    rule constraint "sz" plain (only byte) single optional flag ∷
    -- "Material: n! t! s; albedo diffuse normal specular emissive gloss roughness ao cavity aniso extra%d, all l."
    rule material "n" plain (only string) single required nothing ∷
    rule material "t" plain (only string) single required nothing ∷
    rule material "albedo" plain (only long) single optional (link_to file) ∷
    rule material "diffuse" plain (only long) single optional (link_to file) ∷
    rule material "normal" plain (only long) single optional (link_to file) ∷
    rule material "specular" plain (only long) single optional (link_to file) ∷
    rule material "emissive" plain (only long) single optional (link_to file) ∷
    rule material "gloss" plain (only long) single optional (link_to file) ∷
    rule material "roughness" plain (only long) single optional (link_to file) ∷
    rule material "ao" plain (only long) single optional (link_to file) ∷
    rule material "cavity" plain (only long) single optional (link_to file) ∷
    rule material "aniso" plain (only long) single optional (link_to file) ∷
    rule material "extra" numbered (only long) single optional (link_to file) ∷
    -- "File: p! s."
    rule file "p" plain (only string) single required nothing ∷
    -- "Animation: n s, fr! f, lo B."
    rule animation "n" plain (only string) single optional nothing ∷
    rule animation "fr" plain (only float) single required nothing ∷
    rule animation "lo" plain (only byte) single optional flag ∷
    -- "Curve: nn! s, kp! s (rq tx ty tz sx sy sz bs vb), kb! N[], kv! one of b h i f v4 [], m! s (additive, absolute, relative), ab f."
    rule curve "nn" plain (only string) single required nothing ∷
    rule curve "kp" plain (only string) single required (one_of key_properties) ∷
    rule curve "kb" plain N array required nothing ∷
    rule curve "kv" plain key_type array required keys ∷
    rule curve "m" plain (only string) single required (one_of modes) ∷
    rule curve "ab" plain (only float) single optional nothing ∷
    -- "CurveModeOverride: nn! s, m! s (as Curve), `ot` `or` `os` B."
    rule curve_mode_override "nn" plain (only string) single required nothing ∷
    rule curve_mode_override "m" plain (only string) single required (one_of modes) ∷
    rule curve_mode_override "ot" plain (only byte) single optional flag ∷
    rule curve_mode_override "or" plain (only byte) single optional flag ∷
    rule curve_mode_override "os" plain (only byte) single optional flag ∷
    -- "NotificationTrack: n! s, kb! N[]."
    rule notification_track "n" plain (only string) single required nothing ∷
    rule notification_track "kb" plain N array required nothing ∷
    -- "Instance: n s, rf! l, p! v3, r! v4, s! v3."
    rule instance "n" plain (only string) single optional nothing ∷
    rule instance "rf" plain (only long) single required (link_to file) ∷
    rule instance "p" plain (only v3) single required nothing ∷
    rule instance "r" plain (only v4) single required nothing ∷
    rule instance "s" plain (only v3) single required nothing ∷
    -- "Metadata: a s, s s, up s (x, y, z). Root, Skeleton: none."
    rule metadata "a" plain (only string) single optional nothing ∷
    rule metadata "s" plain (only string) single optional nothing ∷
    rule metadata "up" plain (only string) single optional (one_of axes) ∷
    []

-- "Names not listed are free"
abbrev pub free : Line
free = rule 0 "" plain any_type array optional nothing
