-- Nodes judged by the definition: small bodies that keep or break a rule of document 01.
use Rattle.std.specs.Prelude.{◌≡◌, ℕ, List, [], ◌∷◌, ◌++◌, map, length, replicate, refl}
use Prim.Native.String.{String}
use Rattle.le.specs.Le.{val, number_at, le}
use Rattle.names.specs.Names.{bytes_ok, same, read_digits, number, number_after}
use Rattle.kinds.specs.Kinds.{root, mesh, blend_shape, bone, curve}
use Rattle.props.specs.Step.{to_zero, name_at, step_at}
use Rattle.body.specs.Body.{pass, properties, first_named}
use Rattle.faces.specs.Faces.{width_of, faces_in, below, degenerate}
use Rattle.base.specs.Letters.{letters}
use Rattle.props.specs.Types.{byte, short, int, long, float, string, v3, v4}
use Rattle.rules.specs.Table.{lines}
use Rattle.rules.specs.Rules.{lists, rule_in, of_kind, lines_of, is_text, is_one_of}
use Rattle.judge.specs.Judge.{Judged}
use Rattle.judge.specs.Properties.{length_of, value_of, types_of, beside_of}
use Rattle.judge.specs.Typed.{typed}
use Rattle.judge.specs.Missing.{misses, lacks}
use Rattle.judge.specs.Valued.{fault_of, valued, node_faces, node_links}
use Rattle.judge.specs.Judge.{verdict_at, judged_at, judged}

abbrev numbers : Judged → List ℕ
numbers j = j.number ∷ j.place ∷ j.faces.0 ∷ j.degenerate ∷ j.links ∷ []

-- a node's number and offset, faces, degenerate ones and links: of its kind, its property count, the Bones beside it and its body
unfoldable judge : (kind count bones : ℕ) → List ℕ → List ℕ
unfolding val number_at le bytes_ok same read_digits number number_after to_zero name_at step_at pass properties first_named width_of faces_in below degenerate letters lines lists rule_in of_kind lines_of is_text is_one_of length_of value_of types_of beside_of typed misses lacks fault_of valued node_faces node_links verdict_at judged_at judged
judge kind count bones body = numbers (judged kind count body bones)

unfoldable property : (code : ℕ) (name : String) (elements : ℕ) → List ℕ → List ℕ
unfolding le letters
property code name elements content = le 2 code ++ (le 2 (length (letters name)) ++ (le 4 elements ++ (letters name ++ content)))

right : List ℕ
right = 0 ∷ 0 ∷ 0 ∷ 0 ∷ 0 ∷ []

abbrev refused : (number at : ℕ) → List ℕ
refused n at = n ∷ at ∷ 0 ∷ 0 ∷ 0 ∷ []

-- 46 bytes and 12
abbrev vp : List ℕ
vp = property v3 "vp" 3 (replicate 36 0)

abbrev f : List ℕ
f = property byte "f" 3 (0 ∷ 1 ∷ 2 ∷ [])

-- one face; a name twice, at the later property; f of another type; no f; wb alone; `d` for vp is 13 though f is missing
meshes : (judge mesh 2 0 (vp ++ f) ∷ judge mesh 3 0 (vp ++ (f ++ vp)) ∷ judge mesh 2 0 (vp ++ property float "f" 3 (replicate 12 0)) ∷
    judge mesh 1 0 vp ∷ judge mesh 3 0 (vp ++ (f ++ property byte "wb" 0 [])) ∷ judge mesh 1 0 (property 0x64 "vp" 0 []) ∷ []) ≡
    (0 ∷ 0 ∷ 1 ∷ 0 ∷ 0 ∷ []) ∷ refused 13 82 ∷ refused 13 70 ∷ refused 14 0 ∷ refused 14 0 ∷ refused 13 24 ∷ []
unfolding judge property
meshes = refl

-- degenerate faces: 0 1 0, 0 0 1, 0 0 0, each counted once; and 0 1 2 beside them, which is none
abbrev faced : (elements : ℕ) → List ℕ → List ℕ
faced n values = judge mesh 2 0 (vp ++ property byte "f" n values)

degenerates : (faced 3 (0 ∷ 1 ∷ 0 ∷ []) ∷ faced 3 (0 ∷ 0 ∷ 1 ∷ []) ∷ faced 3 (0 ∷ 0 ∷ 0 ∷ []) ∷ faced 12 (0 ∷ 1 ∷ 0 ∷ 0 ∷ 1 ∷ 2 ∷ 0 ∷ 0 ∷ 1 ∷ 0 ∷ 0 ∷ 0 ∷ []) ∷ []) ≡
    (0 ∷ 0 ∷ 1 ∷ 1 ∷ 0 ∷ []) ∷ (0 ∷ 0 ∷ 1 ∷ 1 ∷ 0 ∷ []) ∷ (0 ∷ 0 ∷ 1 ∷ 1 ∷ 0 ∷ []) ∷ (0 ∷ 0 ∷ 4 ∷ 3 ∷ 0 ∷ []) ∷ []
unfolding judge property
degenerates = refl

-- "V = 0 with an empty f: accepted. f of length 2: 15."
bare : (judge mesh 2 0 (property v3 "vp" 0 [] ++ property byte "f" 0 []) ∷ judge mesh 2 0 (vp ++ property byte "f" 2 (0 ∷ 1 ∷ [])) ∷ []) ≡
    right ∷ refused 15 70 ∷ []
unfolding judge property right
bare = refl

-- mi is 2: six weights for three vertices; five of wv are 15, at wv
weights :
    (judge mesh 5 0 (vp ++ (f ++ (property byte "wb" 6 (replicate 6 0) ++ (property float "wv" 6 (replicate 24 0) ++ property byte "mi" 1 (2 ∷ []))))) ∷
    judge mesh 5 0 (vp ++ (f ++ (property byte "wb" 6 (replicate 6 0) ++ (property float "wv" 5 (replicate 20 0) ++ property byte "mi" 1 (2 ∷ []))))) ∷ []) ≡
    (0 ∷ 0 ∷ 1 ∷ 0 ∷ 0 ∷ []) ∷ refused 15 98 ∷ []
unfolding judge property
weights = refl

-- a Bone's p beside three Bones: -1, 0, 2 are right; 3, 0x80000000 and -2 are not
abbrev boned : List ℕ → List ℕ
boned p = judge bone 2 3 (property string "n" 1 (0 ∷ []) ++ property int "p" 1 p)

bones : map boned ((0xFF ∷ 0xFF ∷ 0xFF ∷ 0xFF ∷ []) ∷ (0 ∷ 0 ∷ 0 ∷ 0 ∷ []) ∷ (2 ∷ 0 ∷ 0 ∷ 0 ∷ []) ∷
    (3 ∷ 0 ∷ 0 ∷ 0 ∷ []) ∷ (0 ∷ 0 ∷ 0 ∷ 0x80 ∷ []) ∷ (0xFE ∷ 0xFF ∷ 0xFF ∷ 0xFF ∷ []) ∷ []) ≡
    right ∷ right ∷ right ∷ refused 15 34 ∷ refused 15 34 ∷ refused 15 34 ∷ []
unfolding judge property right
bones = refl

-- a Curve's kv by its kp: v4 for rq, h for vb, f for tx; f for rq is 15 at kv; a kp that is not listed is 15 at itself, and wants f
abbrev curved : (kp : String) (code width : ℕ) → List ℕ
curved kp code width =
    judge curve 5 0 (property string "nn" 1 (0 ∷ []) ++ (property string "kp" 1 (letters kp ++ (0 ∷ [])) ++
    (property byte "kb" 1 (0 ∷ []) ++ (property code "kv" 1 (replicate width 0) ++ property string "m" 1 (letters "absolute" ++ (0 ∷ []))))))

curves : (curved "rq" v4 16 ∷ curved "vb" short 2 ∷ curved "tx" float 4 ∷ curved "rq" float 4 ∷ curved "zz" float 4 ∷ []) ≡
    right ∷ right ∷ right ∷ refused 15 59 ∷ refused 15 35 ∷ []
unfolding judge property right letters
curves = refl

-- a BlendShape's vi and vp: of equal lengths; unequal ones are 15 at vp, also where vi comes later
abbrev shaped : (before after : List ℕ) → List ℕ
shaped before after = judge blend_shape 4 0 (property string "n" 1 (0 ∷ []) ++ (property long "b" 1 (replicate 8 0) ++ (before ++ after)))

abbrev vi : (elements : ℕ) → List ℕ
vi n = property byte "vi" n (replicate n 0)

shapes : (shaped (vi 3) vp ∷ shaped (vi 2) vp ∷ shaped vp (vi 2) ∷ []) ≡
    (0 ∷ 0 ∷ 0 ∷ 0 ∷ 1 ∷ []) ∷ refused 15 63 ∷ refused 15 51 ∷ []
unfolding judge property
shapes = refl

-- a Curve's kb and kv: unequal ones are 15 at kv, also where kb comes later
abbrev keyed : (before after : List ℕ) → List ℕ
keyed before after =
    judge curve 5 0 (property string "nn" 1 (0 ∷ []) ++ (property string "kp" 1 (letters "tx" ++ (0 ∷ [])) ++
    (before ++ (after ++ property string "m" 1 (letters "absolute" ++ (0 ∷ []))))))

keys_told : (keyed (property byte "kb" 2 (0 ∷ 0 ∷ [])) (property float "kv" 1 (replicate 4 0)) ∷
    keyed (property float "kv" 1 (replicate 4 0)) (property byte "kb" 2 (0 ∷ 0 ∷ [])) ∷ []) ≡ refused 15 60 ∷ refused 15 48 ∷ []
unfolding judge property letters
keys_told = refl

-- one node that breaks 14 and 15 is refused with 14, and one that breaks 13 too with 13
bone_faults : (judge bone 1 0 (property byte "ssc" 1 (2 ∷ [])) ∷ judge bone 2 0 (property byte "ssc" 1 (2 ∷ []) ++ property byte "p" 1 (0 ∷ [])) ∷ []) ≡
    refused 14 0 ∷ refused 13 36 ∷ []
unfolding judge property
bone_faults = refl

-- any name is free on a Root, but not twice: equal in their first eight letters is not equal
roots : (judge root 2 0 (property byte "longname1" 0 [] ++ property int "longname2" 0 []) ∷
    judge root 2 0 (property byte "longname1" 0 [] ++ property int "longname1" 0 []) ∷ []) ≡ right ∷ refused 13 41 ∷ []
unfolding judge property right
roots = refl
