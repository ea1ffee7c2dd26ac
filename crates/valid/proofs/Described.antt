-- A good body's properties, where the walk over it finds them.
use Prim.Native.Nat.{ℕ, ◌+◌}
use native.Mathlib.Nat.{add_assoc}
use mathlib.Core.Path.{◌≡◌, sym, ◌∙◌}
use mathlib.Core.List.{List, [], ◌∷◌, ◌++◌, append_assoc, flat_map}
use lib.ListN.{length, length-append}
use lib.Seq.{drop-append_seam, drop-append-add}
use Rattle.le.specs.Le.{number_at}
use Rattle.props.specs.Step.{code_at, size_at, length_at, name_at}
use Rattle.body.specs.Body.{pass, properties}
use Rattle.body.proofs.Laws.{few}
use Rattle.judge.specs.Properties.{rest_at}
use Rattle.base.specs.Lists.{Each}
use Rattle.format.specs.Layout.{Property, property_bytes, GoodProperty, GoodBody}
use Rattle.format.proofs.Properties.{code_read, size_read, elements_read, name_read, content_read, step_good}

-- a property is found at a place: its parts are read there
pub record At (s : List ℕ) (at : ℕ) (p : Property) : Type 0 where
  pub code : code_at s at ≡ p.code
  pub elements : length_at s at ≡ p.elements
  pub name : name_at s at ≡ p.name
  pub more : List ℕ
  pub rest : rest_at s at ≡ p.content ++ more
  pub good : GoodProperty p

-- places and properties, one by one
pub data Described (s : List ℕ) : List ℕ → List Property → Type 0 where
  none : Described s [] []
  one : {at : ℕ} {p : Property} {starts : List ℕ} {ps : List Property} → At s at p → Described s starts ps → Described s (at ∷ starts) (p ∷ ps)

module _ (pre l : List ℕ) (w k : ℕ) where
  number_after_lem : number_at w (pre ++ l) (length pre + k) ≡ number_at w l k
  unfolding number_at
  number_after_lem = rw (drop-append-add pre l k)

  number_start : number_at w (pre ++ l) (length pre) ≡ number_at w l 0
  unfolding number_at
  number_start = rw (drop-append_seam pre l)

-- a good property after some bytes is found there
found : (p : Property) (pre more : List ℕ) → GoodProperty p → At (pre ++ (property_bytes p ++ more)) (length pre) p
unfolding name_at
found p pre more good =
    let bytes : List ℕ = property_bytes p ++ more in
    let size : size_at (pre ++ bytes) (length pre) ≡ length p.name = number_after_lem pre bytes 2 2 ∙ size_read p pre more good in
    record {
      code = number_start pre bytes 2 0 ∙ code_read p pre more good;
      elements = number_after_lem pre bytes 4 4 ∙ elements_read p pre more good;
      name = rw (size, drop-append-add pre bytes 8) (name_read p pre more good);
      more = more;
      rest = rw (size, add_assoc (length pre) 8 (length p.name), drop-append-add pre bytes (8 + length p.name)) (content_read p pre more good);
      good = good;
    }

walked : (ps : List Property) (pre : List ℕ) → Each GoodProperty ps → {s : List ℕ} → s ≡ pre ++ flat_map property_bytes ps →
    Described s (pass s (length ps) (length pre)).starts ps
unfolding pass flat_map
walked [] pre h e = none
walked (p ∷ ps) pre h {s} e =
    let more : List ℕ = flat_map property_bytes ps in
    let here = rw (← e) at (step_good p pre more h.0).1 in
    let ih = walked ps (pre ++ property_bytes p) h.1 (e ∙ sym (append_assoc pre (property_bytes p) more)) in
    rw here (one (rw (← e) at (found p pre more h.0)) (rw length-append at ih))

pub described : (n : ℕ) (s : List ℕ) (good : GoodBody n s) → Described s (properties s n).starts good.properties
described n s good = rw (← few s n good.most, ← good.counted) (walked good.properties [] good.good good.bytes)

pub each_good : {s starts : List ℕ} {ps : List Property} → Described s starts ps → Each GoodProperty ps
each_good none = tt
each_good (one a d) = (a.good, each_good d)
