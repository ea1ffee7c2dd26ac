-- A step passes a good property, to its end; and what a step passes is a good property.
use Prim.Native.Nat.{ℕ, zero, suc, ◌+◌, ◌-◌, ◌≤◌}
use native.Mathlib.Omega.{arith}
use mathlib.Core.Path.{◌≡◌, refl, ap, sym, ◌∙◌}
use mathlib.Core.Bool.{Bool, true, false}
use mathlib.Core.List.{List, ◌++◌, append_assoc}
use lib.ListN.{length, take, drop, length-append, length-drop}
use lib.Seq.{length-take-le, take-append_seam, drop-append_seam, drop-drop}
use Rattle.le.specs.Le.{le, number_at, AreBytes}
use Rattle.le.proofs.Laws.{val_le, number_at_lt, rest, rest_drop, part_front, le_front}
use Rattle.names.specs.Names.{bytes_ok}
use Rattle.props.specs.declared.Cursor.{Cursor}
use Rattle.props.specs.declared.Offsets.{Offsets}
use Rattle.props.specs.Step.{Step}
use Rattle.props.specs.Step.{Past, Refused}
use Rattle.props.specs.Types.{element_size}
use Rattle.props.specs.Step.{header_refusal, code_at, size_at, length_at, name_at, start_at, step_at}
use Rattle.props.proofs.Cases.{header_right, name_fits, staged, by_stages, by_data}
use Rattle.format.specs.Layout.{Property, property_bytes, Name, GoodProperty}
use Rattle.format.proofs.Stages.{size_good, size_sound, bytes_good, bytes_sound, type_good, header_sized, data_good, data_sound, data_told}

pub length_property : (p : Property) → length (property_bytes p) ≡ 8 + length p.name + length p.content
unfolding property_bytes le
length_property p = omega (arith, length-append p.name p.content)

-- ---- a good property is passed: its parts, read again
module _ (p : Property) (pre more : List ℕ) (good : GoodProperty p) where
  pub code_read : number_at 2 (property_bytes p ++ more) 0 ≡ p.code
  unfolding property_bytes le number_at
  code_read = val_le 2 p.code good.0

  pub size_read : number_at 2 (property_bytes p ++ more) 2 ≡ length p.name
  unfolding property_bytes le number_at
  size_read = val_le 2 (length p.name) (omega (arith, good.2.1))

  pub elements_read : number_at 4 (property_bytes p ++ more) 4 ≡ p.elements
  unfolding property_bytes le number_at
  elements_read = val_le 4 p.elements good.1

  pub name_read : take (length p.name) (drop 8 (property_bytes p ++ more)) ≡ p.name
  unfolding property_bytes le
  name_read = rw (append_assoc p.name p.content more) (take-append_seam p.name (p.content ++ more))

  pub content_read : drop (8 + length p.name) (property_bytes p ++ more) ≡ p.content ++ more
  unfolding property_bytes le
  content_read =
      sym (drop-drop (length p.name) 8 (property_bytes p ++ more))
      ∙ rw (append_assoc p.name p.content more) (drop-append_seam p.name (p.content ++ more))

  abbrev all : List ℕ
  all = pre ++ (property_bytes p ++ more)

  front : rest all (length pre) ≡ property_bytes p ++ more
  front = rest_drop all (length pre) ∙ drop-append_seam pre (property_bytes p ++ more)

  room : 8 + length p.name ≤ length (rest all (length pre))
  room = rw (front, length-append (property_bytes p) more, length_property p) (omega arith)

  header_good : header_refusal p.code (length p.name) (length (rest all (length pre))) ≡ 0
  header_good =
      let type = type_good (element_size p.code) p.elements p.content good.3 in
      let size = size_good (length p.name) good.2.0 good.2.1 in
      sym (header_right p.code (length p.name) (length (rest all (length pre))) (omega (arith, room)) type size room)

  name_good : bytes_ok (take (length p.name) (drop 8 (rest all (length pre)))) ≡ true
  name_good = rw (front, name_read) (bytes_good p.name good.2.2)

  pub step_good : (q : Offsets) ×
      (step_at (pre ++ (property_bytes p ++ more)) (length pre) ≡ Past q (record { at = length pre + length (property_bytes p) }))
  step_good =
      let code : p.code ≡ number_at 2 (rest all (length pre)) 0 = rw (front, code_read) in
      let size : length p.name ≡ number_at 2 (rest all (length pre)) 2 = rw (front, size_read) in
      let elements : p.elements ≡ number_at 4 (rest all (length pre)) 4 = rw (front, elements_read) in
      let step = by_data all (length pre) code size header_good name_good elements refl in
      let start : ℕ = length pre + (8 + length p.name) in
      let parts : Offsets = record { name = length pre + 8; start = start } in
      let taken = data_good (length pre) start (element_size p.code) p.elements p.content more good.3 in
      let next : start + length p.content ≡ length pre + length (property_bytes p) = rw (length_property p) (omega arith) in
      (parts, sym (taken ∙ (rw (front, content_read) at step)) ∙ ap (λ n. Past parts (record { at = n })) next)

-- ---- what is passed is a good property: the bytes at a place, written again
module _ (s : List ℕ) (at k : ℕ) where
  abbrev found : Property
  found = record { code = code_at s at; elements = length_at s at; name = name_at s at; content = take k (drop (start_at s at) s) }

  module _ (fits : start_at s at + k ≤ length s) where
    name_length : length (name_at s at) ≡ size_at s at
    unfolding name_at
    name_length = length-take-le (size_at s at) (drop (at + 8) s) (simp length-drop (omega arith))

    found_length : at + length (property_bytes found) ≡ start_at s at + k
    found_length =
        let taken = length-take-le k (drop (start_at s at) s) (simp length-drop (omega arith)) in
        rw (length_property found, name_length, taken) (omega arith)

    found_bytes : AreBytes s → drop at s ≡ property_bytes found ++ drop (start_at s at + k) s
    unfolding property_bytes name_at
    found_bytes bytes =
        simp append_assoc
        (rw (
          name_length,
          part_front k s (start_at s at) (start_at s at + k) refl,
          part_front (size_at s at) s (at + 8) (start_at s at) refl,
          le_front 4 s (at + 4) (at + 8) bytes (omega arith) (omega arith),
          le_front 2 s (at + 2) (at + 4) bytes (omega arith) (omega arith),
          le_front 2 s at (at + 2) bytes refl (omega arith),
        ))

-- what a step that passes has passed
staged_past : (n : ℕ) (b : Bool) (step : Step) {q : Offsets} {next : Cursor} → staged n b step ≡ Past q next → (n ≡ 0) × (b ≡ true) × (step ≡ Past q next)
staged_past zero true step e = (refl, refl, e)
staged_past zero false step e = (cc, cc, cc)
staged_past (suc n) b step e = (cc, cc, cc)

pub step_sound : (s : List ℕ) (at : ℕ) → AreBytes s → {q : Offsets} {next : Cursor} → step_at s at ≡ Past q next →
    (p : Property) × GoodProperty p × (drop at s ≡ property_bytes p ++ drop next.at s) × (at + length (property_bytes p) ≡ next.at)
step_sound s at bytes e =
    let passed = staged_past (header_refusal (code_at s at) (size_at s at) (length s - at)) (bytes_ok (name_at s at)) _ (sym (by_stages s at) ∙ e) in
    let room = name_fits (code_at s at) (size_at s at) (length s - at) passed.0 in
    let size = size_sound (size_at s at) (header_sized (code_at s at) (size_at s at) (length s - at) passed.0) in
    let taken = data_sound at (start_at s at) (element_size (code_at s at)) (length_at s at) (drop (start_at s at) s) passed.2 in
    let k : ℕ = taken.0 in
    let fits : start_at s at + k ≤ length s = omega (arith, taken.1, length-drop (start_at s at) s) in
    let long = name_length s at k fits in
    let name : Name (name_at s at) = (rw long size.0, rw long size.1, bytes_sound (name_at s at) passed.1) in
    let good : GoodProperty (found s at k) = (number_at_lt 2 s at bytes, number_at_lt 4 s (at + 4) bytes, name, taken.2) in
    (found s at k, good, rw taken.3 at (found_bytes s at k fits bytes), rw taken.3 at (found_length s at k fits))

-- ---- a refusal has a number
staged_told : (n : ℕ) (b : Bool) (step : Step) → staged n b step ≡ Refused 0 → step ≡ Refused 0
staged_told zero true step e = e
staged_told zero false step e = let z : ◌≡◌ {A = ℕ} 11 0 = cc in absurd (omega arith)
staged_told (suc n) b step e = cc

pub step_told : (s : List ℕ) (at : ℕ) → step_at s at ≡ Refused 0 → ⊥
step_told s at e =
    data_told at (start_at s at) (element_size (code_at s at)) (length_at s at) (drop (start_at s at) s)
    (staged_told (header_refusal (code_at s at) (size_at s at) (length s - at)) (bytes_ok (name_at s at)) _ (sym (by_stages s at) ∙ e))
