-- What holds of each member of a list.
use mathlib.Core.Logic.{◌↔◌}
use mathlib.Core.List.{List, [], ◌∷◌, ◌++◌}
use Rattle.base.specs.Lists.{Each}

module _ {A : Type 0} where
  pub each_append : (P : A → Type 0) (xs ys : List A) → Each P (xs ++ ys) ↔ (Each P xs × Each P ys)
  each_append P [] ys = (λ h. (tt, h), λ h. h.1)
  each_append P (x ∷ xs) ys =
      let ih = each_append P xs ys in
      (λ h. let b = ih.0 h.1 in ((h.0, b.0), b.1), λ h. (h.0.0, ih.1 (h.0.1, h.1)))

  pub each_both : (P Q : A → Type 0) (xs : List A) → (Each P xs × Each Q xs) ↔ Each (λ x. P x × Q x) xs
  each_both P Q [] = (λ h. tt, λ h. (tt, tt))
  each_both P Q (x ∷ xs) =
      let ih = each_both P Q xs in
      (λ h. ((h.0.0, h.1.0), ih.0 (h.0.1, h.1.1)), λ h. let r = ih.1 h.1 in ((h.0.0, r.0), (h.0.1, r.1)))

  pub each_map : {P Q : A → Type 0} → ((x : A) → P x → Q x) → (xs : List A) → Each P xs → Each Q xs
  each_map g [] h = tt
  each_map g (x ∷ xs) h = (g x h.0, each_map g xs h.1)
