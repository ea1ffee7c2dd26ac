-- The search in a body of good properties finds the first one with the name, and its data.
use Prim.Native.Nat.{ℕ, suc, ◌+◌, ◌-◌, ◌≤◌, ◌<◌}
use native.Mathlib.Numerals.{add-one}
use native.Mathlib.Omega.{arith}
use mathlib.Core.Path.{◌≡◌, refl, ap, sym, subst, ◌∙◌}
use mathlib.Core.Logic.{◌⊎◌, inl, inr}
use mathlib.Core.Bool.{true, true≢false}
use mathlib.Core.List.{List, [], ◌∷◌, ◌++◌, append_assoc, append-nil, flat_map}
use lib.ListN.{length, get_or, take, drop, length-append}
use lib.Seq.{drop-append-add, take-append_seam}
use borrow.Author.Tests.{le-ltb}
use Rattle.le.specs.Le.{number_at}
use Rattle.base.proofs.Tests.{by_test}
use Rattle.names.specs.Names.{same}
use Rattle.names.proofs.Laws.{same_eq, same_refl}
use Rattle.props.specs.Step.{size_at, start_at, name_at, data_at}
use Rattle.body.specs.Body.{pass, properties, places, first_named}
use Rattle.body.proofs.Laws.{few}
use Rattle.body.proofs.Places.{pass_first}
use Rattle.base.specs.Lists.{Each}
use Rattle.format.specs.Layout.{Property, property_bytes, GoodProperty, GoodBody}
use Rattle.format.proofs.Properties.{length_property, size_read, name_read, content_read, step_good}
use Rattle.format.proofs.Bodies.{body_good}
use Rattle.lookup.specs.Lookup.{At, Refused}
use Rattle.lookup.specs.Lookup.{in_body}
use Rattle.lookup.specs.Statements.{NoneNamed, FirstNamed, data_from}
use Rattle.lookup.proofs.Laws.{by_none, by_first}

-- ---- a property from its place to the next one's: its name, its data, and where they lie
abbrev pub data_to : (s : List ℕ) (at next : ℕ) → List ℕ
data_to s at next = take (next - data_at s at) (drop (data_at s at) s)

pub record Lies (s : List ℕ) (at next : ℕ) (p : Property) : Type 0 where
  pub name : name_at s at ≡ p.name
  pub content : data_to s at next ≡ p.content
  pub from : data_at s at ≡ at + (8 + length p.name)
  pub past : next ≡ at + length (property_bytes p)

number_after_lem : (pre l : List ℕ) (w k : ℕ) → number_at w (pre ++ l) (length pre + k) ≡ number_at w l k
unfolding number_at
number_after_lem pre l w k = rw (drop-append-add pre l k)

lies : (p : Property) (pre more : List ℕ) → GoodProperty p
    → Lies (pre ++ (property_bytes p ++ more)) (length pre) (length pre + length (property_bytes p)) p
unfolding name_at data_at
lies p pre more good =
    let s : List ℕ = pre ++ (property_bytes p ++ more) in
    let size : size_at s (length pre) ≡ length p.name = number_after_lem pre (property_bytes p ++ more) 2 2 ∙ size_read p pre more good in
    let long : length s ≡ length pre + (length (property_bytes p) + length more)
    = length-append pre (property_bytes p ++ more) ∙ ap (λ n. length pre + n) (length-append (property_bytes p) more) in
    let start : start_at s (length pre) ≡ length pre + (8 + length p.name) = omega (arith, size) in
    let inside : start_at s (length pre) ≤ length s = omega (arith, start, long, length_property p) in
    let taken : length pre + length (property_bytes p) - (length pre + (8 + length p.name)) ≡ length p.content = omega (arith, length_property p) in
    record {
      name = rw (size, drop-append-add pre (property_bytes p ++ more) 8) (name_read p pre more good);
      content =
          rw (le-ltb (length s) (start_at s (length pre)) inside, start, taken, drop-append-add pre (property_bytes p ++ more) (8 + length p.name), content_read p pre more good)
          (take-append_seam p.content more);
      from = rw (le-ltb (length s) (start_at s (length pre)) inside) start;
      past = refl;
    }

-- ---- each of some properties lies at its place, up to the next place, the last one up to the end
abbrev pub Lying : (s : List ℕ) (starts : List ℕ) (stop : ℕ) → List Property → Type 0
Lying s [] stop [] = Unit {0}
Lying s [] stop (p ∷ ps) = ⊥
Lying s (at ∷ starts) stop [] = ⊥
Lying s (at ∷ starts) stop (p ∷ ps) = Lies s at (get_or (starts ++ (stop ∷ [])) 0 0) p × Lying s starts stop ps

walked : (ps : List Property) (pre : List ℕ) → Each GoodProperty ps → {s : List ℕ} → s ≡ pre ++ flat_map property_bytes ps
    → Lying s (pass s (length ps) (length pre)).starts (pass s (length ps) (length pre)).at ps
unfolding pass flat_map
walked [] pre h e = tt
walked (p ∷ ps) pre h {s} e =
    let more : List ℕ = flat_map property_bytes ps in
    let here = rw (← e) at (step_good p pre more h.0).1 in
    let next : ℕ = length pre + length (property_bytes p) in
    let ih = rw length-append at (walked ps (pre ++ property_bytes p) h.1 (e ∙ sym (append_assoc pre (property_bytes p) more))) in
    rw here (subst (λ n. Lies s (length pre) n p) (sym (pass_first s (length ps) next)) (rw (← e) at (lies p pre more h.0)), ih)

pub lying : (k : ℕ) (s : List ℕ) (good : GoodBody k s) → Lying s (properties s k).starts (properties s k).at good.properties
lying k s good = rw (← few s k good.most, ← good.counted) (walked good.properties [] good.good good.bytes)

-- ---- the search
module _ (s name : List ℕ) (stop : ℕ) where
  none_first : (starts : List ℕ) (ps : List Property) → Lying s starts stop ps → NoneNamed name ps → first_named s name starts ≡ length starts
  unfolding first_named
  none_first [] [] l h = refl
  none_first [] (p ∷ ps) l h = absurd l
  none_first (at ∷ starts) [] l h = absurd l
  none_first (at ∷ starts) (p ∷ ps) l h =
      by_test (same (name_at s at) name)
      (λ t. absurd (h.0 (sym l.0.name ∙ same_eq (name_at s at) name t)))
      (λ t. rw t (ap suc (none_first starts ps l.1 h.1)))

  -- it lies after those before it
  abbrev At-first : List ℕ → (before : List Property) → Property → Type 0
  At-first starts before p = let i = first_named s name starts in let all = starts ++ (stop ∷ []) in
      (i < length starts) × Lies s (get_or all i 0) (get_or all (suc i) 0) p × (get_or all i 0 ≡ get_or all 0 0 + length (flat_map property_bytes before))

  first_first : (before : List Property) (p : Property) (after : List Property) (starts : List ℕ) → Lying s starts stop (before ++ (p ∷ after))
      → NoneNamed name before → p.name ≡ name → At-first starts before p
  unfolding first_named flat_map
  first_first [] p after [] l h e = absurd l
  first_first (b ∷ before) p after [] l h e = absurd l
  first_first [] p after (at ∷ starts) l h e =
      let is : same (name_at s at) name ≡ true = ap (λ n. same n name) (l.0.name ∙ e) ∙ same_refl name in
      rw is (omega arith, l.0, omega arith)
  first_first (b ∷ before) p after (at ∷ starts) l h e =
      by_test (same (name_at s at) name)
      (λ t. absurd (h.0 (sym l.0.name ∙ same_eq (name_at s at) name t)))
      (λ t.
      let ih = first_first before p after starts l.1 h.1 e in
      let size = length-append (property_bytes b) (flat_map property_bytes before) in
      rw t (omega (arith, ih.0), ih.1, omega (arith, ih.2, l.0.past, size)))

-- ---- a name is there or not
pub there_or_not : (name : List ℕ) (ps : List Property) → ((p : Property) × FirstNamed name ps p) ⊎ NoneNamed name ps
there_or_not name [] = inr tt
there_or_not name (q ∷ ps) =
    by_test (same q.name name)
    (λ t. inl (q, record { before = []; after = ps; parts = refl; earlier = tt; named = same_eq q.name name t }))
    (λ t. on (λ e. true≢false (sym (same_refl name) ∙ ap (λ n. same n name) (sym e) ∙ t)) (there_or_not name ps))
  where
    on : (q.name ≡ name → ⊥) → ((p : Property) × FirstNamed name ps p) ⊎ NoneNamed name ps → ((p : Property) × FirstNamed name (q ∷ ps) p) ⊎ NoneNamed name (q ∷ ps)
    on n (inl f) =
        inl (f.0, record { before = q ∷ f.1.before; after = f.1.after; parts = ap (λ l. q ∷ l) f.1.parts; earlier = (n, f.1.earlier); named = f.1.named })
    on n (inr h) = inr (n, h)

-- ---- in a good body
module _ (k : ℕ) (s name : List ℕ) (good : GoodBody k s) where
  walk_done : ((properties s k).number ≡ 0) × ((properties s k).at ≡ length s)
  walk_done = rw (append-nil s) at (body_good k s [] good)

  pub none_in : NoneNamed name good.properties → in_body s k name ≡ Refused 43
  none_in h =
      let w = properties s k in
      sym (by_none s name k walk_done.0 walk_done.1 (none_first s name w.at w.starts good.properties (lying k s good) h))

  -- what is found lies at these places
  pub record In (before : List Property) (p : Property) : Type 0 where
    pub start : ℕ
    pub stop : ℕ
    pub is : in_body s k name ≡ At start stop
    pub from : start ≡ data_from 0 before p
    pub past : stop ≡ start + length p.content
    pub content : take (stop - start) (drop start s) ≡ p.content

  starts_at_0 : get_or (places (properties s k)) 0 0 ≡ 0
  starts_at_0 = rw (← few s k good.most) (pass_first s k 0)

  pub first_in : (p : Property) (f : FirstNamed name good.properties p) → In f.before p
  first_in p f =
      let w = properties s k in
      let i = first_named s name w.starts in
      let at = first_first s name w.at f.before p f.after w.starts (subst (Lying s w.starts w.at) f.parts (lying k s good)) f.earlier f.named in
      let from : data_at s (get_or (places w) i 0) ≡ data_from 0 f.before p = omega (arith, at.1.from, at.2, starts_at_0) in
      let past : get_or (places w) (suc i) 0 ≡ data_at s (get_or (places w) i 0) + length p.content = omega (arith, at.1.past, at.1.from, length_property p) in
      record {
        start = data_at s (get_or (places w) i 0);
        stop = get_or (places w) (i + 1) 0;
        is = sym (by_first s name k walk_done.0 walk_done.1 (λ e. omega (arith, at.0, e)));
        from = from;
        past = rw (add-one i) past;
        content = rw (add-one i) at.1.content;
      }
