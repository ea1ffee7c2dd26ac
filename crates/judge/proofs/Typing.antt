-- 13: a name whose slot is not marked is a new name; a property that is right is passed; and what is noted of those passed.
use Rattle.std.proofs.Common.{◌≡◌, ℕ, zero, suc, ◌+◌, ◌-◌, ◌*◌, ◌/◌, ◌%◌, ◌^◌, ◌<◌, ◌≤◌, Bool, true, false, cond, ◌||◌, eqb, ltb, List, [], ◌∷◌, ◌++◌, map, length, get_or, take, drop, set, sym, refl, ap, ◌∙◌, subst, true≢false, append_assoc, append-nil, add-one, arith, length-drop, length-set, drop_of_length-le, length-take, length-take-le, take_all, drop-cons, get_or-set_other, take-suc, get_or-set_same, take-take, drop-drop, pow-add, ltb-false, le-ltb, eq-eqb, eqb-true}
use native.Mathlib.Nat.{pow-succ'}
use Rattle.std.proofs.Math.Nat.{mod-add-mod}
use mathlib.Core.List.{map-append}
use lib.ListN.{length-map}
use lib.Seq.{take-length, take-append_seam, sets, sets-eq}
use borrow.Author.Tests.{eqb-false}
use Rattle.le.specs.Le.{val, number_at, AreBytes}
use Rattle.le.proofs.Laws.{number_at_past, number_at_high}
use Rattle.base.proofs.Stores.{sets_more}
use Rattle.base.proofs.Tests.{by_test}
use Rattle.names.specs.Names.{same}
use Rattle.names.proofs.Laws.{same_eq}
use Rattle.props.specs.declared.PropertyHeader.{PropertyHeader}
use Rattle.props.specs.Step.{header_at, code_at, size_at, length_at, name_at}
use Rattle.body.specs.Body.{next_by, next_at, skim, first_named}
use Rattle.body.proofs.Skimmed.{length_skim}
use Rattle.rules.specs.Table.{Line, free}
use Rattle.rules.specs.Rules.{misfits, find_in}
use Rattle.rules.proofs.Laws.{found}
use Rattle.rules.proofs.Names.{neither}
use Rattle.base.specs.Refusals.{Refusal}
use Rattle.judge.specs.Properties.{line_number, has}
use Rattle.judge.specs.Typed.{is_mistyped, typed, rightly_typed, last_letters, summed, key_from, key_of, key_at, slot_of, slot_at, marked}
use Rattle.base.specs.Refusals.{refusal, no_refusal}
use Rattle.judge.specs.Private.{has_key, Noted}

-- ---- slots
-- a property of the name has what the name has
module _ (f : List ℕ → ℕ) (s name : List ℕ) where
  unnamed : (starts : List ℕ) → has_key (map (λ at. f (name_at s at)) starts) (f name) ≡ false → first_named s name starts ≡ length starts
  unfolding has_key first_named
  unnamed [] e = refl
  unnamed (at ∷ more) e =
      let both = neither (eqb (f (name_at s at)) (f name)) (has_key (map (λ at. f (name_at s at)) more) (f name)) e in
      by_test (same (name_at s at) name)
      (λ t. absurd (true≢false (sym (eq-eqb _ _ (ap f (same_eq (name_at s at) name t))) ∙ both.0)))
      (λ t. rw t (ap suc (unnamed more both.1)))

  pub no_such_lem : (starts : List ℕ) → has_key (map (λ at. f (name_at s at)) starts) (f name) ≡ false → has s starts name ≡ false
  no_such_lem starts e = let end = unnamed starts e in le-ltb (first_named s name starts) (length starts) (omega arith)

-- a key among some, one at a time
module _ (keys : List ℕ) (key i : ℕ) (any : Bool) where
  pub key_next : i < length keys → ((any || eqb (get_or keys i 0) key) || has_key (drop (i + 1) keys) key) ≡ (any || has_key (drop i keys) key)
  unfolding has_key
  key_next h = rw (add-one i, drop-cons keys i 0 h) (by_test any (λ t. rw t) (λ t. rw t))

  pub key_ended : length keys ≤ i → any ≡ (any || has_key (drop i keys) key)
  unfolding has_key
  key_ended h = rw (drop_of_length-le keys {i = i} h) (by_test any (λ t. rw t) (λ t. rw t))

-- slots that are marked
module _ (m : ℕ) where
  marked_kept : (marks slots : List ℕ) (k : ℕ) → k < length marks → get_or marks k 0 ≡ m → get_or (marked m marks slots) k 0 ≡ m
  unfolding marked
  marked_kept marks [] k h e = e
  marked_kept marks (j ∷ js) k h e =
      let long : k < length (set marks j m) = omega (arith, h, length-set marks j m) in
      by_test (eqb j k)
      (λ t. let here : j ≡ k = eqb-true j k t in marked_kept (set marks j m) js k long (ap (λ i. get_or (set marks i m) k 0) here ∙ get_or-set_same marks k m 0 h))
      (λ t. marked_kept (set marks j m) js k long (get_or-set_other marks j k m 0 (λ q. eqb-false j k t (sym q)) ∙ e))

  marked_there : (marks slots : List ℕ) (k : ℕ) → k < length marks → has_key slots k ≡ true → get_or (marked m marks slots) k 0 ≡ m
  unfolding marked has_key
  marked_there marks [] k h e = absurd (true≢false (sym e))
  marked_there marks (j ∷ js) k h e =
      let long : k < length (set marks j m) = omega (arith, h, length-set marks j m) in
      by_test (eqb j k)
      (λ t. let here : j ≡ k = eqb-true j k t in marked_kept (set marks j m) js k long (ap (λ i. get_or (set marks i m) k 0) here ∙ get_or-set_same marks k m 0 h))
      (λ t. marked_there (set marks j m) js k long (rw t at e))

  marked_more : (marks slots : List ℕ) (k : ℕ) → marked m marks (slots ++ (k ∷ [])) ≡ set (marked m marks slots) k m
  unfolding marked
  marked_more marks [] k = refl
  marked_more marks (j ∷ js) k = marked_more (set marks j m) js k

-- where a name's slot has another mark, none of the names before it is the same
pub unseen : (s name starts marks₀ : List ℕ) (m : ℕ) {marks₁ : List ℕ} (slot : ℕ) → marks₁ ≡ marked m marks₀ (map (slot_at s) starts) → slot ≡ slot_of (key_of name) →
    slot < length marks₀ → eqb (get_or marks₁ slot 0) m ≡ false → has s starts name ≡ false
unseen s name starts marks₀ m {marks₁} slot e k h n =
    no_such_lem (λ name. slot_of (key_of name)) s name starts
    (by_test (has_key (map (slot_at s) starts) (slot_of (key_of name)))
    (λ t. absurd (eqb-false _ _ n (ap (λ l. get_or l slot 0) e ∙ marked_there m marks₀ (map (slot_at s) starts) slot h (ap (has_key (map (slot_at s) starts)) k ∙ t))))
    (λ t. t))

two_eights : (w : ℕ) → 2 ^ (8 * w) ≡ 256 ^ w
two_eights zero = refl
two_eights (suc w) =
    let more : 8 * suc w ≡ 8 + 8 * w = omega arith in
    ap (λ k. 2 ^ k) more ∙ pow-add 2 8 (8 * w) ∙ ap (λ k. 256 * k) (two_eights w) ∙ sym (pow-succ' 256 w)

-- the last letters of a name
pub no_letters : (name : List ℕ) → length name ≡ 0 → 0 ≡ last_letters name
unfolding last_letters
no_letters name e = sym (number_at_past 8 name (length name - 8) (omega (arith, e)))

pub some_letters : (name : List ℕ) {n : ℕ} → n ≡ number_at 8 name (length name - 8) → n ≡ last_letters name
unfolding last_letters
some_letters name e = e

module _ (s : List ℕ) (at : ℕ) {name : List ℕ} (e : name ≡ name_at s at) where
  is_part : name ≡ take (length name) (drop (at + 8) s)
  unfolding name_at
  is_part =
      let most : length name ≤ size_at s at = omega (arith, ap length e, length-take (size_at s at) (drop (at + 8) s)) in
      sym (take-length name) ∙ ap (take (length name)) e ∙ take-take (length name) (size_at s at) (drop (at + 8) s) most

  pub name_within : length name ≤ length s - (at + 8)
  name_within = omega (arith, ap length is_part, length-take (length name) (drop (at + 8) s), length-drop (at + 8) s)

  module _ (b : AreBytes s) (few : length name ≤ 8) where
    all_letters : last_letters name ≡ number_at (length name) s (at + 8)
    unfolding last_letters number_at
    all_letters =
        let first : length name - 8 ≡ 0 = omega (arith, few) in
        ap (λ k. val (take 8 (drop k name))) first ∙ ap val (take_all 8 name few ∙ is_part)

    pub short_letters : {n : ℕ} → n ≡ number_at 8 s (at + length name) → n / 2 ^ (64 - 8 * length name) ≡ last_letters name
    short_letters {n} q =
        let w = 8 - length name in
        let eights : 64 - 8 * length name ≡ 8 * w = omega (arith, few) in
        let whole : 8 ≡ w + length name = omega (arith, few) in
        let place : at + length name + w ≡ at + 8 = omega (arith, few) in
        ap (λ k. n / 2 ^ k) eights ∙ ap (λ k. n / k) (two_eights w) ∙ ap (λ m. m / 256 ^ w) (q ∙ ap (λ k. number_at k s (at + length name)) whole)
        ∙ number_at_high w (length name) s (at + length name) b ∙ ap (number_at (length name) s) place ∙ sym all_letters

-- the key, eight letters at a time
module _ (name : List ℕ) where
  -- what is left of it from a place on, with the sum so far
  abbrev pub key_left : (sum i : ℕ) → ℕ
  key_left sum i = key_from ((length name - 1 - i) / 8) sum (drop i name)

  thrice : (sum : ℕ) → ((sum + sum) % 2 ^ 64 + sum) % 2 ^ 64 ≡ sum * 3 % 2 ^ 64
  thrice sum = mod-add-mod (sum + sum) (2 ^ 64) sum ∙ ap (λ n. n % 2 ^ 64) (omega arith)

  module _ (sum i : ℕ) where
    pub key_step : 8 < length name - i → {eight : ℕ} → eight ≡ number_at 8 name i → key_left ((sum * 3 % 2 ^ 64 + eight) % 2 ^ 64) (i + 8) ≡ key_left sum i
    unfolding key_from number_at
    key_step h {eight} e =
        let left = (length name - 1 - (i + 8)) / 8 in
        let more : (length name - 1 - i) / 8 ≡ suc left = omega (arith, h) in
        let letters : number_at 8 (drop i name) 0 ≡ eight = sym e in
        let next = (sum * 3 % 2 ^ 64 + eight) % 2 ^ 64 in
        let added : summed sum (number_at 8 (drop i name) 0) ≡ next = ap (summed sum) letters ∙ ap (λ m. (m + eight) % 2 ^ 64) (thrice sum) in
        sym (ap (λ k. key_from k sum (drop i name)) more ∙ ap (λ m. key_from left m (drop 8 (drop i name))) added ∙ ap (key_from left next) (drop-drop 8 i name))

    pub key_done : length name - i ≤ 8 → key_left sum i ≡ key_from ((length name - 1) / 8) 0 name → {last : ℕ} → last ≡ last_letters name →
        (sum * 3 % 2 ^ 64 + last) % 2 ^ 64 ≡ key_of name
    unfolding key_from key_of
    key_done h left {last} e =
        let none : (length name - 1 - i) / 8 ≡ 0 = omega (arith, h) in
        let all : sum ≡ key_from ((length name - 1) / 8) 0 name = sym (ap (λ k. key_from k sum (drop i name)) none) ∙ left in
        ap (λ m. (m + last) % 2 ^ 64) (sym (thrice sum)) ∙ ap (λ m. summed m last) all ∙ ap (summed (key_from ((length name - 1) / 8) 0 name)) e

-- ---- properties

-- those that come from a place on, after those before
module _ (ls : List Line) (s : List ℕ) where
  -- of those that are all right none is left out
  pub all_right_lem : (before starts : List ℕ) → (typed ls s before starts).number ≡ 0 → rightly_typed ls s before starts ≡ starts
  unfolding typed rightly_typed
  all_right_lem before [] e = refl
  all_right_lem before (at ∷ more) e =
      by_test (is_mistyped ls s before at)
      (λ t. absurd (thirteen (rw t at e)))
      (λ t. rw t (ap (λ l. at ∷ l) (all_right_lem (before ++ (at ∷ [])) more (rw t at e))))
    where
      thirteen : suc 12 ≡ 0 → ⊥
      thirteen q = omega (arith, q)

pub first_of : (l ns : List ℕ) (n : ℕ) → n ≡ length ns → n ≤ length l → take n (sets l 0 ns) ≡ ns
first_of l ns n e h = rw (e, sets-eq ns l 0 (omega (arith, e, h))) (take-append_seam ns (drop (0 + length ns) l))

map_same : (l : List ℕ) → map (λ x. x) l ≡ l
map_same [] = refl
map_same (x ∷ l) = ap (λ m. x ∷ m) (map_same l)

-- after the last property none is looked for, wherever it would start
skim_last : (s : List ℕ) (a b : ℕ) {k : ℕ} → k ≡ 0 → skim s k a ≡ skim s k b
unfolding skim
skim_last s a b e = rw e

-- the first `count` properties are judged one after the other; those before i are right, and noted
pub record Noting (ls : List Line) (s : List ℕ) (m count : ℕ) (starts₀ numbers₀ keys₀ marks₀ starts₁ numbers₁ keys₁ marks₁ : List ℕ) (at i : ℕ) : Type 0 where
  pub within : i ≤ count
  pub inside : at ≤ length s
  pub left : drop i (skim s count 0) ≡ skim s (count - i) at
  pub starts : starts₁ ≡ sets starts₀ 0 (map (λ x. x) (take i (skim s count 0)))
  pub numbers : numbers₁ ≡ sets numbers₀ 0 (map (line_number ls s) (take i (skim s count 0)))
  pub keys : keys₁ ≡ sets keys₀ 0 (map (key_at s) (take i (skim s count 0)))
  pub marks : marks₁ ≡ marked m marks₀ (map (slot_at s) (take i (skim s count 0)))
  pub passes : typed ls s (take i (skim s count 0)) (drop i (skim s count 0)) ≡ typed ls s [] (skim s count 0)
  pub rights : take i (skim s count 0) ++ rightly_typed ls s (take i (skim s count 0)) (drop i (skim s count 0)) ≡ rightly_typed ls s [] (skim s count 0)

pub noting : (ls : List Line) (s : List ℕ) (m count : ℕ) (a b c d : List ℕ) → Noting ls s m count a b c d a b c d 0 0
unfolding marked
noting ls s m count a b c d = record { within = omega arith; inside = omega arith; left = let whole : count ≡ count - 0 = omega arith in ap (λ k. skim s k 0) whole; starts = refl; numbers = refl; keys = refl; marks = refl; passes = refl; rights = refl }

module _ {ls : List Line} {s : List ℕ} {m count : ℕ} {starts₀ numbers₀ keys₀ marks₀ starts₁ numbers₁ keys₁ marks₁ : List ℕ} {at i : ℕ}
    (o : Noting ls s m count starts₀ numbers₀ keys₀ marks₀ starts₁ numbers₁ keys₁ marks₁ at i) where
  abbrev all : List ℕ
  all = skim s count 0

  abbrev done : List ℕ
  done = take i all

  many : length done ≡ i
  many = length-take-le i all (omega (arith, o.within, length_skim s count 0))

  -- the places before are those of the properties before
  pub before_are : i ≤ length starts₀ → take i starts₁ ≡ done
  before_are h = ap (take i) (o.starts ∙ ap (sets starts₀ 0) (map_same done)) ∙ first_of starts₀ done i (sym many) h

  -- where the slot of a name has another mark, none of them has the name
  pub unseen_before : i ≤ length starts₀ → (name : List ℕ) (slot : ℕ) → slot ≡ slot_of (key_of name) → slot < length marks₀ →
      eqb (get_or marks₁ slot 0) m ≡ false → has s (take i starts₁) name ≡ false
  unseen_before h name slot k b e = ap (λ l. has s l name) (before_are h) ∙ unseen s name done marks₀ m slot o.marks k b e

  -- where none of their keys is the name's, neither
  pub unkeyed_before : i ≤ length starts₀ → i ≤ length keys₀ → (name : List ℕ) {key : ℕ} → key ≡ key_of name → has_key (take i keys₁) key ≡ false →
      has s (take i starts₁) name ≡ false
  unkeyed_before h g name {key} k e =
      let keys : take i keys₁ ≡ map (key_at s) done =
      ap (take i) o.keys ∙ first_of keys₀ (map (key_at s) done) i (sym (length-map done (key_at s) ∙ many)) g in
      ap (λ l. has s l name) (before_are h) ∙ no_such_lem key_of s name done (ap (λ l. has_key l (key_of name)) (sym keys) ∙ ap (has_key (take i keys₁)) (sym k) ∙ e)

  -- what is noted where all are right, or where one is not
  noted_as : (l : List ℕ) → l ≡ done → rightly_typed ls s [] all ≡ l → Noted ls s m all starts₀ numbers₀ keys₀ marks₀ starts₁ numbers₁ keys₁ marks₁
  noted_as l e r = record {
    starts = o.starts ∙ ap (sets starts₀ 0) (map_same done ∙ sym e ∙ sym r);
    numbers = o.numbers ∙ ap (λ l. sets numbers₀ 0 (map (line_number ls s) l)) (sym e ∙ sym r);
    keys = o.keys ∙ ap (λ l. sets keys₀ 0 (map (key_at s) l)) (sym e ∙ sym r);
    marks = o.marks ∙ ap (λ l. marked m marks₀ (map (slot_at s) l)) (sym e ∙ sym r);
  }

  pub all_noted : count ≤ i → (no_refusal ≡ typed ls s [] all) × Noted ls s m all starts₀ numbers₀ keys₀ marks₀ starts₁ numbers₁ keys₁ marks₁
  unfolding typed rightly_typed
  all_noted h =
      let end : drop i all ≡ [] = drop_of_length-le all {i = i} (omega (arith, length_skim s count 0, h)) in
      (rw end at o.passes, noted_as done refl (sym (rw end at o.rights) ∙ append-nil done))

  -- the property at i, by what was found of its name
  module _ (h : i < count) where
    here : drop i all ≡ at ∷ skim s (count - (i + 1)) (next_at s at)
    unfolding skim
    here = let one : count - i ≡ suc (count - (i + 1)) = omega arith in o.left ∙ ap (λ k. skim s k at) one

    inner : i < length all
    inner = omega (arith, length_skim s count 0, h)

    there : get_or all i 0 ≡ at
    there = ap (λ l. get_or l 0 0) (sym (drop-cons all i 0 inner) ∙ here)

    onward : drop (i + 1) all ≡ skim s (count - (i + 1)) (next_at s at)
    onward = ap (λ k. drop k all) (add-one i) ∙ ap (drop 1) (sym (drop-cons all i 0 inner) ∙ here)

    pub longer : take (i + 1) all ≡ done ++ (at ∷ [])
    longer = ap (λ k. take k all) (add-one i) ∙ take-suc all i 0 inner ∙ ap (λ x. done ++ (x ∷ [])) there

    module _ {name : List ℕ} (n : name ≡ name_at s at) {hd : PropertyHeader} (e : hd ≡ header_at s at)
        {k : ℕ} (f : k ≡ find_in ls name) {l : Line} (g : l ≡ get_or ls k free) {r x : Bool} (er : r ≡ has s done name)
        (em : x ≡ misfits l hd.code hd.length) where
      numbered : k ≡ line_number ls s at
      numbered = rw (f, n)

      mistyped : (r || x) ≡ is_mistyped ls s done at
      mistyped =
          let code : hd.code ≡ code_at s at = ap (λ (h : PropertyHeader). h.code) e in
          let len : hd.length ≡ length_at s at = ap (λ (h : PropertyHeader). h.length) e in
          rw (er, em, code, len, g, n, numbered, found ls (name_at s at))

      by_own : next_by s at hd ≡ next_at s at
      unfolding next_at
      by_own = ap (next_by s at) e

      step : typed ls s done (drop i all) ≡ cond (r || x) (refusal 13 (24 + at)) (typed ls s (take (i + 1) all) (drop (i + 1) all))
      unfolding typed
      step = rw (mistyped, here, longer, onward)

      kept : rightly_typed ls s done (drop i all) ≡ cond (r || x) [] (at ∷ rightly_typed ls s (take (i + 1) all) (drop (i + 1) all))
      unfolding rightly_typed
      kept = rw (mistyped, here, longer, onward)

      pub refused : (r || x) ≡ true → (refusal 13 (24 + at) ≡ typed ls s [] all) × Noted ls s m all starts₀ numbers₀ keys₀ marks₀ starts₁ numbers₁ keys₁ marks₁
      refused t =
          (sym (rw t at step) ∙ o.passes, noted_as done refl (sym o.rights ∙ ap (λ l. done ++ l) (rw t at kept) ∙ append-nil done))

      pub passed : (r || x) ≡ false → {key slot next : ℕ} → key ≡ key_of name → slot ≡ slot_of key → (ltb (i + 1) count ≡ true → next ≡ next_by s at hd) → next ≤ length s →
          Noting ls s m count starts₀ numbers₀ keys₀ marks₀ (set starts₁ i at) (set numbers₁ i k) (set keys₁ i key) (set marks₁ slot m) next (i + 1)
      passed t {key} {slot} {next} w q y b = record {
        within = omega arith;
        inside = b;
        left = onward ∙ by_test (ltb (i + 1) count) (λ t. ap (skim s (count - (i + 1))) (sym (y t ∙ by_own)))
            (λ t. skim_last s (next_at s at) next (omega (arith, ltb-false (i + 1) count t)));
        starts = sets_more (λ x. x) all i 0 inner (sym there) starts₀ o.starts;
        numbers = sets_more (line_number ls s) all i 0 inner (numbered ∙ ap (line_number ls s) (sym there)) numbers₀ o.numbers;
        keys = sets_more (key_at s) all i 0 inner (w ∙ ap key_of n ∙ ap (key_at s) (sym there)) keys₀ o.keys;
        marks =
            ap (λ l. set l slot m) o.marks ∙ ap (λ k. set (marked m marks₀ (map (slot_at s) done)) k m) (q ∙ ap slot_of (w ∙ ap key_of n))
            ∙ sym (marked_more m marks₀ (map (slot_at s) done) (slot_at s at)) ∙ ap (marked m marks₀) (sym (ap (map (slot_at s)) longer ∙ map-append (slot_at s) done (at ∷ [])));
        passes = sym (rw t at step) ∙ o.passes;
        rights =
            ap (λ l. l ++ rightly_typed ls s (take (i + 1) all) (drop (i + 1) all)) longer
            ∙ append_assoc done (at ∷ []) (rightly_typed ls s (take (i + 1) all) (drop (i + 1) all))
            ∙ ap (λ l. done ++ l) (sym (rw t at kept)) ∙ o.rights;
      }

-- what is noted where none is refused: the first n numbers of the buffers
module _ {ls : List Line} {s : List ℕ} {m : ℕ} {all starts₀ numbers₀ keys₀ marks₀ starts₁ numbers₁ keys₁ marks₁ : List ℕ}
    (o : Noted ls s m all starts₀ numbers₀ keys₀ marks₀ starts₁ numbers₁ keys₁ marks₁)
    {v : Refusal} (e : v ≡ typed ls s [] all) (z : v.number ≡ 0) (n : ℕ) (k : n ≡ length all) where
  right : rightly_typed ls s [] all ≡ all
  right = all_right_lem ls s [] all (ap (λ (v : Refusal). v.number) (sym e) ∙ z)

  pub starts_noted : n ≤ length starts₀ → take n starts₁ ≡ all
  starts_noted h = ap (take n) (o.starts ∙ ap (sets starts₀ 0) right) ∙ first_of starts₀ all n k h

  pub numbers_noted : n ≤ length numbers₀ → take n numbers₁ ≡ map (line_number ls s) all
  numbers_noted h =
      ap (take n) (o.numbers ∙ ap (λ l. sets numbers₀ 0 (map (line_number ls s) l)) right)
      ∙ first_of numbers₀ (map (line_number ls s) all) n (k ∙ sym (length-map all (line_number ls s))) h

pub noted_for : {ls : List Line} {s : List ℕ} {m : ℕ} {all all' starts₀ numbers₀ keys₀ marks₀ starts₁ numbers₁ keys₁ marks₁ : List ℕ} → all ≡ all' →
    Noted ls s m all starts₀ numbers₀ keys₀ marks₀ starts₁ numbers₁ keys₁ marks₁ → Noted ls s m all' starts₀ numbers₀ keys₀ marks₀ starts₁ numbers₁ keys₁ marks₁
noted_for {ls} {s} {m} {all} {all'} {starts₀} {numbers₀} {keys₀} {marks₀} {starts₁} {numbers₁} {keys₁} {marks₁} e o =
    subst (λ l. Noted ls s m l starts₀ numbers₀ keys₀ marks₀ starts₁ numbers₁ keys₁ marks₁) e o
