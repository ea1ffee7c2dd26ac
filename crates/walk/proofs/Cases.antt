-- The cases of a header's refusal, each from the tests that lead to it; that it is the definition's, since a standing says both whether a
-- kind may stand there and whether it is known; and what a header that is not refused has.
use Rattle.std.specs.Prelude.{Option, Result, Ok, Err, is_ok}
use Rattle.std.specs.Result.{MatchResult, IsErrAnd}
use Prim.Native.Nat.{ℕ, ◌<◌, ◌≤◌}
use native.Mathlib.Omega.{arith}
use mathlib.Core.Path.{◌≡◌, refl, ap, sym, ◌∙◌}
use mathlib.Core.Bool.{Bool, true, false, cond, not, ◌||◌, true≢false}
use lib.Dec.{leb, ltb}
use borrow.Author.Tests.{lt-ltb, le-ltb, le-leb, lt-leb, ltb-false, leb-false, not-false}
use denote.Enum.Bare.{sameb}
use Rattle.base.specs.declared.Reason.{Reason}
use Rattle.base.specs.declared.Refusal.{Refusal}
use Rattle.base.specs.Refusals.{refused_or, reason_number, number_in}
use Rattle.kinds.specs.contracts.Standing.{the_type}
use Rattle.kinds.specs.declared.Standing.{Standing}
use Rattle.kinds.specs.declared.Standing.TheVariants.{Barred, Known, Unknown}
use Rattle.kinds.specs.Kinds.{is_known, may_stand, standing_of}
use Rattle.walk.specs.declared.Header.{Header}
use Rattle.walk.specs.Walk.{ill_sized, too_many, node_refusal}
use Rattle.walk.specs.Private.{is_barred, known_there, refusal_there}

module _ (size room : ℕ) (s : Standing) (row depth : ℕ) where
  pub ill : ill_sized size room ≡ true → 5 ≡ refusal_there size room s row depth
  unfolding refusal_there
  ill e = rw e

  module _ (sized : ill_sized size room ≡ false) where
    pub misplaced : is_barred s ≡ true → 6 ≡ refusal_there size room s row depth
    unfolding refusal_there
    misplaced e = rw (sized, e)

    module _ (placed : is_barred s ≡ false) where
      pub rowless : 1024 ≤ row → 7 ≡ refusal_there size room s row depth
      unfolding refusal_there
      rowless e = rw (sized, placed, le-leb _ _ e)

      module _ (few : row < 1024) where
        pub deep : 8 < depth → 8 ≡ refusal_there size room s row depth
        unfolding refusal_there
        deep e = rw (sized, placed, lt-leb _ _ few, lt-ltb _ _ e)

        pub right : depth ≤ 8 → 0 ≡ refusal_there size room s row depth
        unfolding refusal_there
        right e = rw (sized, placed, lt-leb _ _ few, le-ltb _ _ e)

-- ---- its number, as the code has it
-- none where it is Ok
pub no_number : {A : Type 0} (r : Result A Reason) → true ≡ is_ok r → 0 ≡ number_in r
no_number (Ok x) e = refl
no_number (Err r) e = absurd (true≢false e)

-- with a place, where it is not
pub number_at_place : {A : Type 0} (r : Result A Reason) (With : Reason → Refusal → Type 0) {placed : Result A Refusal} {at : ℕ} {d : Refusal}
    → MatchResult r (λ x. placed ≡ Ok x) (λ e. IsErrAnd placed (With e)) → placed ≡ Err d
    → ((e : Reason) → With e d → d ≡ record { reason = e; place = at })
    → (reason_number d.reason ≡ number_in r) × (d.place ≡ at)
number_at_place (Ok x) With m is made = absurd (cc)
number_at_place (Err e) With m is made = let all = made e (rw is at m) in (ap (λ d. reason_number d.reason) all, ap (λ d. d.place) all)

-- ---- the definition's

abbrev first : (a b c d : Bool) → (next : ℕ) → ℕ
first a b c d next = cond a 5 (cond b 6 (cond c 7 (cond d 8 next)))

-- 5 to 8 from how the node stands, and then 9
pub refusal_is : (h : Header) (room : ℕ) (parent : Option ℕ) (row depth : ℕ) {s : Standing} {n : ℕ} → s ≡ standing_of parent h.kind
    → n ≡ refusal_there h.size room s row depth → node_refusal h room parent row depth ≡ refused_or n n (cond (too_many h.kind h.properties) 9 0)
unfolding refusal_there node_refusal standing_of
refusal_is h room parent row depth is e =
    by (ill_sized h.size room) (leb 1024 row) (ltb 8 depth) (may_stand parent h.kind) (is_known h.kind) _
    ∙ ap (λ n. refused_or n n (cond (too_many h.kind h.properties) 9 0))
    (ap (λ s. first (ill_sized h.size room) (is_barred s) (leb 1024 row) (ltb 8 depth) 0) (sym is) ∙ sym e)
  where
    by : (a c d may known : Bool) (next : ℕ) → let n = first a (is_barred (cond may (cond known Known Unknown) Barred)) c d 0 in
        first a (not may) c d next ≡ refused_or n n next
    by true c d may known next = refl
    by false c d false known next = refl
    by false true d true true next = refl
    by false true d true false next = refl
    by false false true true true next = refl
    by false false true true false next = refl
    by false false false true true next = refl
    by false false false true false next = refl

pub known_is : (parent : Option ℕ) (k : ℕ) {s : Standing} → s ≡ standing_of parent k → may_stand parent k ≡ true → known_there s ≡ is_known k
unfolding standing_of
known_is parent k is may = ap known_there is ∙ rw may (by (is_known k))
  where
    by : (known : Bool) → known_there (cond known Known Unknown) ≡ known
    by true = refl
    by false = refl

-- what the code compares a standing by
pub barred_told : (s : Standing) → sameb the_type s Barred ≡ is_barred s
barred_told Barred = refl
barred_told Known = refl
barred_told Unknown = refl

pub unknown_told : (parent : Option ℕ) (k : ℕ) {s : Standing} → s ≡ standing_of parent k → may_stand parent k ≡ true → is_known k ≡ not (sameb the_type s Unknown)
unfolding standing_of
unknown_told parent k is may = by (is_known k) ∙ ap (λ s. not (sameb the_type s Unknown)) (sym (is ∙ rw may))
  where
    by : (known : Bool) → known ≡ not (sameb the_type (cond known Known Unknown) Unknown)
    by true = refl
    by false = refl

-- a header that is not refused is there, its node lies in the room and may stand there, and there is a row for it
pub record Right (h : Header) (room : ℕ) (parent : Option ℕ) (row : ℕ) : Type 0 where
  pub own : 24 ≤ h.size
  pub within : h.size ≤ room
  pub stands : may_stand parent h.kind ≡ true
  pub few : row < 1024

right_by : {P : Type 0} (a b c d : Bool) (next : ℕ) → first a b c d next ≡ 0 → (a ≡ false → b ≡ false → c ≡ false → d ≡ false → P) → P
right_by true b c d next h f = absurd (omega (arith, h))
right_by false true c d next h f = absurd (omega (arith, h))
right_by false false true d next h f = absurd (omega (arith, h))
right_by false false false true next h f = absurd (omega (arith, h))
right_by false false false false next h f = f refl refl refl refl

neither : (a b : Bool) → (a || b) ≡ false → (a ≡ false) × (b ≡ false)
neither true b e = absurd (true≢false e)
neither false b e = (refl, e)

rightly : (h : Header) (room : ℕ) (parent : Option ℕ) (row : ℕ) → ill_sized h.size room ≡ false → may_stand parent h.kind ≡ true → leb 1024 row ≡ false
    → Right h room parent row
rightly h room parent row a b c =
    let sizes = neither (ltb room 24 || ltb h.size 24) (ltb room h.size) a in
    let least = neither (ltb room 24) (ltb h.size 24) sizes.0 in
    record {
      own = ltb-false h.size 24 least.1;
      within = ltb-false room h.size sizes.1;
      stands = b;
      few = omega (arith, leb-false 1024 row c);
    }

pub passes : (h : Header) (room : ℕ) (parent : Option ℕ) (row depth : ℕ) → node_refusal h room parent row depth ≡ 0 → Right h room parent row
unfolding node_refusal
passes h room parent row depth e =
    right_by (ill_sized h.size room) (not (may_stand parent h.kind)) (leb 1024 row) (ltb 8 depth) (cond (too_many h.kind h.properties) 9 0) e
    (λ a b c _. rightly h room parent row a (not-false (may_stand parent h.kind) b) c)

-- one that 5 to 8 do not refuse has the same
pub passes_there : (h : Header) (room : ℕ) (parent : Option ℕ) (row depth : ℕ) {s : Standing} → s ≡ standing_of parent h.kind
    → refusal_there h.size room s row depth ≡ 0 → Right h room parent row
unfolding refusal_there standing_of
passes_there h room parent row depth {s} is e =
    right_by (ill_sized h.size room) (is_barred s) (leb 1024 row) (ltb 8 depth) 0 e
    (λ a b c _. rightly h room parent row a (by (may_stand parent h.kind) (is_known h.kind) (ap is_barred (sym is) ∙ b)) c)
  where
    by : (may known : Bool) → is_barred (cond may (cond known Known Unknown) Barred) ≡ false → may ≡ true
    by true known b = refl
    by false known b = absurd (true≢false b)

-- and does not lie too deep
pub not_deep : (size room : ℕ) (s : Standing) (row depth : ℕ) → refusal_there size room s row depth ≡ 0 → depth ≤ 8
unfolding refusal_there
not_deep size room s row depth e =
    right_by (ill_sized size room) (is_barred s) (leb 1024 row) (ltb 8 depth) 0 e (λ _ _ _ d. ltb-false 8 depth d)
