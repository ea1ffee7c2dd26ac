-- A property that is passed, and the search for a name, a step at a time.
use mathlib.Core.Path.{◌≡◌, refl, sym, ap, subst, ◌∙◌}
use Rattle.std.specs.Prelude.{Result, Ok, Err, MatchResult, IsErrAnd}
use mathlib.Core.Bool.{Bool, true, false, cond, not, and-eq-true_iff}
use mathlib.Core.List.{List, []}
use Prim.Native.Nat.{ℕ, zero, suc, ◌+◌, ◌-◌, ◌<◌, ◌≤◌}
use native.Mathlib.Omega.{arith}
use lib.Dec.{ltb, leb}
use lib.ListN.{length, take, drop, length-drop}
use lib.Seq.{length-take-le}
use borrow.Author.Tests.{leb-true, not-false}
use Rattle.base.specs.declared.Reason.{Reason}
use Rattle.base.specs.declared.Refusal.{Refusal}
use Rattle.base.specs.Refusals.{reason_number}
use Rattle.names.specs.Names.{size_ok, bytes_ok, same}
use Rattle.names.proofs.Laws.{same_length_lem}
use Rattle.props.specs.declared.Cursor.{Cursor}
use Rattle.props.specs.declared.Offsets.{Offsets}
use Rattle.props.specs.declared.Passed.{Passed as StepPassed}
use Rattle.props.specs.Step.{Step, step_told}
use Rattle.props.specs.Step.{Past, Refused}
use Rattle.props.specs.Types.{element_size, no_such}
use Rattle.props.specs.Step.{code_at, size_at, length_at, name_at, start_at, length_ok, data_size, step_at}
use Rattle.props.proofs.Within.{step_within}
use Rattle.body.specs.Body.{Passed}
use Rattle.body.specs.Body.{Sought}
use Rattle.body.specs.Body.{Found, Nowhere}
use Rattle.body.specs.Body.{RefusedAt}
use Rattle.body.specs.Body.{by_step, pass, end_of, sought_by, sought}

-- ---- the tests of a step
abbrev pub tested : (a b c d e f g : Bool) → Step → Step
tested a b c d e f g next =
    cond a (Refused 10) (cond b (Refused 11) (cond c (Refused 11) (cond d (Refused 10) (cond e (Refused 11) (cond f (Refused 11) (cond g (Refused 10) next))))))

tested_past : (a b c d e f g : Bool) (next : Step) {p : Offsets} {q : Cursor} → tested a b c d e f g next ≡ Past p q → next ≡ Past p q
tested_past true b c d e f g next h = cc
tested_past false true c d e f g next h = cc
tested_past false false true d e f g next h = cc
tested_past false false false true e f g next h = cc
tested_past false false false false true f g next h = cc
tested_past false false false false false true g next h = cc
tested_past false false false false false false true next h = cc
tested_past false false false false false false false next h = h

-- a property that is passed has its name after its header, and its data after its name
pub passed_places : (s : List ℕ) (at : ℕ) {p : Offsets} {q : Cursor} → step_at s at ≡ Past p q → (p.name ≡ at + 8) × (p.start ≡ start_at s at)
unfolding step_at
passed_places s at {p} {q} h =
    let size = element_size (code_at s at) in
    let room = length s - at in
    let rest = drop (start_at s at) s in
    let n = data_size size (length_at s at) rest in
    let is : Past (record { name = at + 8; start = start_at s at }) (record { at = start_at s at + n }) ≡ Past p q
    = tested_past (ltb room 8) (no_such size) (not (size_ok (size_at s at))) (ltb room (8 + size_at s at)) (not (bytes_ok (name_at s at))) (not (length_ok size (length_at s at))) (ltb (length rest) n) _ h in
    let offsets : record { name = at + 8; start = start_at s at } ≡ p = cc in
    (ap (λ (o : Offsets). o.name) (sym offsets), ap (λ (o : Offsets). o.start) (sym offsets))

pub passed_within : (s : List ℕ) (at : ℕ) {p : Offsets} {q : Cursor} → step_at s at ≡ Past p q → (p.name ≤ p.start) × (p.start ≤ length s) × (q.at ≤ length s)
passed_within s at h =
    let places = passed_places s at h in
    let lies = step_within s at h in
    (omega (arith, places.0, places.1), omega (arith, lies.1, lies.2), lies.2)

pub passed_name : (s : List ℕ) (at : ℕ) {p : Offsets} {q : Cursor} → step_at s at ≡ Past p q → take (p.start - p.name) (drop p.name s) ≡ name_at s at
unfolding name_at
passed_name s at {p} {q} h =
    let places = passed_places s at h in
    let size : p.start - p.name ≡ size_at s at = omega (arith, places.0, places.1) in
    rw (size, places.0)

tested_size : (a b c d e f g : Bool) (next : Step) {p : Offsets} {q : Cursor} → tested a b c d e f g next ≡ Past p q → c ≡ false
tested_size true b c d e f g next h = cc
tested_size false true c d e f g next h = cc
tested_size false false true d e f g next h = cc
tested_size false false false d e f g next h = refl

-- its name is not empty
passed_size : (s : List ℕ) (at : ℕ) {p : Offsets} {q : Cursor} → step_at s at ≡ Past p q → 1 ≤ size_at s at
unfolding step_at
passed_size s at h =
    let size = element_size (code_at s at) in
    let room = length s - at in
    let rest = drop (start_at s at) s in
    let n = data_size size (length_at s at) rest in
    let right : not (size_ok (size_at s at)) ≡ false
    = tested_size (ltb room 8) (no_such size) (not (size_ok (size_at s at))) (ltb room (8 + size_at s at)) (not (bytes_ok (name_at s at))) (not (length_ok size (length_at s at))) (ltb (length rest) n) _ h in
    leb-true 1 (size_at s at) ((and-eq-true_iff (leb 1 (size_at s at)) (leb (size_at s at) 32)).0 (not-false (size_ok (size_at s at)) right)).0

pub passed_named : (s : List ℕ) (at : ℕ) {p : Offsets} {q : Cursor} → step_at s at ≡ Past p q → same (name_at s at) [] ≡ false
passed_named s at {p} {q} h =
    let places = passed_places s at h in
    let within = passed_within s at h in
    let long = length-take-le (p.start - p.name) (drop p.name s) (omega (arith, length-drop p.name s, within)) in
    same_length_lem (name_at s at) [] (λ e. omega (arith, e, ap length (passed_name s at h), long, passed_size s at h, places))

-- ---- a step as the code has it, with its place where it is refused
abbrev pub Stepped : List ℕ → ℕ → Result StepPassed Refusal → Type 0
Stepped s at (Ok p) = step_at s at ≡ Past p.offsets p.next
Stepped s at (Err r) = (step_at s at ≡ Refused (reason_number r.reason)) × (r.place ≡ at)

pub stepped_at : (s : List ℕ) (at : ℕ) (w : Result StepPassed Reason) (r : Result StepPassed Refusal) → step_told w ≡ step_at s at
    → MatchResult w (λ p. r ≡ Ok p) (λ why. IsErrAnd r (λ f. f ≡ record { reason = why; place = at })) → Stepped s at r
stepped_at s at (Ok p) r e h = subst (Stepped s at) (sym h) (sym e)
stepped_at s at (Err why) (Ok p) e h = absurd h
stepped_at s at (Err why) (Err f) e h = (sym e ∙ ap (λ (x : Refusal). Refused (reason_number x.reason)) (sym h), ap (λ (x : Refusal). x.place) h)

-- ---- the search, a step at a time
module _ (s name : List ℕ) where
  pub sought_done : (k at : ℕ) → k ≤ 0 → Nowhere at ≡ sought s name k at
  unfolding sought
  sought_done k at h = let none : k ≡ 0 = omega arith in rw none

  module _ (k at : ℕ) (more : 0 < k) where
    one : sought s name k at ≡ sought_by s name (k - 1) at (sought s name (k - 1)) (step_at s at)
    unfolding sought
    one = let next : k ≡ suc (k - 1) = omega arith in ap (λ n. sought s name n at) next

    pub sought_refused : {n : ℕ} → step_at s at ≡ Refused n → RefusedAt n at ≡ sought s name k at
    sought_refused e = sym (one ∙ ap (sought_by s name (k - 1) at (sought s name (k - 1))) e)

    module _ {p : Offsets} {q : Cursor} (e : step_at s at ≡ Past p q) where
      pub sought_here : same (name_at s at) name ≡ true → Found p.start q.at (k - 1) ≡ sought s name k at
      sought_here is = sym (one ∙ ap (sought_by s name (k - 1) at (sought s name (k - 1))) e ∙ rw is)

      pub sought_later : same (name_at s at) name ≡ false → sought s name (k - 1) q.at ≡ sought s name k at
      sought_later is = sym (one ∙ ap (sought_by s name (k - 1) at (sought s name (k - 1))) e ∙ rw is)

-- what is found lies within
abbrev pub SoughtWithin : ℕ → Sought → Type 0
SoughtWithin n (Found start end left) = end ≤ n
SoughtWithin n (Nowhere at) = Unit {0}
SoughtWithin n (RefusedAt number at) = Unit {0}

pub sought_within : (s name : List ℕ) (k at : ℕ) → SoughtWithin (length s) (sought s name k at)
unfolding sought
sought_within s name zero at = tt
sought_within s name (suc k) at = by (step_at s at) (λ b. sought_within s name k b) refl
  where
    choose : (b : Bool) (p : Offsets) (q : Cursor) → q.at ≤ length s → SoughtWithin (length s) (sought s name k q.at)
        → SoughtWithin (length s) (cond b (Found p.start q.at k) (sought s name k q.at))
    choose true p q h ih = h
    choose false p q h ih = ih

    by : (w : Step) → ((b : ℕ) → SoughtWithin (length s) (sought s name k b)) → step_at s at ≡ w → SoughtWithin (length s) (sought_by s name k at (sought s name k) w)
    by (Past p q) ih e = choose (same (name_at s at) name) p q (passed_within s at e).2 (ih q.at)
    by (Refused n) ih e = tt

-- the empty name is not found: the search ends as the walk does
abbrev pub sought_end : Sought → Passed
sought_end (Found start end left) = record { number = 0; at = end }
sought_end (Nowhere at) = record { number = 0; at = at }
sought_end (RefusedAt number at) = record { number = number; at = at }

pub sought_all : (s : List ℕ) (k at : ℕ) → sought_end (sought s [] k at) ≡ end_of (pass s k at)
unfolding sought pass
sought_all s zero at = refl
sought_all s (suc k) at = by (step_at s at) (λ b. sought_all s k b) refl
  where
    by : (w : Step) → ((b : ℕ) → sought_end (sought s [] k b) ≡ end_of (pass s k b)) → step_at s at ≡ w
        → sought_end (sought_by s [] k at (sought s [] k) w) ≡ end_of (by_step at (pass s k) w)
    by (Past p q) ih e = rw (passed_named s at e) (ih q.at)
    by (Refused n) ih e = refl
