-- 13: "name twice on a node; listed name with another type or length", at the property. The lines of the node's kind are ls, its body
-- is s. A place is an offset from the node's header: 24 is the first byte of its body.
use Rattle.std.specs.Prelude.{ℕ, zero, suc, ◌+◌, ◌-◌, ◌*◌, ◌/◌, ◌%◌, ◌^◌, Bool, cond, ◌||◌, List, [], ◌∷◌, ◌++◌, length, drop, slice_set}
use Rattle.base.specs.Refusals.{Refusal}
use Rattle.le.specs.Le.{number_at}
use Rattle.base.specs.Refusals.{refusal, no_refusal}
use Rattle.props.specs.Step.{code_at, length_at, name_at}
use Rattle.rules.specs.Table.{Line}
use Rattle.rules.specs.Rules.{misfits}
use Rattle.judge.specs.Properties.{rule_at, has}

-- "A repeated name lies at its later property": one before it has its name
abbrev pub repeats : (s before : List ℕ) (at : ℕ) → Bool
repeats s before at = has s before (name_at s at)

abbrev pub is_mistyped : List Line → (s before : List ℕ) (at : ℕ) → Bool
is_mistyped ls s before at = repeats s before at || misfits (rule_at ls s at) (code_at s at) (length_at s at)

-- "the first property in file order speaks": of those at `starts`, which come after the ones at `before`
unfoldable pub typed : List Line → (s before starts : List ℕ) → Refusal
typed ls s before [] = no_refusal
typed ls s before (at ∷ more) = cond (is_mistyped ls s before at) (refusal 13 (24 + at)) (typed ls s (before ++ (at ∷ [])) more)

-- ---- what is noted of the properties on the way

-- those before the first that is refused
unfoldable pub rightly_typed : List Line → (s before starts : List ℕ) → List ℕ
rightly_typed ls s before [] = []
rightly_typed ls s before (at ∷ more) = cond (is_mistyped ls s before at) [] (at ∷ rightly_typed ls s (before ++ (at ∷ [])) more)

-- the last eight letters of a name, as a number; of a shorter one, all of them
unfoldable pub last_letters : List ℕ → ℕ
last_letters name = number_at 8 name (length name - 8)

-- a number that equal names share: k numbers of eight letters and the last ones, each added to three times the sum so far, at 64 bits
abbrev pub summed : (sum eight : ℕ) → ℕ
summed sum eight = (((sum + sum) % 2 ^ 64 + sum) % 2 ^ 64 + eight) % 2 ^ 64

unfoldable pub key_from : (k sum : ℕ) → List ℕ → ℕ
key_from zero sum name = sum
key_from (suc k) sum name = key_from k (summed sum (number_at 8 name 0)) (drop 8 name)

unfoldable pub key_of : List ℕ → ℕ
key_of name = summed (key_from ((length name - 1) / 8) 0 name) (last_letters name)

abbrev pub key_at : (s : List ℕ) (at : ℕ) → ℕ
key_at s at = key_of (name_at s at)

-- one of 1,024 slots, by sums and products at 64 bits
unfoldable pub slot_of : (key : ℕ) → ℕ
slot_of key = (key % 2 ^ 32 * 0x9E3779B1 + key / 2 ^ 32 * 0x85EBCA77) % 2 ^ 64 / 2 ^ 27 % 1024

abbrev pub slot_at : (s : List ℕ) (at : ℕ) → ℕ
slot_at s at = slot_of (key_at s at)

-- the marks with some slots marked
unfoldable pub marked : (mark : ℕ) (marks slots : List ℕ) → List ℕ
marked m marks [] = marks
marked m marks (k ∷ ks) = marked m (slice_set marks k m) ks
