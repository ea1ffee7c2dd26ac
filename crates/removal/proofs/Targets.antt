-- What a link reaches is of a known kind, computed over the table.
use Prim.Native.Nat.{ℕ}
use native.Mathlib.Omega.{arith}
use mathlib.Core.Path.{◌≡◌, refl, ap}
use mathlib.Core.Logic.{⊎_elim}
use mathlib.Core.Bool.{Bool, true, false}
use mathlib.Core.List.{List}
use lib.Dec.{eqb}
use borrow.Author.Tests.{ne_eqb}
use Rattle.kinds.specs.Kinds.{is_known, parents_of, parents_in, parents_table}
use Rattle.rules.specs.Table.{Line, lines, link_to}
use Rattle.rules.specs.Rules.{lines_of, if_link}
use Rattle.rules.proofs.Laws.{all, ruled}
use Rattle.base.specs.Lists.{Each}
use Rattle.base.proofs.Lists.{each_map}
use Rattle.valid.proofs.Listed.{all_each}
use Rattle.props.specs.Step.{name_at}
use Rattle.judge.specs.Properties.{rule_at}

-- where a line is a link's, its target is of a known kind
abbrev tells : Line → Bool
tells l = if_link l.held is_known true

lines_tell : all tells lines ≡ true
unfolding all lines is_known parents_of parents_in parents_table
lines_tell = refl

abbrev pub ToKnown : Line → Type 0
ToKnown l = (to : ℕ) → l.held ≡ link_to to → is_known to ≡ true

pub targets_known : Each ToKnown lines
targets_known = each_map (λ l t to e. rw e at t) lines (all_each tells lines lines_tell)

-- of the property at a place
pub target_at : (kind : ℕ) (s : List ℕ) (at to : ℕ) → (rule_at (lines_of kind) s at).held ≡ link_to to → is_known to ≡ true
target_at kind s at to e = rw e at (⊎_elim (λ f. ap tells f) (λ t. t.0) (ruled tells kind (name_at s at) lines_tell))

-- an unknown kind is no known one
pub unlike : (a b : ℕ) → is_known a ≡ false → is_known b ≡ true → eqb a b ≡ false
unlike a b u k = ne_eqb a b (λ e. let z : ◌≡◌ {A = ℕ} 0 1 = cc in omega arith)
