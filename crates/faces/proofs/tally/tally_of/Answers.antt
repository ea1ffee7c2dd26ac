-- `faces::tally::tally_of`: each arm by the width of its code.
use Prim.Native.Nat.{ℕ, ◌*◌, ◌≤◌}
use native.Mathlib.Omega.{arith}
use mathlib.Core.Path.{◌≡◌, sym, ap, ◌∙◌}
use lib.ListN.{length}
use Rattle.faces.specs.Private.{tally_of}
use Rattle.faces.specs.Faces.{width_of, faces_in}
use Rattle.faces.proofs.Laws.{width_byte, width_short, width_other}
use Rattle.faces.proofs.tally.tally_of.Goals as goal
use Rattle.faces.proofs.tally.tally_of.Goals.{In-104, In-98, In_default}

-- the width of the code
width-b : (c : In-98) → width_of c.args.code ≡ 1
width-b c = width_byte c.args.code c.in-98.is

width-h : (c : In-104) → width_of c.args.code ≡ 2
width-h c = width_short c.args.code c.in-104.is

width-i : (c : In_default) → width_of c.args.code ≡ 4
width-i c = width_other c.args.code (λ e. omega arith) (λ e. omega arith)

-- n faces of it fit
fits : (n w v l : ℕ) → w ≡ v → n * (3 * w) ≤ l → n * (3 * v) ≤ l
fits n w v l e h = rw e at h

pub grouped-requires : goal.grouped-requires
grouped-requires c =
    (omega arith, omega (arith, fits c.args.n (width_of c.args.code) 1 (length c.args.bytes.now) (width-b (goal.at.grouped-requires c).In-98) c.requires.1))

pub grouped-requires-in-104 : goal.grouped-requires-in-104
grouped-requires-in-104 c =
    (omega arith, omega (arith, fits c.args.n (width_of c.args.code) 2 (length c.args.bytes.now) (width-h (goal.at.grouped-requires-in-104 c).In-104) c.requires.1))

pub each-requires : goal.each-requires
each-requires c =
    (omega arith, omega (arith, fits c.args.n (width_of c.args.code) 4 (length c.args.bytes.now) (width-i (goal.at.each-requires c).In_default) c.requires.1))

pub returns-in-98 : goal.returns-in-98
returns-in-98 c =
    let a = c.args in
    c.grouped.ensures ∙ ap (λ w. tally_of a.vertices (faces_in w a.n a.bytes.now)) (sym (width-b (goal.at.returns-in-98 c).In-98))

pub returns-in-104 : goal.returns-in-104
returns-in-104 c =
    let a = c.args in
    c.grouped-in-104.ensures ∙ ap (λ w. tally_of a.vertices (faces_in w a.n a.bytes.now)) (sym (width-h (goal.at.returns-in-104 c).In-104))

pub returns-in_default : goal.returns-in_default
returns-in_default c =
    let a = c.args in
    c.each.ensures ∙ ap (λ w. tally_of a.vertices (faces_in w a.n a.bytes.now)) (sym (width-i (goal.at.returns-in_default c).In_default))
