-- `emit::emit`: by the file's length, and by the room.
use Prim.Native.Nat.{ℕ, ◌+◌, ◌≤◌, min}
use native.Mathlib.Omega.{arith}
use mathlib.Core.Path.{◌≡◌, refl, ap, subst, ◌∙◌}
use mathlib.Core.List.{List}
use lib.ListN.{length, length-replicate}
use lib.Seq.{sets, length-sets}
use Rattle.std.specs.Prelude.{Some}
use Rattle.table.specs.declared.Row.{Row}
use Rattle.table.specs.Table.{rows_at}
use Rattle.format.specs.Forest.{file_header}
use Rattle.emit.specs.Emission.{Written}
use Rattle.emit.specs.Emission.{nodes_bytes, roots, emission, output_of}
use Rattle.emit.specs.Private.{MeasuresRows}
use Rattle.base.proofs.Stores.{zeros}
use Rattle.emit.proofs.Whole.{too_long_lem, no_room_lem, file_put}
use borrow.Author.Rules.{rules}
use Rattle.emit.proofs.emit.Goals as goal
use Rattle.emit.proofs.emit.Goals.{After-measure, After-put_file_header}

pub measure-requires : goal.measure-requires
measure-requires c = (omega arith, length-replicate {A = ℕ} 1024 0, zeros 1024)

-- at what was measured
module _ (c : After-measure) where
  abbrev source : List ℕ
  source = c.args.source.now

  abbrev rows : List Row
  rows = rows_at c.args.plan.now 0 c.min-n.result

  abbrev flags : ℕ
  flags = c.args.flags

  abbrev out : List ℕ
  out = c.args.out.now

  answered : (w : Written) (last : List ℕ) → (w ≡ emission flags source rows (length out)) × (last ≡ output_of flags source rows out)
      → (w ≡ emission flags source (rows_at c.args.plan.now 0 (min c.args.rows 1024)) (length out))
      × (last ≡ output_of flags source (rows_at c.args.plan.now 0 (min c.args.rows 1024)) out)
  answered w last p =
      subst
      (λ k. (w ≡ emission flags source (rows_at c.args.plan.now 0 k) (length out))
      × (last ≡ output_of flags source (rows_at c.args.plan.now 0 k) out))
      c.min-n.ensures
      p

pub returns-in_default : goal.returns-in_default
returns-in_default c =
    let m = (goal.at.returns-in_default c).After-measure in
    let long = rw c.in_default.is at c.measure.ensures in
    let a = answered m _ _ (too_long_lem (flags m) (source m) (rows m) (out m) long) in
    record { result = rw c.at.ensures a.0; output = a.1; place = rw c.at.ensures refl }

pub returns-then-out-least : goal.returns-then-out-least
returns-then-out-least c =
    let m = (goal.at.returns-then-out-least c).After-measure in
    let d = rw c.in-Some.is at c.measure.ensures in
    let x = no_room_lem (flags m) (source m) (rows m) (out m) (omega (arith, d.0, d.1)) (omega (arith, d.0, c.if-out-least.true)) in
    let a = answered m _ _ x in
    record { result = rw c.at-then-out-least.ensures a.0; output = a.1; place = rw c.at-then-out-least.ensures refl }

-- where the header is put: there is room, and this is what was measured
module _ (c : After-put_file_header) where
  abbrev at_measured : After-measure
  at_measured = (goal.at.After-put_file_header c).After-measure

  is : MeasuresRows (Some c.in-Some.m) (source at_measured) c.args.plan.now c.min-n.result c.measure.new.sizes
  is = rw c.in-Some.is at c.measure.ensures

  fits : 16 + length (nodes_bytes (source at_measured) 0 (rows at_measured)) ≤ length (out at_measured)
  fits = omega (arith, is.0, c.if-out-least.false)

  head : c.put_file_header.new.out ≡ sets (out at_measured) 0 (file_header (roots (rows at_measured)) (flags at_measured))
  head = c.put_file_header.ensures ∙ ap (λ k. sets (out at_measured) 0 (file_header k (flags at_measured))) is.2

pub put_nodes-requires : goal.put_nodes-requires
put_nodes-requires c =
    let h = (goal.at.put_nodes-requires c).After-put_file_header in
    let m = at_measured h in
    let same = ap length (head h) ∙ length-sets (out m) 0 (file_header (roots (rows m)) (flags m)) in
    record {
      rows = omega arith;
      length = search rules;
      sizes = (is h).3;
      room = omega (arith, fits h, same);
    }

pub returns : goal.returns
returns c =
    let h = (goal.at.returns c).After-put_file_header in
    let m = at_measured h in
    let a = answered m _ _ (file_put (flags m) (source m) (rows m) (out m) (omega (arith, (is h).0, (is h).1)) (fits h) (head h) c.put_nodes.ensures (is h).0) in
    record { result = a.0; output = a.1; place = refl }
