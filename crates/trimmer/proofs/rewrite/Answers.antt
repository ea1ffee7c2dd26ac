-- `trimmer::rewrite`: the row taken out, the rest emitted, and its bodies placed anew.
use native.Mathlib.Omega.{arith}
use mathlib.Core.Path.{refl, ap, ◌∙◌}
use Rattle.le.specs.Le.{AreBytes}
use Rattle.emit.specs.Emission.{Written}
use Rattle.trimmer.proofs.Trimming.{place_told}
use Rattle.trimmer.proofs.Without.{filled_there, fits, emitted, put, laid}
use Rattle.trimmer.proofs.rewrite.Goals as goal

pub take_out-requires : goal.take_out-requires
take_out-requires c =
    let b : AreBytes c.args.file.now = λ i. omega (arith, c.type_inv.file i) in
    (c.requires.read.room, filled_there b c.requires.read)

pub emit_and_place-requires : goal.emit_and_place-requires
emit_and_place-requires c =
    let b : AreBytes c.args.file.now = λ i. omega (arith, c.type_inv.file i) in
    (omega (arith, c.args.removal.few), fits b c.args.removal.there c.requires _ c.take_out.ensures)

pub returns : goal.returns
returns c =
    let b : AreBytes c.args.file.now = λ i. omega (arith, c.type_inv.file i) in
    let q = c.take_out.ensures in
    let w = c.emit_and_place.ensures in
    let done = emitted b c.args.removal.there c.requires _ q _ w.result in
    record {
      result = done;
      place = place_told c.emit_and_place.result ∙ ap (λ (v : Written). v.place) done;
      output = put b c.args.removal.there c.requires _ q _ _ refl w.output;
      table = w.table ∙ laid b c.args.removal.there c.requires _ q;
    }
