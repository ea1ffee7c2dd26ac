-- `listing::size`: by the line's kind.
use native.Mathlib.Omega.{arith}
use mathlib.Core.Path.{ap, ◌∙◌}
use Rattle.text.specs.Text.{decimal_size}
use Rattle.listing.proofs.Lengths.{summary_length, node_length, header_length, faces_length, total_length, refusal_length, too_long_length, told}
use Rattle.listing.proofs.size.Goals as goal

pub returns-in-Summary : goal.returns-in-Summary
returns-in-Summary c =
    let g = c.in-Summary in
    told g.is (omega (arith, summary_length g.flags g.nodes g.bytes)) (omega arith)

pub returns-in-Node : goal.returns-in-Node
returns-in-Node c =
    let g = c.in-Node in
    told g.is (omega (arith, node_length g.index g.row, c.decimal_size-in-Node-2.ensures.result ∙ ap decimal_size c.own_bytes-own.ensures.result)) (omega arith)

pub returns-in-FileHeader : goal.returns-in-FileHeader
returns-in-FileHeader c = told c.in-FileHeader.is header_length (omega arith)

pub returns-in-Faces : goal.returns-in-Faces
returns-in-Faces c =
    let g = c.in-Faces in
    told g.is (omega (arith, faces_length g.faces g.degenerate)) (omega arith)

pub returns-in-Total : goal.returns-in-Total
returns-in-Total c =
    let g = c.in-Total in
    told g.is (omega (arith, total_length g.bytes)) (omega arith)

pub returns-in-Refusal : goal.returns-in-Refusal
returns-in-Refusal c =
    let g = c.in-Refusal in
    told g.is (omega (arith, refusal_length g.number g.place)) (omega arith)

pub returns-in-TooLong : goal.returns-in-TooLong
returns-in-TooLong c = told c.in-TooLong.is too_long_length (omega arith)
