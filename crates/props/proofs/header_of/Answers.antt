-- `props::header_of`: the three numbers are parts of one.
use native.Mathlib.Omega.{arith}
use Rattle.props.proofs.Header.{header_number}
use Rattle.props.proofs.header_of.Goals as goal

pub returns : goal.returns
returns c =
    header_number c.args.bytes.now (λ i. omega (arith, c.type_inv.bytes i)) c.read-number.ensures
