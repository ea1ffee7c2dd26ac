-- `faces::width_of`: each arm by its code, and the last by none of them.
use native.Mathlib.Omega.{arith}
use mathlib.Core.Path.{sym}
use Rattle.faces.proofs.Laws.{width_byte, width_short, width_other}
use Rattle.faces.proofs.width_of.Goals as goal

pub returns-in-98 : goal.returns-in-98
returns-in-98 c = record { result = sym (width_byte c.args.code c.in-98.is); bound = omega arith }

pub returns-in-104 : goal.returns-in-104
returns-in-104 c = record { result = sym (width_short c.args.code c.in-104.is); bound = omega arith }

pub returns-in_default : goal.returns-in_default
returns-in_default c =
    record { result = sym (width_other c.args.code (λ e. omega arith) (λ e. omega arith)); bound = omega arith }
