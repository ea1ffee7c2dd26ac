-- No reason to refuse something has the number 0.
use mathlib.Core.Path.{◌≡◌}
use mathlib.Core.Bool.{false}
use lib.Dec.{eqb}
use borrow.Author.Tests.{ne_eqb}
use Rattle.base.specs.declared.Reason.{Reason}
use Rattle.base.specs.Refusals.{reason_number}
use Rattle.base.proofs.Refusals.{numbered}

pub reason_eqb : (r : Reason) → eqb (reason_number r) 0 ≡ false
reason_eqb r = ne_eqb (reason_number r) 0 (numbered r)
