-- `faces::scan`: either pass says what all faces say.
use Prim.Native.Nat.{◌*◌, ◌≤◌}
use native.Mathlib.Omega.{arith}
use native.Mathlib.Nat.{mul-le-mul_left}
use mathlib.Core.Path.{ap, ◌∙◌}
use Rattle.base.proofs.Answers.{told}
use Rattle.faces.specs.Faces.{width_of, faces_in, scan_numbers}
use Rattle.faces.proofs.Laws.{scan_whole}
use Rattle.faces.proofs.scan.Goals as goal

pub overflow_mul-size : goal.overflow_mul-size
overflow_mul-size c =
    let most : 3 * c.width_of.result ≤ 12 = omega arith in
    omega (arith, mul-le-mul_left c.args.count most)

pub returns-then-bytes-size : goal.returns-then-bytes-size
returns-then-bytes-size c =
    let a = c.args in
    let all = told scan_numbers (c.scan_each.ensures ∙ scan_whole a.vertices (faces_in (width_of a.code) a.count a.bytes.now)) in record { result = all.0; numbers = all.1 }

pub scan_blocks-requires : goal.scan_blocks-requires
scan_blocks-requires c =
    let a = c.args in
    omega (arith, ap (λ w. a.count * (3 * w)) c.width_of.ensures.result)

pub returns : goal.returns
returns c = let all = told scan_numbers c.scan_blocks.ensures in record { result = all.0; numbers = all.1 }
