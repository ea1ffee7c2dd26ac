-- `reader::unjudged::unknown_bytes`: by whether the kind is known.
use native.Mathlib.Omega.{arith}
use mathlib.Core.Path.{sym, ◌∙◌}
use Rattle.reader.proofs.Bare.{bytes_known, bytes_unknown}
use Rattle.reader.proofs.unjudged.unknown_bytes.Goals as goal

pub returns-then-known : goal.returns-then-known
returns-then-known c = (bytes_known c.args.row (sym c.requires ∙ c.if-known.true), omega arith)

pub returns : goal.returns
returns c =
    (c.own_bytes-own.ensures.result ∙ bytes_unknown c.args.row (sym c.requires ∙ c.if-known.false), omega (arith, c.own_bytes-own.ensures.bound))
