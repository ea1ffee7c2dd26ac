-- `vectors::parts::name`: bytes that are too many are not asked about.
use borrow.Author.Tests.{lt-ltb, le-ltb}
use Rattle.vectors.specs.Parts.{name_line}
use Rattle.vectors.proofs.parts.name.Goals as goal

pub returns-then-bytes-gt65535 : goal.returns-then-bytes-gt65535
unfolding name_line
returns-then-bytes-gt65535 c = rw (lt-ltb _ _ c.if-bytes-gt65535.true) c.none.ensures

pub returns : goal.returns
unfolding name_line
returns c = rw (le-ltb _ _ c.if-bytes-gt65535.false) (rw (c.size_ok.ensures, c.bytes_ok.ensures) at c.truth.ensures)
