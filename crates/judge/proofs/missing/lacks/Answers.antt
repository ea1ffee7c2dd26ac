-- `judge::missing::lacks`: a required property, or a partner.
use Rattle.judge.specs.ByLine.{lacks_by_line}
use Rattle.judge.proofs.missing.lacks.Goals as goal

pub returns : goal.returns
unfolding lacks_by_line
returns c = rw c.unpartnered.ensures
