-- `judge::properties::Properties::has`: it is among them where its first place is one of theirs.
use Rattle.std.proofs.Common.{◌∙◌}
use Rattle.judge.proofs.Named.{among}
use Rattle.judge.proofs.properties.Properties.has.Goals as goal

pub returns : goal.returns
returns c = c.contains.ensures.value ∙ among c.args.line c.args.self.now.numbers.now
