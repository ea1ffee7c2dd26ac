-- `reader::properties::Properties::links`: what the rest says is what the whole says.
use Rattle.std.proofs.Common.{◌≡◌, ◌+◌, ◌≤◌, drop}
use Rattle.rules.specs.Packing.{lines_from}
use Rattle.links.specs.Private.{node_linked}
use Rattle.reader.specs.Private.{target_count}
use Rattle.reader.proofs.properties.Properties.links.Given as goal

abbrev pub invariant-loop-i : goal.invariant-loop-i
invariant-loop-i l = record {
  count : l.links ≤ l.before + l.i;
  rest : node_linked (target_count l.targets) (lines_from l.self.lines.now) l.self.start l.self.body.now l.links (drop l.i l.self.starts.now)
      ≡ node_linked (target_count l.targets) (lines_from l.self.lines.now) l.self.start l.self.body.now l.before l.self.starts.now;
}
