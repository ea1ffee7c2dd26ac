-- `judge::typed::is_before`: where none was seen, or none has the key, none has the name.
use Rattle.std.proofs.Common.{sym, ◌∙◌}
use Rattle.judge.proofs.typed.is_before.Goals as goal

pub returns-then-not-seen : goal.returns-then-not-seen
returns-then-not-seen c = sym (c.requires.slot c.if-not-seen.true)

pub returns-then-not-has_key : goal.returns-then-not-has_key
returns-then-not-has_key c = sym (c.requires.keys (sym c.has_key.ensures ∙ c.if-not-has_key.true))
