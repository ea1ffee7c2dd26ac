-- `judge::typed::place_after`: by whether there is one.
use Rattle.std.proofs.Common.{sym, ◌∙◌, true≢false}
use Rattle.judge.proofs.typed.place_after.Goals as goal

pub returns-then-not-more : goal.returns-then-not-more
returns-then-not-more c = record { next = λ e. absurd (true≢false (sym e ∙ c.if-not-more.true)); within = c.requires }

pub returns : goal.returns
returns c = record { next = λ e. c.next_by.ensures.result; within = c.next_by.ensures.within }
