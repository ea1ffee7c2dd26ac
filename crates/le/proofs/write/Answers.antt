-- `le::write`: the number stored at the start of the part from the place on; nothing past the end.
use Rattle.le.specs.Le.{le}
use Rattle.le.proofs.Puts.{put_past, put_rest}
use borrow.Author.Rules.{rules}
use Rattle.le.proofs.write.Goals as goal

pub returns-then-at-out : goal.returns-then-at-out
returns-then-at-out g c = put_rest c.args.out.now c.args.at (le g.T.Number.width (g.T.Number.value c.args.x)) c.store.ensures

pub returns-else-at-out : goal.returns-else-at-out
returns-else-at-out g c = put_past g.T.Number.width c.args.out.now c.args.at (g.T.Number.value c.args.x) (search rules)
