-- `le::put_bytes`: as many as have room; nothing past the end.
use mathlib.Core.Path.{sym}
use Rattle.le.proofs.Puts.{put_most}
use Rattle.base.proofs.Stores.{sets_past}
use Rattle.le.proofs.put_bytes.Goals as goal

pub returns-then-at-out : goal.returns-then-at-out
returns-then-at-out c =
    let a = c.args in
    put_most a.out.now a.at a.bytes.now c.min-n.result c.min-n.ensures c.copy_to.ensures

pub returns-else-at-out : goal.returns-else-at-out
returns-else-at-out c = let a = c.args in sym (sets_past a.out.now a.at a.bytes.now c.if-at-out.false)
