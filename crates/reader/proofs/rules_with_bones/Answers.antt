-- `reader::rules_with_bones`: the Bones under each row are counted before the rules.
use Prim.Native.Nat.{ℕ}
use lib.ListN.{length-replicate}
use Rattle.reader.proofs.Whole.{bones_counted}
use Rattle.reader.proofs.rules_with_bones.Goals as goal

pub rules_beside-requires : goal.rules_beside-requires
rules_beside-requires c =
    let a = c.args.walked in
    bones_counted a.file.now a.table.now a.nodes a.few a.rows _ (length-replicate {A = ℕ} 1024 0) c.count_under.ensures
