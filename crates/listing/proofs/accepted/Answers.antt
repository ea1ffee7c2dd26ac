-- `listing::accepted`: the head, the lines of the rows, and the foot, one after the other.
use native.Mathlib.Omega.{arith}
use mathlib.Core.Path.{◌≡◌, refl, sym}
use mathlib.Core.List.{List, [], ◌++◌, append-nil}
use Prim.Native.Nat.{ℕ, ◌+◌}
use lib.ListN.{length}
use Rattle.table.specs.declared.Row.{Row}
use Rattle.table.specs.Table.{rows_at}
use Rattle.reader.specs.declared.Account.{Account}
use Rattle.reader.specs.Reading.{Accepted}
use Rattle.text.proofs.Laws.{put_short}
use Rattle.listing.specs.Listing.{text_of, node_lines, file_lines, printed}
use Rattle.listing.proofs.Laws.{puts_written, passed_none, passed_more, passed_all}
use Rattle.listing.proofs.Whole.{summary_of, foot_of, file_parts, file_length}
use Rattle.listing.proofs.accepted.Goals as goal
use Rattle.listing.proofs.accepted.Goals.{After-nodes_size}

module _ (c : After-nodes_size) where
  abbrev out : List ℕ
  out = c.args.out.now

  abbrev bytes : ℕ
  bytes = c.args.bytes

  abbrev account : Account
  account = c.args.a

  abbrev listed : List Row
  listed = rows_at c.args.table.now 0 account.nodes

  abbrev whole : List ℕ
  whole = printed (file_lines bytes (Accepted account) listed)

  abbrev head : List ℕ
  head = text_of (summary_of bytes account listed)

  abbrev rows : List ℕ
  rows = printed (node_lines 0 listed)

  abbrev foot : List ℕ
  foot = printed (foot_of bytes account listed)

  -- what was added up is the length
  long : length whole ≡ c.size.result + c.nodes_size.result + c.foot_size-foot.result
  long = omega (arith, file_length bytes account listed, c.size.ensures.0, c.nodes_size.ensures.0, c.foot_size-foot.ensures.0)

pub returns-then-out-size : goal.returns-then-out-size
returns-then-out-size c =
    let n = (goal.at.returns-then-out-size c).After-nodes_size in
    put_short (out n) 0 (whole n) (omega (arith, long n))

pub returns : goal.returns
returns c =
    let n = (goal.at.returns c).After-nodes_size in
    let parts = file_parts (bytes n) (account n) (listed n) in
    let with_summary = passed_more (out n) 0 (whole n) (passed_none (out n) 0 (whole n)) (head n) (rows n ++ foot n) parts c.put_line-next.ensures in
    let with_rows = passed_more (out n) 0 (whole n) with_summary (rows n) (foot n) refl c.put_node_lines-last.ensures in
    let with_foot = passed_more (out n) 0 (whole n) with_rows (foot n) [] (sym (append-nil (foot n))) c.put_foot.ensures in
    puts_written (out n) 0 (whole n) (omega (arith, long n, c.if-out-size.false)) (passed_all (out n) 0 (whole n) with_foot refl)
