-- `listing::put_line`: by the line's kind.
use mathlib.Core.Path.{◌≡◌}
use mathlib.Core.List.{List, ◌++◌}
use Prim.Native.Nat.{ℕ}
use Rattle.base.specs.Letters.{letters}
use Rattle.listing.specs.declared.TextLine.{TextLine}
use Rattle.listing.specs.Listing.{text_of, newline, words_of}
use Rattle.listing.specs.Private.{Puts}
use Rattle.listing.proofs.Laws.{puts_first}
use Rattle.listing.proofs.put_line.Goals as goal

as_line : {l k : TextLine} {out last : List ℕ} {at r : ℕ} → l ≡ k → Puts out at (text_of k) r last → Puts out at (text_of l) r last
as_line e p = rw e p

pub put_summary-requires : goal.put_summary-requires
put_summary-requires c = rw c.in-Summary.is at c.requires

pub put_node_line-requires : goal.put_node_line-requires
put_node_line-requires c = rw c.in-Node.is at c.requires

pub put_pair-requires : goal.put_pair-requires
unfolding words_of text_of letters
put_pair-requires c = rw c.in-Faces.is at c.requires

pub put_total-requires : goal.put_total-requires
put_total-requires c = rw c.in-Total.is at c.requires

pub put_pair-requires-in-Refusal : goal.put_pair-requires-in-Refusal
unfolding words_of text_of letters
put_pair-requires-in-Refusal c = rw c.in-Refusal.is at c.requires

pub returns-in-Summary : goal.returns-in-Summary
returns-in-Summary c = as_line c.in-Summary.is c.put_summary.ensures

pub returns-in-Node : goal.returns-in-Node
returns-in-Node c = as_line c.in-Node.is c.put_node_line.ensures

pub returns-in-FileHeader : goal.returns-in-FileHeader
unfolding words_of text_of letters
returns-in-FileHeader c =
    let e = c.in-FileHeader.is in
    as_line e (puts_first c.args.out.now c.args.at (letters "header 16" ++ newline) (rw e at c.requires) (c.put.ensures.place, c.put.ensures.output))

pub returns-in-Faces : goal.returns-in-Faces
unfolding words_of text_of letters
returns-in-Faces c = as_line c.in-Faces.is c.put_pair.ensures

pub returns-in-Total : goal.returns-in-Total
returns-in-Total c = as_line c.in-Total.is c.put_total.ensures

pub returns-in-Refusal : goal.returns-in-Refusal
unfolding words_of text_of letters
returns-in-Refusal c = as_line c.in-Refusal.is c.put_pair-in-Refusal.ensures

pub returns-in-TooLong : goal.returns-in-TooLong
unfolding words_of text_of letters
returns-in-TooLong c =
    let e = c.in-TooLong.is in
    as_line e (puts_first c.args.out.now c.args.at (letters "too long" ++ newline) (rw e at c.requires) (c.put-in-TooLong.ensures.place, c.put-in-TooLong.ensures.output))
