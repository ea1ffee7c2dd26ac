-- Numbers of a file's reading are bounded by its length: the places of its links, and its faces.
use Prim.Native.Nat.{ℕ, suc, ◌+◌, ◌≤◌}
use native.Mathlib.Omega.{arith}
use mathlib.Core.List.{List, [], ◌∷◌}
use lib.ListN.{length, get_or}
use Rattle.base.proofs.Tests.{by_test}
use Rattle.kinds.specs.Kinds.{is_known}
use Rattle.table.specs.declared.Row.{Row}
use Rattle.body.specs.Body.{properties}
use Rattle.body.proofs.Places.{starts_within}
use Rattle.rules.specs.Table.{Line}
use Rattle.rules.specs.Rules.{lines_of}
use Rattle.judge.specs.Properties.{rule_at}
use Rattle.format.specs.Rows.{body_of}
use Rattle.base.specs.Lists.{Each}
use Rattle.base.proofs.Lists.{each_append}
use Rattle.base.proofs.Refusals.{by_refusal}
use Rattle.format.proofs.Rows.{body_length}
use Rattle.links.specs.Links.{Link, links_at, links_from, refusal_of, refused_links, resolved}
use Rattle.rules.proofs.Helds.{by_link}
use Rattle.reader.specs.Private.{RowOk}

-- ---- links lie in the file
abbrev Lies : (size : ℕ) → Link → Type 0
Lies size l = l.property ≤ size

each_at : (n : ℕ) (xs : List ℕ) → ((i : ℕ) → get_or xs i 0 ≤ n) → Each (λ x. x ≤ n) xs
each_at n [] h = tt
each_at n (x ∷ xs) h = (h 0, each_at n xs (λ i. h (suc i)))

at_lie : (all : List Row) (ls : List Line) (row start size : ℕ) (s starts : List ℕ) → start + length s ≤ size → Each (λ at. at ≤ length s) starts
    → Each (Lies size) (links_at all ls row start s starts)
unfolding links_at
at_lie all ls row start size s [] fits h = tt
at_lie all ls row start size s (at ∷ more) fits h =
    let ih = at_lie all ls row start size s more fits h.1 in
    by_link (Each (Lies size)) (rule_at ls s at).held _ _ (λ to e. (omega (arith, h.0), ih)) (λ other. ih)

pub links_lie : (s : List ℕ) (all : List Row) (n i : ℕ) (rs : List Row) → Each (RowOk s n) rs → Each (Lies (length s)) (links_from s all i rs)
unfolding links_from
links_lie s all n i [] h = tt
links_lie s all n i (r ∷ rs) h =
    let size = length s in
    let ih = links_lie s all n (suc i) rs h.1 in
    let body = body_of s r in
    let fits : r.start + length body ≤ size = omega (arith, body_length s r, h.0.onward, h.0.within) in
    let here = at_lie all (lines_of r.kind) i r.start size body (properties body r.properties).starts fits (each_at (length body) (properties body r.properties).starts (starts_within body r.properties)) in
    by_test (is_known r.kind) (λ t. rw t ((each_append (Lies size) (links_at all (lines_of r.kind) i r.start body (properties body r.properties).starts) (links_from s all (suc i) rs)).1 (here, ih))) (λ t. rw t ih)

pub resolved_lies : (n size : ℕ) (ls : List Link) → Each (Lies size) ls → (resolved n ls).place ≤ size
unfolding resolved
resolved_lies n size [] h = omega arith
resolved_lies n size (l ∷ ls) h =
    let k = refusal_of (length l.targets) in
    by_refusal (λ w. w.place ≤ size) k (refused_links k l.property) (resolved (suc n) ls) (λ e. h.0) (λ e. resolved_lies (suc n) size ls h.1)
