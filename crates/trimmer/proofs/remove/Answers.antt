-- `trimmer::remove`: 30, 31, 32, or the file without the row.
use native.Mathlib.Omega.{arith}
use mathlib.Core.Path.{◌≡◌, refl, ap, sym, ◌∙◌}
use mathlib.Core.Bool.{false}
use lib.ListN.{length, get_or}
use Prim.Native.Nat.{◌+◌, ◌<◌}
use Rattle.le.specs.Le.{AreBytes}
use Rattle.kinds.specs.Kinds.{is_known}
use Rattle.table.specs.declared.Row.{Row}
use Rattle.table.specs.Table.{blank}
use Rattle.format.specs.Rows.{own_bytes}
use Rattle.walk.specs.Walk.{limited}
use Rattle.emit.specs.Emission.{written_told}
use Rattle.removal.specs.Trimmer.{new_file}
use Rattle.removal.proofs.NewFile.{NewFile, new_file_of}
use Rattle.trimmer.proofs.Without.{few_nodes, row_there}
use Rattle.trimmer.proofs.Answers.{ends_30, ends_31, ends_32, ends_done}
use Rattle.trimmer.proofs.remove.Goals as goal
use Rattle.trimmer.proofs.remove.Goals.{After-known, Else-known}

pub returns-then-nodes-k : goal.returns-then-nodes-k
returns-then-nodes-k c =
    let a = c.args in
    let all = ends_30 a.file.now a.k a.table.now a.out.now (omega (arith, c.requires.nodes, c.if-nodes-k.true)) (ap written_told c.refuse.ensures.0) c.refuse.ensures.1 in
    record { result = all.0; output = all.1.0; table = all.1.1; place = rw c.refuse.ensures.0 refl }

-- once the kind is told: the row is the file's
module _ (c : After-known) where
  bytes : AreBytes c.args.file.now
  bytes i = omega (arith, c.type_inv.file i)

  there : c.args.k < length (limited c.args.file.now).rows
  there = omega (arith, c.requires.nodes, c.if-nodes-k.false)

  row_is : c.row_at-row.result ≡ get_or (limited c.args.file.now).rows c.args.k blank
  row_is = c.row_at-row.ensures ∙ row_there bytes c.requires c.args.k c.if-nodes-k.false

  kind_is : c.known.result ≡ is_known (get_or (limited c.args.file.now).rows c.args.k blank).kind
  kind_is = c.known.ensures ∙ ap (λ (r : Row). is_known r.kind) row_is

pub returns-then-known : goal.returns-then-known
returns-then-known c =
    let a = c.args in
    let k = (goal.at.returns-then-known c).After-known in
    let all = ends_31 a.file.now a.k a.table.now a.out.now (there k) (sym (kind_is k) ∙ c.if-known.true) (ap written_told c.refuse-then-known.ensures.0) c.refuse-then-known.ensures.1 in
    record { result = all.0; output = all.1.0; table = all.1.1; place = rw c.refuse-then-known.ensures.0 refl }

-- once it is known to be unknown: the new file's length
module _ (c : Else-known) where
  abbrev told : After-known
  told = (goal.at.Else-known c).After-known

  unknown : is_known (get_or (limited c.args.file.now).rows c.args.k blank).kind ≡ false
  unknown = sym (kind_is told) ∙ c.if-known.false

  new : NewFile c.args.file.now c.args.k
  new = new_file_of c.args.file.now (bytes told) c.requires.accepted c.args.k (there told) unknown

  shorter : length (new_file c.args.file.now c.args.k) + own_bytes c.row_at-row.result ≡ length c.args.file.now
  shorter = ap (λ r. length (new_file c.args.file.now c.args.k) + own_bytes r) (row_is told) ∙ new.shorter

pub length_without-requires : goal.length_without-requires
length_without-requires c = omega (arith, shorter (goal.at.length_without-requires c).Else-known)

pub returns-then-out-length_without : goal.returns-then-out-length_without
returns-then-out-length_without c =
    let a = c.args in
    let o = (goal.at.returns-then-out-length_without c).Else-known in
    let all =
    ends_32 a.file.now a.k a.table.now a.out.now (there (told o)) (unknown o) (omega (arith, shorter o, c.length_without.ensures, c.if-out-length_without.true))
    (ap written_told c.refuse-then-out-length_without.ensures.0) c.refuse-then-out-length_without.ensures.1 in
    record { result = all.0; output = all.1.0; table = all.1.1; place = rw c.refuse-then-out-length_without.ensures.0 refl }

pub invariant_of-removal : goal.invariant_of-removal
invariant_of-removal c =
    let k = told (goal.at.invariant_of-removal c).Else-known in
    record { there = omega (arith, there k, c.requires.nodes); few = few_nodes (bytes k) c.requires }

pub rewrite-requires : goal.rewrite-requires
rewrite-requires c =
    let o = (goal.at.rewrite-requires c).Else-known in
    record {
      read = c.requires;
      unknown = unknown o;
      above = ap (λ (r : Row). r.parent) (row_is (told o));
      fits = omega (arith, shorter o, c.length_without.ensures, c.if-out-length_without.false);
    }

pub returns : goal.returns
returns c =
    let a = c.args in
    let o = (goal.at.returns c).Else-known in
    let all =
    ends_done a.file.now a.k a.table.now a.out.now (there (told o)) (unknown o) (omega (arith, shorter o, c.length_without.ensures, c.if-out-length_without.false))
    c.rewrite.ensures.result c.rewrite.ensures.output c.rewrite.ensures.table in
    record { result = all.0; output = all.1.0; table = all.1.1; place = c.rewrite.ensures.place }
