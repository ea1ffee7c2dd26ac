-- `reader::rules_by_hashes`: the hashes of the four kinds, counted, tell how many rows each link reaches.
use Prim.Native.Nat.{ℕ, ◌+◌, ◌≤◌}
use native.Mathlib.Omega.{arith}
use mathlib.Core.Path.{◌≡◌, sym, subst}
use mathlib.Core.List.{List}
use lib.ListN.{length}
use Rattle.kinds.specs.Kinds.{mesh, bone, material, file}
use Rattle.table.specs.declared.Row.{Row}
use Rattle.table.specs.Table.{rows_at}
use Rattle.table.proofs.Rests.{length_rows_at}
use Rattle.links.specs.Private.{hashes_of, Same}
use Rattle.links.proofs.Collecting.{hashes_room, AllCollected, all_collected}
use Rattle.links.proofs.Targets.{counts_reached}
use Rattle.links.proofs.Resolving.{linked_by_lem}
use Rattle.reader.proofs.Linking.{all_to}
use Rattle.reader.proofs.rules_by_hashes.Goals as goal
use Rattle.reader.proofs.rules_by_hashes.Goals.{After-collect-f}

-- there is room for all hashes
module _ (table : List ℕ) (nodes : ℕ) (most : nodes ≤ 1024) where
  few : length (rows_at table 0 nodes) ≤ 1024
  few = omega (arith, most, length_rows_at table 0 nodes)

  fits : (let rows = rows_at table 0 nodes in
      length (hashes_of material rows) + length (hashes_of mesh rows) + length (hashes_of bone rows) + length (hashes_of file rows) ≤ 1024)
  fits = omega (arith, few, hashes_room (rows_at table 0 nodes))

-- the hashes of each kind, where all are collected
module _ (c : After-collect-f) where
  abbrev rows : List Row
  rows = rows_at c.args.walked.table.now 0 c.args.walked.nodes

  hashes : AllCollected rows c.collect-f.new.out c.collect-m.result c.collect-s.result c.collect-b.result c.collect-f.result
  hashes = all_collected rows (few c.args.walked.table.now c.args.walked.nodes c.args.walked.few) c.collect-m.ensures c.collect-s.ensures c.collect-b.ensures c.collect-f.ensures

pub collect-m-requires : goal.collect-m-requires
collect-m-requires c = omega (arith, fits c.args.walked.table.now c.args.walked.nodes c.args.walked.few)

pub collect-s-requires : goal.collect-s-requires
collect-s-requires c =
    omega (arith, fits c.args.walked.table.now c.args.walked.nodes c.args.walked.few, c.collect-m.ensures.until, c.collect-m.ensures.size)

pub collect-b-requires : goal.collect-b-requires
collect-b-requires c =
    omega (
      arith,
      fits c.args.walked.table.now c.args.walked.nodes c.args.walked.few,
      c.collect-m.ensures.until,
      c.collect-m.ensures.size,
      c.collect-s.ensures.until,
      c.collect-s.ensures.size,
    )

pub collect-f-requires : goal.collect-f-requires
collect-f-requires c =
    omega (
      arith,
      fits c.args.walked.table.now c.args.walked.nodes c.args.walked.few,
      c.collect-m.ensures.until,
      c.collect-m.ensures.size,
      c.collect-s.ensures.until,
      c.collect-s.ensures.size,
      c.collect-b.ensures.until,
      c.collect-b.ensures.size,
    )

pub new-targets-requires : goal.new-targets-requires
new-targets-requires c =
    let h = hashes (goal.at.new-targets-requires c).After-collect-f in
    record { places = h.places; sorted = (h.materials.ascending, h.meshes.ascending, h.bones.ascending, h.files.ascending) }

-- and the targets have them
same : (kind : ℕ) (rows : List Row) {xs ys : List ℕ} → xs ≡ ys → Same ys (hashes_of kind rows) → Same xs (hashes_of kind rows)
same kind rows e = subst (λ l. Same l (hashes_of kind rows)) (sym e)

pub returns : goal.returns
returns c =
    let all = rows_at c.args.walked.table.now 0 c.args.walked.nodes in
    let h = hashes (goal.at.returns c).After-collect-f in
    let t = c.new-targets.ensures in
    let counts = counts_reached all _ _ _ _ (same material all t.materials h.materials.same) (same mesh all t.meshes h.meshes.same)
    (same bone all t.bones h.bones.same) (same file all t.files h.files.same) in
    let x = c.rules_of.ensures in
    all_to c.args.walked.file.now all _ c.rules_of.result x.result x.place x.links x.unknown (linked_by_lem _ all counts c.args.walked.file.now)
