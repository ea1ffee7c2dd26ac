-- No line has more than twelve numbers, so that an answer has all of them.
use Rattle.std.specs.Prelude.{Option, Some, None}
use Prim.Native.Nat.{ℕ, ◌+◌, ◌*◌, ◌/◌, ◌%◌, ◌≤◌}
use native.Mathlib.Omega.{arith}
use native.Mathlib.Nat.{min-eq_right}
use mathlib.Core.Path.{◌≡◌, ap, ◌∙◌}
use mathlib.Core.Bool.{Bool, true, false, cond}
use mathlib.Core.List.{List, [], ◌∷◌, ◌++◌}
use lib.Dec.{eqb, ltb}
use lib.ListN.{length, length-append, take, drop, replicate}
use lib.Seq.{sets, sets-eq, take-append_seam}
use Rattle.le.specs.Le.{number_at}
use Rattle.names.specs.Names.{number_after}
use Rattle.props.specs.Types.{Size, Bytes, Text, NoSuch, element_size}
use Rattle.props.specs.Step.{Step, Past, Refused, step_at}
use Rattle.table.specs.Table.{has_room}
use Rattle.plan.specs.Plan.{plan_refusal}
use Rattle.lookup.specs.Lookup.{Found, At, Refused as Refused', lookup_of, part_of}
use Rattle.vectors.specs.declared.frame.Frame.{Frame}
use Rattle.vectors.specs.Answers.{answered, told_by}
use Rattle.vectors.specs.Buffers.{numbers_in, checksum}
use Rattle.vectors.specs.Cases.{answer_line}
use Rattle.vectors.specs.Files.{walk_numbers, reading_numbers, file_numbers, into_table, file_line}
use Rattle.vectors.specs.Leaves.{written_line, leaf_line}
use Rattle.vectors.specs.Listings.{list_numbers}
use Rattle.vectors.specs.Outputs.{put_numbers, into_output, output_line}
use Rattle.vectors.specs.Parts.{size_line, name_line, numeral_line, step_line, index_numbers, part_line}
use Rattle.vectors.specs.Rows.{places_of, found_numbers, seen_numbers, row_table, table_line, lookup_numbers, query_line, row_line}
use Rattle.vectors.specs.Statements.{HasAll}
use Rattle.vectors.specs.Trims.{trim_numbers, trim_line}
use Rattle.vectors.specs.Writes.{first_of, parts_numbers, plan_numbers, write_numbers}

-- a list of at most m numbers
record AtMost (m : ℕ) (ns : List ℕ) : Type 0 where
  few : length ns ≤ m

short : {m : ℕ} {ns : List ℕ} → length ns ≤ m → AtMost m ns
short h = record { few = h }

either : {m : ℕ} {xs ys : List ℕ} (b : Bool) → AtMost m xs → AtMost m ys → AtMost m (cond b xs ys)
either true h k = h
either false h k = k

one_more : (ns : List ℕ) (n : ℕ) → AtMost 11 ns → AtMost 12 (ns ++ (n ∷ []))
one_more ns n h = short (omega (arith, length-append ns (n ∷ []), h.few))

-- ---- each part's lines

leaf : (f : Frame) (s : List ℕ) → AtMost 12 (leaf_line f s)
unfolding leaf_line written_line
leaf f s =
    either (eqb f.function 1) (short (omega arith))
    (either (eqb f.function 2) (short (omega arith))
    (either (eqb f.function 3) (short (omega arith))
    (either (eqb f.function 7) (short (omega arith))
    (either (ltb 4096 (length s)) (short (omega arith)) (short (omega arith))))))

size : (z : Size) → AtMost 12 (size_line z)
unfolding size_line
size (Bytes n) = short (omega arith)
size Text = short (omega arith)
size NoSuch = short (omega arith)

numeral : (n : Option ℕ) → AtMost 12 (numeral_line n)
unfolding numeral_line
numeral (Some n) = short (omega arith)
numeral None = short (omega arith)

step : (w : Step) → AtMost 12 (step_line w)
unfolding step_line
step (Past p next) = short (omega arith)
step (Refused n) = short (omega arith)

part : (f : Frame) (first second : List ℕ) → AtMost 12 (part_line f first second)
unfolding part_line name_line index_numbers
part f first second =
    either (eqb f.function 10) (size (element_size (f.x % 65536)))
    (either (eqb f.function 11) (either (ltb 65535 (length first)) (short (omega arith)) (short (omega arith)))
    (either (eqb f.function 12) (short (omega arith))
    (either (eqb f.function 13) (numeral (number_after first second))
    (either (eqb f.function 14) (short (omega arith))
    (either (eqb f.function 15) (short (omega arith))
    (either (eqb f.function 16) (step (step_at first f.x))
    (either (eqb f.function 17) (short (omega arith)) (short (omega arith)))))))))

found : (w : Found) → AtMost 11 (found_numbers w)
unfolding places_of
found (At start end) = short (omega arith)
found (Refused' n) = short (omega arith)

row : (f : Frame) (first second : List ℕ) → AtMost 12 (row_line f first second)
unfolding row_line table_line row_table seen_numbers query_line lookup_numbers
row f first second =
    let w = lookup_of first (numbers_in second f.y) f.x (drop (f.y * 4) second) in
    either (eqb f.function 19) (either (ltb 8300 (length first / 4)) (short (omega arith)) (short (omega arith)))
    (either (ltb 8300 f.y) (short (omega arith))
    (either (ltb (length second) (f.y * 4)) (short (omega arith))
    (one_more (found_numbers w) (checksum (part_of first w)) (found w))))

file : (f : Frame) (s : List ℕ) → AtMost 12 (file_line f s)
unfolding file_line into_table file_numbers walk_numbers reading_numbers
file f s =
    either (ltb 8300 f.y) (short (omega arith))
    (one_more _ _ (either (eqb f.function 30) (either (has_room (replicate f.y f.seed)) (short (omega arith)) (short (omega arith))) (short (omega arith))))

two_more : {a b : ℕ} {ns : List ℕ} → AtMost 9 ns → AtMost 11 (a ∷ b ∷ ns)
two_more h = short (omega (arith, h.few))

write : (f : Frame) (s block : List ℕ) (room : ℕ) → AtMost 11 (write_numbers f s block room)
unfolding write_numbers plan_numbers parts_numbers
write f s block room =
    either (ltb 8300 (length block / 4)) (short (omega arith))
    (either (eqb f.function 34) (short (omega arith))
    (two_more (either (eqb (plan_refusal s (first_of (numbers_in block (length block / 4)) f.x)).number 0) (short (omega arith)) (short (omega arith)))))

trim : (f : Frame) (s block : List ℕ) (room : ℕ) → AtMost 11 (trim_line f s block room)
unfolding trim_line trim_numbers
trim f s block room = either (ltb 8300 (number_at 4 block 0)) (short (omega arith)) (short (omega arith))

output : (f : Frame) (first second : List ℕ) → AtMost 12 (output_line f first second)
unfolding output_line into_output put_numbers list_numbers
output f first second =
    either (ltb 98304 f.y) (short (omega arith))
    (one_more _ _ (either (ltb f.function 34) (short (omega arith)) (either (ltb f.function 36) (write f first second _) (trim f first second _))))

line : (f : Frame) (first second : List ℕ) → AtMost 12 (answer_line f first second)
unfolding answer_line
line f first second =
    either (ltb f.function 10) (leaf f first)
    (either (ltb f.function 19) (part f first second)
    (either (ltb f.function 30) (row f first second)
    (either (ltb f.function 32) (file f first)
    (either (ltb f.function 37) (output f first second) (short (omega arith))))))

-- ---- all of them are in the answer

pub has_all_lem : (ns : List ℕ) → length ns ≤ 12 → told_by (answered ns) ≡ ns
has_all_lem ns h =
    let zeros : List ℕ = replicate 12 0 in
    ap (λ k. take k (sets zeros 0 ns)) (min-eq_right {n = length ns} {m = 12} h)
    ∙ ap (take (length ns)) (sets-eq ns zeros 0 (omega arith))
    ∙ take-append_seam ns (drop (0 + length ns) zeros)

pub has_all : HasAll
has_all f first second = has_all_lem (answer_line f first second) (line f first second).few
