-- Small plans, written by the definition.
use Rattle.std.specs.Prelude.{ℕ, ◌≡◌, refl, List, [], ◌∷◌, ◌++◌, length, replicate}
use Rattle.std.proofs.Math.Decide.{ℕ_discrete}
use Rattle.std.proofs.Common.{arith, ap, sym, subst, inl, inr, true≢false}
use Rattle.le.specs.Le.{val, number_at, le}
use Rattle.names.specs.Names.{bytes_ok}
use Rattle.kinds.specs.Kinds.{root, model, mesh, parents_table, parents_in, parents_of, is_known}
use Rattle.props.specs.Step.{to_zero, name_at, step_at}
use Rattle.body.specs.Body.{pass, properties, exactly}
use Rattle.table.specs.declared.Row.{Row}
use Rattle.table.specs.Table.{no_parent, has_row, row_at, rows_at}
use Rattle.table.specs.Counts.{count_under}
use Rattle.format.specs.Forest.{end, known, unknown, header, file_header}
use Rattle.plan.specs.Plan.{up_from, path_of, is_on, right_parent, row_refusal, plan_refusal_from, plan_refusal}
use Rattle.emit.specs.Emission.{Written}
use Rattle.emit.specs.Emission.{sizes_under, nodes_bytes, roots, file_bytes, refused_writing, writing_done, emission, output_left}
use Rattle.writer.specs.Writer.{plan_rows, written_of, output_after}
use Rattle.writer.specs.Forest.{nodes_under, forest_of, laid_out}
use Rattle.writer.specs.Writable.{nth_row, Ancestor, nearest, higher, Near, MayHold, rows_naming}

unfoldable write : (plan s : List ℕ) (room : ℕ) → Written
unfolding val number_at le bytes_ok parents_table parents_in parents_of is_known to_zero name_at step_at pass properties exactly has_row row_at rows_at header file_header up_from path_of is_on right_parent count_under row_refusal plan_refusal_from plan_refusal sizes_under nodes_bytes roots file_bytes emission written_of
write plan s room = written_of plan s 0 room

-- E10's rows, and its private node's body anywhere
abbrev root_row : (children : ℕ) → List ℕ
root_row children = root ∷ 0 ∷ 0 ∷ no_parent ∷ 0 ∷ 0 ∷ 0 ∷ children ∷ []

abbrev note_row : (start stop : ℕ) → List ℕ
note_row start stop = 0x6E676177 ∷ 0 ∷ 0 ∷ 0 ∷ start ∷ stop ∷ 0 ∷ 0 ∷ []

abbrev source : List ℕ
source = 9 ∷ 97 ∷ 98 ∷ 99 ∷ 9 ∷ []

-- no rows; E3; E10; and the refusals in their order
answers : (write [] [] 16 ≡ writing_done 16) × (write (root_row 0) [] 40 ≡ writing_done 40) × (write (root_row 1 ++ note_row 1 4) source 67 ≡ writing_done 67)
    × (write (root ∷ []) [] 99 ≡ refused_writing 20 0) × (write (root_row 1 ++ note_row 1 6) source 67 ≡ refused_writing 22 1)
    × (write (root_row 0 ++ note_row 1 6) source 0 ≡ refused_writing 24 0) × (write (root_row 1 ++ note_row 1 4) source 66 ≡ refused_writing 26 0)
unfolding write
answers = (refl, refl, refl, refl, refl, refl, refl)

-- E3 into 42 bytes: two are left; and into 39, which are left
output : (output_after (root_row 0) [] 0 (replicate 42 8) ≡ 0x63 ∷ 0x61 ∷ 0x73 ∷ 0x74 ∷ 1 ∷ 0 ∷ 0 ∷ 0 ∷ 1 ∷ 0 ∷ 0 ∷ 0 ∷ 0 ∷ 0 ∷ 0 ∷ 0 ∷
    0x72 ∷ 0x6F ∷ 0x6F ∷ 0x74 ∷ 24 ∷ 0 ∷ 0 ∷ 0 ∷ 0 ∷ 0 ∷ 0 ∷ 0 ∷ 0 ∷ 0 ∷ 0 ∷ 0 ∷ 0 ∷ 0 ∷ 0 ∷ 0 ∷ 0 ∷ 0 ∷ 0 ∷ 0 ∷ 8 ∷ 8 ∷ [])
    × (output_after (root_row 0) [] 0 (replicate 39 8) ≡ replicate 39 8)
unfolding write output_left output_after val number_at le bytes_ok parents_table parents_in parents_of is_known to_zero name_at step_at pass properties exactly has_row row_at rows_at header file_header up_from path_of is_on right_parent count_under row_refusal plan_refusal_from plan_refusal sizes_under nodes_bytes roots file_bytes emission written_of
output = (refl, refl)

-- the forest of E10's rows; and where its bodies lie in the file
forest : forest_of source (plan_rows (root_row 1 ++ note_row 1 4)) ≡ known root 0 0 [] (unknown 0x6E676177 0 0 0 (97 ∷ 98 ∷ 99 ∷ []) end) end
unfolding has_row row_at rows_at parents_table parents_in parents_of is_known nodes_under
forest = refl

places : laid_out 16 (plan_rows (root_row 1 ++ note_row 1 4)) ≡
    record { kind = root; low = 0; high = 0; parent = no_parent; start = 40; end = 40; properties = 0; children = 1 } ∷
    record { kind = 0x6E676177; low = 0; high = 0; parent = 0; start = 64; end = 67; properties = 0; children = 0 } ∷ []
unfolding has_row row_at rows_at laid_out
places = refl

-- ---- 21 by ancestors: a Root, under it a private node, a Model after that, a second Model, and a Mesh under the second
abbrev model_row : (children : ℕ) → List ℕ
model_row children = model ∷ 0 ∷ 0 ∷ 0 ∷ 0 ∷ 0 ∷ 0 ∷ children ∷ []

abbrev five : List Row
five = plan_rows (root_row 3 ++ (note_row 0 0 ++ (model_row 0 ++ (model_row 1 ++ (mesh ∷ 0 ∷ 0 ∷ 3 ∷ 0 ∷ 0 ∷ 0 ∷ 0 ∷ [])))))

-- the Root may hold the Model: it is an ancestor of the previous row, which is unknown and may not
held : MayHold five 2 0 × (MayHold five 2 1 → ⊥)
unfolding has_row row_at rows_at parents_table parents_in parents_of is_known
held = (record { earlier = omega arith; known = refl; near = inr (nearest {j = 1} (omega arith) refl) }, λ m. true≢false (sym m.known))

-- the second Model, the previous row, may hold the Mesh, and so may the Root; the first one, which is not around the previous
-- row, may not
last : MayHold five 4 3 × MayHold five 4 0 × (MayHold five 4 2 → ⊥)
unfolding has_row row_at rows_at parents_table parents_in parents_of is_known
last = (
  record { earlier = omega arith; known = refl; near = inl refl },
  record { earlier = omega arith; known = refl; near = inr (nearest {j = 3} (omega arith) refl) },
  λ m. by m.near,
)
  where
    top : (j : ℕ) → j ≡ no_parent → Ancestor five 2 j → ⊥
    top j e (nearest b p) = omega (arith, b, e)
    top j e (higher b a) = omega (arith, b, e)

    above : (j : ℕ) → j ≡ 0 → Ancestor five 2 j → ⊥
    above j e (nearest b p) = let z : no_parent ≡ 2 = subst (λ i. (nth_row five i).parent ≡ 2) e p in omega (arith, z)
    above j e (higher b a) = top (nth_row five j).parent (ap (λ i. (nth_row five i).parent) e) a

    previous : (j : ℕ) → j ≡ 3 → Ancestor five 2 j → ⊥
    previous j e (nearest b p) = let z : ◌≡◌ {A = ℕ} 0 2 = subst (λ i. (nth_row five i).parent ≡ 2) e p in omega (arith, z)
    previous j e (higher b a) = above (nth_row five j).parent (ap (λ i. (nth_row five i).parent) e) a

    by : Near five 4 2 → ⊥
    by (inl e) = omega (arith, e)
    by (inr a) = previous 3 refl a

-- row 0 has no previous row: no row may hold it
first : (p : ℕ) → MayHold five 0 p → ⊥
first p m = m.near

-- 24: the rows naming the Root are three, the second Model's is one
named : (length (rows_naming five 0) ≡ 3) × (length (rows_naming five 3) ≡ 1) × (length (rows_naming five 2) ≡ 0)
unfolding has_row row_at rows_at ℕ_discrete
named = (refl, refl, refl)
