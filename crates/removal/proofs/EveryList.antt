-- Demand 3: the run and the tally side by side, along any list; and what is left at its end.
use Prim.Native.Nat.{ℕ, ◌≤◌}
use native.Mathlib.Omega.{arith}
use mathlib.Core.Path.{◌≡◌, refl, ap, sym, subst, ◌∙◌}
use mathlib.Core.List.{List, [], ◌∷◌, map}
use lib.ListN.{length, length-map}
use Rattle.le.specs.Le.{AreBytes}
use Rattle.table.specs.declared.Row.{Row}
use Rattle.table.specs.Table.{no_parent, rows_at, filled}
use Rattle.table.proofs.Clearing.{fits_has_room}
use Rattle.table.proofs.Plans.{rows_filled}
use Rattle.faces.specs.Faces.{degenerate as degenerateIn}
use Rattle.format.specs.Forest.{Forest, file_of}
use Rattle.format.specs.Rows.{rows_of, body_of, own_bytes}
use Rattle.base.specs.Lists.{Each}
use Rattle.base.proofs.Lists.{each_map}
use Rattle.format.proofs.Rows.{length_rows}
use Rattle.format.proofs.Within.{rows_lie}
use Rattle.links.specs.Links.{links_of}
use Rattle.valid.specs.Valid.{Valid}
use Rattle.reader.specs.Reading.{Accepted}
use Rattle.reader.specs.Reading.{verdict}
use Rattle.reader.specs.Reading.{table_after as readTable}
use Rattle.reader.specs.Acceptance.{RowsGive, row_faces}
use Rattle.reader.proofs.Exactly.{valid_flags, valid_verdict, verdict_valid, valid_gives, in_room, has_room_lem, answers_the_rules}
use Rattle.removal.specs.Tally.{Tallied, no_marks, file_left, tally_step, answers, marks_after}
use Rattle.removal.specs.RemovalSequence.{Trimming, answer_to, file_from, answers_of, file_after, EachTrimming, fed_by, marks_by, IsRead, Goes, Leaves, IsLeft, HoldsOf, EveryList}
use Rattle.removal.specs.Left.{unmarked_of, bytes_left, moved_link}
use Rattle.removal.proofs.Marked.{Marked, bare, kept, marks, fresh, bare_fresh, kept_fresh, length_marks}
use Rattle.removal.proofs.Marking.{marks_fresh}
use Rattle.valid.specs.Nodes.{nodes_of, mesh_faces}
use Rattle.removal.proofs.NodesLeft.{LeftNodes, nodes_kept, nodes_are, all_faces_lem, links_moved, links_stay_lem}
use Rattle.removal.proofs.StillValid.{kept_well, valid_kept, length_file}
use Rattle.removal.proofs.LeftLinks.{faces_left, node_faces_left, owns_left, bodies_left, known_left, unknown_left, only_unknown_lem, links_left, link_rows}
use Rattle.removal.proofs.KeptRows.{parents_stay}
use Rattle.removal.proofs.TallyFile.{tally_left}
use Rattle.removal.proofs.Trimmed.{rows_are, rows_same}
use Rattle.removal.proofs.Bytes.{bytes_left_lem}
use Rattle.removal.proofs.Differ.{LiesIn, pieces, same_length_lem, differ}
use Rattle.removal.proofs.Cut.{Tiles, rows_tile, cut}
use Rattle.removal.proofs.Steps.{account_for, is_read, step}
use Rattle.removal.proofs.OneReading.{account_same}

-- ---- along a list
record Ran (flags : ℕ) (f : Forest) (m : Marked) (list : List Trimming) : Type 0 where
  after : Marked
  first : bare after ≡ f
  answered : answers_of (file_of flags (kept m)) list ≡ answers (file_of flags f) (rows_of f) (marks m) (map fed_by list)
  marked : marks_after (file_of flags f) (rows_of f) (marks m) (map fed_by list) ≡ marks after
  file : file_after (file_of flags (kept m)) list ≡ file_of flags (kept after)
  goes : EachTrimming Goes (file_of flags (kept m)) list
  leaves : EachTrimming Leaves (file_of flags (kept m)) list

ran : (flags : ℕ) (f : Forest) → Valid flags f → (list : List Trimming) (m : Marked) → bare m ≡ f → Ran flags f m list
unfolding answers_of answers marks_after file_after
ran flags f v [] m e = record { after = m; first = e; answered = refl; marked = refl; file = refl; goes = tt; leaves = tt }
ran flags f v (c ∷ list) m e =
    let st = step flags m (subst (Valid flags) (sym e) v) c in
    let rest = ran flags f v list st.after (st.same ∙ e) in
    let told : Forest → Tallied = λ g. tally_step (file_of flags g) (rows_of g) (marks m) (fed_by c) in
    let answer : answer_to (file_of flags (kept m)) c ≡ (told f).answer = subst (λ g. answer_to (file_of flags (kept m)) c ≡ (told g).answer) e st.answer in
    let marked : (told f).marks ≡ marks st.after = subst (λ g. (told g).marks ≡ marks st.after) e st.marked in
    record {
      after = rest.after;
      first = rest.first;
      answered =
          ap (λ w. w ∷ answers_of (file_from (file_of flags (kept m)) c) list) answer
          ∙ ap (λ l. (told f).answer ∷ l)
          (ap (λ s. answers_of s list) st.file ∙ rest.answered ∙ ap (λ ms. answers (file_of flags f) (rows_of f) ms (map fed_by list)) (sym marked));
      marked = ap (λ ms. marks_after (file_of flags f) (rows_of f) ms (map fed_by list)) marked ∙ rest.marked;
      file = ap (λ s. file_after s list) st.file ∙ rest.file;
      goes = (st.goes, subst (λ s. EachTrimming Goes s list) (sym st.file) rest.goes);
      leaves = (st.leaves, subst (λ s. EachTrimming Leaves s list) (sym st.file) rest.leaves);
    }

-- ---- what is left
answer_for : (flags : ℕ) (f : Forest) → Valid flags f → RowsGive (file_of flags f) (rows_of f) (account_for flags f)
answer_for flags f v = valid_gives (file_of flags f) flags f v refl (account_for flags f) (valid_verdict (file_of flags f) flags f v refl)

module _ (flags : ℕ) (m : Marked) (v : Valid flags (bare m)) (bytes : AreBytes (file_of flags (bare m))) where
  abbrev s : List ℕ
  s = file_of flags (bare m)

  abbrev rows : List Row
  rows = rows_of (bare m)

  abbrev left : List ℕ
  left = file_of flags (kept m)

  valid : Valid flags (kept m)
  valid = valid_kept flags m v

  tally : left ≡ file_left s rows (marks m)
  tally = sym (tally_left flags (bare m) v m (marks m) refl refl)

  cut_file : bytes_left s rows (marks m) ≡ pieces s rows (marks m)
  cut_file =
      cut s rows (marks m) (subst (Tiles 16 rows) (sym (length_file flags (bare m))) (rows_tile (bare m) no_parent 0 16))
      (length_rows (bare m) no_parent 0 16 ∙ sym (length_marks m))

  -- all rows lie in the file
  inside : Each (LiesIn s) rows
  inside =
      each_map (λ r l. (omega (arith, l.0), l.1, omega (arith, l.2, length_file flags (bare m)))) rows (rows_lie (bare m) no_parent 0 16)

  is_left : IsLeft s rows (account_for flags (bare m)) (marks m) left
  unfolding valid
  is_left =
      let old = answer_for flags (bare m) v in
      let new = answer_for flags (kept m) valid in
      let are = rows_are flags m v in
      let same = rows_same flags m v in
      let faces = faces_left same in
      let links = links_left s left rows (marks m) (rows_of (kept m)) same are in
      let nodes : LeftNodes (nodes_of (bare m) v.well_formed.2) (marks m) (nodes_of (kept m) valid.well_formed.2) =
      subst (λ w. LeftNodes (nodes_of (bare m) v.well_formed.2) (marks m) (nodes_of (kept m) w)) (sym (kept_well flags m v)) (nodes_kept m v.well_formed.2) in
      record {
        marked = length_marks m ∙ sym (length_rows (bare m) no_parent 0 16);
        only_unknown = only_unknown_lem same;
        account = account_for flags (kept m);
        accepted = subst (λ rs. IsRead left rs (account_for flags (kept m))) are (is_read flags (kept m) valid);
        flags = valid_flags left flags (kept m) valid refl ∙ sym (valid_flags s flags (bare m) v refl);
        parents = parents_stay m;
        bytes = subst AreBytes (sym tally) (bytes_left_lem s bytes rows (marks m));
        is_tally_file = tally;
        same_length = ap length tally ∙ same_length_lem s rows (marks m) inside ∙ ap length (sym cut_file);
        differ =
            rw (tally, cut_file) (differ s rows (marks m) bytes (omega (arith, length_file flags (bare m))) inside);
        bodies = subst (λ rs. map (body_of left) rs ≡ map (body_of s) (unmarked_of rows (marks m))) are (bodies_left same);
        before = record { flags = flags; forest = bare m; valid = v; bytes = refl };
        after = record { flags = flags; forest = kept m; valid = valid; bytes = refl };
        nodes = nodes_are nodes;
        links_stay = links_stay_lem nodes;
        links = links_moved nodes;
        links_by_row_stay = link_rows s left rows (marks m) (rows_of (kept m)) same;
        links_by_row = subst (λ rs. links_of left rs ≡ map (moved_link rows (marks m)) (links_of s rows)) are links;
        link_count = new.links ∙ ap length links ∙ length-map (links_of s rows) (moved_link rows (marks m)) ∙ sym old.links;
        charges = λ t h.
            ap (λ u. map own_bytes (rows_at u 0 (length (rows_of (kept m))))) ((is_read flags (kept m) valid).table t h)
            ∙ ap (map own_bytes) (rows_filled t (rows_of (kept m)) (fits_has_room t h) (omega (arith, length_rows (kept m) no_parent 0 16, valid.few)))
            ∙ owns_left same;
        known = known_left same;
        unknown = unknown_left 0 same;
        node_faces = ap (map mesh_faces) (nodes_are nodes);
        faces = all_faces_lem nodes;
        faces_by_row = subst (λ rs. map (row_faces left) rs ≡ map (row_faces s) (unmarked_of rows (marks m))) are (node_faces_left same);
        face_count = new.faces ∙ ap length faces ∙ sym old.faces;
        degenerate = new.degenerates ∙ ap degenerateIn faces ∙ sym old.degenerates;
      }

-- ---- any list
module _ (flags : ℕ) (f : Forest) (v : Valid flags f) (bytes : AreBytes (file_of flags f)) where
  -- the run and the tally from the first file, with no mark
  from_first : (list : List Trimming) → Ran flags f (fresh f) list
  from_first list = ran flags f v list (fresh f) (bare_fresh f)

  abbrev after : List Trimming → Marked
  after list = (from_first list).after

  no_mark : marks (fresh f) ≡ no_marks (rows_of f)
  no_mark = marks_fresh f no_parent 0 16

  marked_by : (list : List Trimming) → marks_by (file_of flags f) (rows_of f) list ≡ marks (after list)
  marked_by list = ap (λ ms. marks_after (file_of flags f) (rows_of f) ms (map fed_by list)) (sym no_mark) ∙ (from_first list).marked

  file_is : (list : List Trimming) → file_after (file_of flags f) list ≡ file_of flags (kept (after list))
  file_is list = ap (λ g. file_after (file_of flags g) list) (sym (kept_fresh f)) ∙ (from_first list).file

  left_by : (list : List Trimming) → IsLeft (file_of flags f) (rows_of f) (account_for flags f) (marks (after list)) (file_of flags (kept (after list)))
  left_by list =
      let m = after list in
      let e = (from_first list).first in
      subst (λ g. IsLeft (file_of flags g) (rows_of g) (account_for flags g) (marks m) (file_of flags (kept m))) e
      (is_left flags m (subst (Valid flags) (sym e) v) (subst (λ g. AreBytes (file_of flags g)) (sym e) bytes))

  ended : (list : List Trimming)
      → IsLeft (file_of flags f) (rows_of f) (account_for flags f) (marks_by (file_of flags f) (rows_of f) list) (file_after (file_of flags f) list)
  ended list = rw (marked_by list, file_is list) (left_by list)

  holds : (list : List Trimming) → HoldsOf (file_of flags f) (rows_of f) (account_for flags f) list
  holds list = record {
    answered =
        ap (λ g. answers_of (file_of flags g) list) (sym (kept_fresh f)) ∙ (from_first list).answered
        ∙ ap (λ ms. answers (file_of flags f) (rows_of f) ms (map fed_by list)) no_mark;
    goes = subst (λ g. EachTrimming Goes (file_of flags g) list) (kept_fresh f) (from_first list).goes;
    leaves = subst (λ g. EachTrimming Leaves (file_of flags g) list) (kept_fresh f) (from_first list).leaves;
    ended = ended list;
    any_order = λ other e. (ended other).is_tally_file ∙ ap (file_left (file_of flags f) (rows_of f)) e ∙ sym (ended list).is_tally_file;
  }

-- demand 3
pub every_list : EveryList
every_list s t a bytes r list =
    let room = has_room_lem s t r in
    let v : verdict s ≡ Accepted a = sym (in_room s t room) ∙ r in
    let valid = verdict_valid s bytes v in
    let f = valid.forest in
    let answer = answers_the_rules s t valid.flags f a valid.valid valid.bytes r in
    let few : length (rows_of f) ≤ 1024 = omega (arith, length_rows f no_parent 0 16, valid.valid.few) in
    let rows : rows_at (readTable s t) 0 a.nodes ≡ rows_of f
    = ap (λ u. rows_at u 0 a.nodes) answer.2 ∙ ap (rows_at (filled (rows_of f) t) 0) answer.1.nodes ∙ rows_filled t (rows_of f) room few in
    let whole = holds valid.flags f valid.valid (subst AreBytes valid.bytes bytes) list in
    let account : account_for valid.flags f ≡ a
    = account_same a (account_for valid.flags f)
    (sym v ∙ ap verdict valid.bytes ∙ valid_verdict (file_of valid.flags f) valid.flags f valid.valid refl) in
    subst (λ rs. HoldsOf s rs a list) (sym rows)
    (subst (λ x. HoldsOf s (rows_of f) x list) account
    (subst (λ l. HoldsOf l (rows_of f) (account_for valid.flags f) list) (sym valid.bytes) whole))
