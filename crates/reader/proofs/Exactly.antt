-- The reading accepts exactly the valid files: the walk by its soundness and completeness, the rules and links node by node.
use Prim.Native.Nat.{ℕ, zero, suc, ◌+◌, ◌≤◌}
use native.Mathlib.Omega.{arith}
use mathlib.Core.Path.{◌≡◌, refl, ap, sym, ◌∙◌, subst}
use mathlib.Core.Logic.{◌↔◌, inr}
use mathlib.Core.Bool.{Bool, true, false, false≢true}
use mathlib.Core.List.{List, []}
use lib.Dec.{ltb}
use lib.ListN.{length, length-map}
use borrow.Author.Tests.{ltb-true, ltb-false}
use Rattle.le.specs.Le.{val, AreBytes}
use Rattle.base.specs.Refusals.{refused_or}
use Rattle.base.proofs.Tests.{by_test}
use Rattle.table.specs.declared.Row.{Row}
use Rattle.table.specs.Table.{no_parent, has_room}
use Rattle.table.proofs.Clearing.{fits_has_room}
use Rattle.body.specs.Body.{properties}
use Rattle.rules.specs.Table.{lines}
use Rattle.rules.specs.Rules.{lines_of}
use Rattle.faces.specs.Faces.{degenerate}
use Rattle.judge.specs.Judge.{judged}
use Rattle.format.specs.Forest.{Forest, end, known, unknown, nodes, file_of}
use Rattle.format.specs.Rows.{rows_of, body_of}
use Rattle.format.specs.Layout.{Property, WellFormed}
use Rattle.base.proofs.Lists.{each_both, each_map}
use Rattle.format.proofs.Rows.{own_bytes_add_up}
use Rattle.format.proofs.Unique.{encoding_unique}
use Rattle.links.specs.Links.{reached, links_at, links_of, resolved, linked}
use Rattle.walk.specs.Walk.{limited, walk_of, flags_of}
use Rattle.walk.specs.Statements.{Holds}
use Rattle.walk.proofs.Laws.{limited_is}
use Rattle.walk.proofs.Sound.{sound}
use Rattle.walk.proofs.Complete.{complete}
use Rattle.valid.specs.Valid.{bones, reaches, EachKnown, NodeRuled, Links, NodeLinked, Valid}
use Rattle.valid.specs.Nodes.{nodes_of, all_faces}
use Rattle.valid.proofs.Rules.{obeyed, accepted}
use Rattle.valid.proofs.Picks.{degenerate_picked}
use Rattle.valid.proofs.Links.{RowReached, links_reach, links_good}
use Rattle.reader.specs.declared.Account.{Account}
use Rattle.reader.specs.Reading.{Reading}
use Rattle.reader.specs.Reading.{Accepted, Refused}
use Rattle.reader.specs.Reading.{bones_under, judged_row, ruled, account_of, checked, verdict, reading_of, table_after}
use Rattle.reader.specs.Acceptance.{IsValid, Exactly, rows_of_link, nodes_of_link, AnswerOf, RowsGive, AnswersTheRules, OneForest}
use Rattle.reader.proofs.Counts.{own_under, reached_nodes}
use Rattle.reader.proofs.Parts.{file_lies}
use Rattle.reader.proofs.Nodes.{KnownRow, UnknownRow, each_known}
use Rattle.reader.proofs.Charges.{own_split, ruled_counts, resolved_counts}
use Rattle.reader.proofs.InStep.{valid_step, length_step, kinds_step, faces_step, known_bytes_lem, unknown_bytes_lem}
use Rattle.reader.proofs.NodeLinks.{links_step}
use Rattle.reader.proofs.Judging.{judged_known, judged_unknown}
use Rattle.reader.proofs.Stages.{RightRow, LinkedRow, ruled_each, linked_each}

-- ---- pairs
abbrev NodeP : Type 1
NodeP = (beside kind count : ℕ) (body : List ℕ) → Type 0

known_both : (P Q : NodeP) (beside : ℕ) (f : Forest) →
    (EachKnown P beside f × EachKnown Q beside f) ↔ EachKnown (λ b k n body. P b k n body × Q b k n body) beside f
known_both P Q beside end = (λ h. tt, λ h. (tt, tt))
known_both P Q beside (known k h p body kids next) =
    let a = known_both P Q (bones kids) kids in
    let b = known_both P Q beside next in (
      λ h. ((h.0.0, h.1.0), a.0 (h.0.1, h.1.1), b.0 (h.0.2, h.1.2)),
      λ h. let x = a.1 h.1 in let y = b.1 h.2 in ((h.0.0, x.0, y.0), (h.0.1, x.1, y.1)),
    )
known_both P Q beside (unknown k h p c rest next) = known_both P Q beside next

module _ (s : List ℕ) (f : Forest) where
  abbrev all : List Row
  all = rows_of f

  abbrev Q : Row → Type 0
  Q r = RightRow s all r × LinkedRow s all r

  abbrev P : NodeP
  P b k n body = NodeRuled b k n body × NodeLinked f b k n body

  reach_here : (target : ℕ) (p : Property) → length (reached target (val p.content) 0 all) ≡ reaches target (val p.content) f
  reach_here target p = reached_nodes target (val p.content) f 0 no_parent 0 16

  reach_nodes : (kind : ℕ) (p : Property) → RowReached all kind p ↔ Links f kind p
  reach_nodes kind p = (
    each_map (λ l h k n to e. sym (reach_here to p) ∙ h k n to e) lines,
    each_map (λ l h k n to e. reach_here to p ∙ h k n to e) lines,
  )

  known_row : KnownRow s all Q P
  known_row r beside body good here under k =
      let kind = r.kind in
      let n = r.properties in
      let judge : judged_row s all r ≡ judged kind n body beside = judged_known s r (bones_under all r.parent) k ∙ rw (here, under) in
      let links : (resolved 0 (links_at all (lines_of kind) 0 r.start (body_of s r) (properties (body_of s r) n).starts)).number
      ≡ (resolved 0 (links_at all (lines_of kind) 0 r.start body (properties body n).starts)).number = rw here in (
        λ q.
            let obeys : NodeRuled beside kind n body = λ g. obeyed kind n body beside g (ap (λ j. j.number) (sym judge) ∙ q.0) in (
              obeys,
              λ g.
                  each_map (λ p. (reach_nodes kind p).0) g.properties
                  (links_reach all kind 0 r.start n 0 body g (obeys g).fits (sym links ∙ q.1 k)),
            ),
        λ p. (
          ap (λ j. j.number) judge ∙ accepted kind n body beside good (p.0 good),
          λ _. links ∙ links_good all kind 0 r.start n 0 body good (p.0 good).fits
              (each_map (λ q. (reach_nodes kind q).1) good.properties (p.1 good)),
        ),
      )

  unknown_row : UnknownRow s all Q P
  unknown_row r u = (ap (λ j. j.number) (judged_unknown s r (bones_under all r.parent) u), λ k. cc)

  -- the rules and the links of a well-formed file
  rows_valid : (flags : ℕ) → s ≡ file_of flags f → WellFormed f → nodes f ≤ 1024
      → (((ruled s all all).number ≡ 0) × ((linked s all).number ≡ 0)) ↔ (EachKnown NodeRuled (bones f) f × EachKnown (NodeLinked f) (bones f) f)
  unfolding linked
  rows_valid flags e well few =
      let nodes-rows = each_known s all Q P known_row unknown_row f [] no_parent 0 16 (bones f) well (file_lies s flags f e)
      (own_under f no_parent 0 16 (inr (omega arith))) (λ p a b. refl) (inr (omega arith)) in
      let rules = ruled_each s all all in
      let links = linked_each s all 0 0 all in
      let rows_both = each_both (RightRow s all) (LinkedRow s all) all in
      let nodes-both = known_both NodeRuled (NodeLinked f) (bones f) f in (
        λ h. nodes-both.1 (nodes-rows.0 (rows_both.0 (rules.0 h.0, links.0 h.1))),
        λ h. let each = rows_both.1 (nodes-rows.1 (nodes-both.0 h)) in (rules.1 each.0, links.1 each.1),
      )

-- ---- the verdict
not_refused : (n place : ℕ) (next : Reading) {a : Account} → refused_or n (Refused n place) next ≡ Accepted a → (n ≡ 0) × (next ≡ Accepted a)
not_refused zero place next e = (refl, e)
not_refused (suc n) place next e = (cc, cc)

module _ (s : List ℕ) where
  pub accepted_parts : {a : Account} → verdict s ≡ Accepted a → ((limited s).number ≡ 0) × (checked s (limited s).rows ≡ Accepted a)
  unfolding verdict
  accepted_parts e = not_refused (limited s).number (limited s).at (checked s (limited s).rows) e

  pub checked_parts : (rs : List Row) {a : Account} → checked s rs ≡ Accepted a
      → ((ruled s rs rs).number ≡ 0) × ((linked s rs).number ≡ 0) × (Accepted (account_of s rs (ruled s rs rs) (linked s rs)) ≡ Accepted a)
  unfolding checked
  checked_parts rs e =
      let rules = not_refused (ruled s rs rs).number (ruled s rs rs).place _ e in
      let links = not_refused (linked s rs).number (linked s rs).place _ rules.1 in
      (rules.0, links.0, links.1)

  pub checked_right : (rs : List Row) → (ruled s rs rs).number ≡ 0 → (linked s rs).number ≡ 0 → checked s rs ≡ Accepted (account_of s rs (ruled s rs rs) (linked s rs))
  unfolding checked
  checked_right rs r l = rw (r, l)

  pub short : (limited s).number ≡ 0 → length s ≤ 16777216
  short e = by_test (ltb 16777216 (length s)) (λ t. absurd (omega (arith, ap (λ w. w.number) (sym ((limited_is s).1 (ltb-true 16777216 (length s) t))) ∙ e))) (λ t. ltb-false 16777216 (length s) t)

-- a valid file is walked to its nodes' rows
module _ (s : List ℕ) (flags : ℕ) (f : Forest) (v : Valid flags f) (e : s ≡ file_of flags f) where
  walk_holds : Holds s flags f
  walk_holds = record { well_formed = v.well_formed; placed = v.placed; few = v.few; bytes = e }

  walk_limited : limited s ≡ walk_of s
  walk_limited = (limited_is s).0 (subst (λ l. length l ≤ 16777216) (sym e) v.short)

  pub valid_number : (limited s).number ≡ 0
  valid_number = ap (λ w. w.number) walk_limited ∙ (complete s flags f walk_holds).0

  pub valid_rows : (limited s).rows ≡ rows_of f
  valid_rows = ap (λ w. w.rows) walk_limited ∙ (complete s flags f walk_holds).1

  pub valid_flags : flags_of s ≡ flags
  valid_flags = (complete s flags f walk_holds).2

  pub valid_stages : ((ruled s (rows_of f) (rows_of f)).number ≡ 0) × ((linked s (rows_of f)).number ≡ 0)
  valid_stages = (rows_valid s f flags e v.well_formed.2 v.few).1 (v.ruled, v.linked)

  pub valid_verdict : verdict s ≡ Accepted (account_of s (rows_of f) (ruled s (rows_of f) (rows_of f)) (linked s (rows_of f)))
  unfolding verdict
  valid_verdict = rw (valid_number, valid_rows) (checked_right s (rows_of f) valid_stages.0 valid_stages.1)

pub verdict_valid : (s : List ℕ) → AreBytes s → {a : Account} → verdict s ≡ Accepted a → IsValid s
verdict_valid s bytes h =
    let parts = accepted_parts s h in
    let long = short s parts.0 in
    let lim = (limited_is s).0 long in
    let walk = sound s bytes (ap (λ w. w.number) (sym lim) ∙ parts.0) in
    let rows_are = ap (λ w. w.rows) lim ∙ walk.rows in
    let f = walk.forest in
    let stages = checked_parts s (rows_of f) (ap (checked s) (sym rows_are) ∙ parts.1) in
    let valid = (rows_valid s f (flags_of s) walk.holds.bytes walk.holds.well_formed.2 walk.holds.few).0 (stages.0, stages.1) in
    record {
      flags = flags_of s;
      forest = f;
      valid = record {
        well_formed = walk.holds.well_formed;
        placed = walk.holds.placed;
        few = walk.holds.few;
        short = subst (λ l. length l ≤ 16777216) walk.holds.bytes long;
        ruled = valid.0;
        linked = valid.1;
      };
      bytes = walk.holds.bytes;
    }

pub in_room : (s t : List ℕ) → has_room t ≡ true → reading_of s t ≡ verdict s
unfolding reading_of
in_room s t h = rw h

pub exactly : Exactly
exactly s t bytes long = (
  λ h. verdict_valid s bytes (sym (in_room s t (fits_has_room t long)) ∙ h.accepts),
  λ h. record { account = _; accepts = in_room s t (fits_has_room t long) ∙ valid_verdict s h.flags h.forest h.valid h.bytes },
)

-- ---- what is answered
abbrev accepts : Reading → Bool
accepts (Accepted a) = true
accepts (Refused n p) = false

pub has_room_lem : (s t : List ℕ) {a : Account} → reading_of s t ≡ Accepted a → has_room t ≡ true
unfolding reading_of
has_room_lem s t r = by_test (has_room t) (λ h. h) (λ h. absurd (false≢true (ap accepts (rw h at r))))

abbrev account_of_lem : Reading → Account → Account
account_of_lem (Accepted a) d = a
account_of_lem (Refused n p) d = d

-- an account's numbers by the rows, and by the nodes
module _ (s : List ℕ) (flags : ℕ) (f : Forest) (v : Valid flags f) (e : s ≡ file_of flags f) where
  abbrev account : Account
  account = account_of s (rows_of f) (ruled s (rows_of f) (rows_of f)) (linked s (rows_of f))

  rows_give : RowsGive s (rows_of f) account
  unfolding linked
  rows_give =
      let stages = valid_stages s flags f v e in
      let counts = ruled_counts s (rows_of f) (rows_of f) stages.0 in
      let links = resolved_counts 0 (links_of s (rows_of f)) stages.1 in
      record {
        nodes = refl;
        known = refl;
        unknown = refl;
        sum = ap (λ n. 16 + n) (own_split (rows_of f)) ∙ own_bytes_add_up flags f ∙ ap length (sym e);
        faces = counts.0;
        degenerates = counts.1;
        links = links.0 ∙ omega arith;
        resolved = links.1;
      }

  nodes_answer : AnswerOf s f v.well_formed.2 account
  nodes_answer =
      let step = valid_step s flags f v e in
      let well = v.well_formed.2 in
      let faces = faces_step step in
      let two = degenerate_picked (all_faces (nodes_of f well)) in
      let links = links_step step rows_give.resolved in
      record {
        nodes = length_step step;
        known = known_bytes_lem f well no_parent 0 16;
        unknown = unknown_bytes_lem f well no_parent 0 16;
        sum = rows_give.sum;
        faces = rows_give.faces ∙ ap length faces;
        two_equal = two.those;
        are_degenerate = two.picks;
        degenerates = rows_give.degenerates ∙ ap degenerate faces ∙ two.count;
        link_list = links.links;
        are_links = links.are;
        links =
            rows_give.links ∙ sym (length-map (links_of s (rows_of f)) rows_of_link) ∙ ap length links.tied ∙ length-map links.links nodes_of_link;
        in_step = kinds_step step;
        faces_by_row = faces;
        links_by_row = links.tied;
      }

  module _ (a : Account) (r : verdict s ≡ Accepted a) where
    same_account : account ≡ a
    same_account = ap (λ x. account_of_lem x a) (sym (valid_verdict s flags f v e) ∙ r)

    pub valid_gives : RowsGive s (rows_of f) a
    valid_gives = subst (RowsGive s (rows_of f)) same_account rows_give

    pub valid_answer : AnswerOf s f v.well_formed.2 a
    valid_answer = subst (AnswerOf s f v.well_formed.2) same_account nodes_answer

pub answers_the_rules : AnswersTheRules
unfolding table_after
answers_the_rules s t flags f a v e r =
    let room = has_room_lem s t r in
    let is = valid_verdict s flags f v e in
    let r' = sym (in_room s t room) ∙ r in
    (ap (λ x. (account_of_lem x a).flags) (sym r' ∙ is) ∙ valid_flags s flags f v e, valid_gives s flags f v e a r', rw (room, is, valid_rows s flags f v e), valid_answer s flags f v e a r')

pub one_forest : OneForest
one_forest a b f g v w e = encoding_unique a b f g v.well_formed w.well_formed e
