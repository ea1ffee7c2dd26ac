-- `walk::walk_children` and `walk::walk_node`, a cycle of calls. A list of nodes is a loop with a node each turn; a node is without a header,
-- refused by its header, unknown, refused by its properties, without children, or with them.
use Rattle.std.specs.Prelude.{Ok}
use Prim.Native.Nat.{ℕ, suc, ◌+◌, ◌-◌, ◌≤◌, ◌<◌}
use native.Mathlib.Omega.{arith}
use mathlib.Core.Path.{◌≡◌, refl, sym, ap, ◌∙◌}
use mathlib.Core.Bool.{Bool, true, cond, not}
use lib.ListN.{length, take, drop, length-drop}
use lib.Seq.{length-take-le}
use Rattle.std.proofs.Common.{rules}
use Rattle.std.proofs.lemmas.Result.{err_from_is_err_and}
use Rattle.base.specs.declared.Reason.TheVariants.{NodeSize}
use Rattle.base.specs.Refusals.{refused_or, number_in}
use Rattle.base.proofs.Refusals.{goes_on, is_refused}
use Rattle.kinds.specs.Kinds.{is_known, standing_of}
use Rattle.body.specs.Body.{passed_told}
use Rattle.walk.specs.Walk.{header_at, ill_sized, node_refusal, too_many, inside}
use Rattle.walk.specs.Private.{refusal_there, passed_at}
use Rattle.walk.proofs.Cases.{Right, ill, refusal_is, unknown_told, no_number, number_at_place, passes_there, not_deep}
use Rattle.base.proofs.Refusals.{numbered}
use Rattle.walk.proofs.Steps.{lost, came_to, going, turn, turn_refused, all_walked}
use Rattle.walk.proofs.Nodes.{inside_is, children_are, header_front, over, full, no_room_lem, header_refused, passed_over, body_bad, ends, with_children, childless}
use Rattle.walk.proofs.+walk_children_walk_node.Goals as goal
use Rattle.walk.proofs.+walk_children_walk_node.Goals.{walk_node-After-header_at-h, walk_node-After-check_header, walk_node-In_ok-map_err, walk_node-After-eq, walk_node-Else-eq, walk_node-After-pass_properties, walk_node-In_ok-end}

-- ---- a list of nodes
pub walk_children-loop-init : goal.walk_children-loop-init
walk_children-loop-init t c = going (omega arith) (omega arith)

pub walk_children-returns-in_err-w : goal.walk_children-returns-in_err-w
walk_children-returns-in_err-w t c =
    let p = err_from_is_err_and c.from_residual.result c.from_residual.ensures.1 in
    let others : c.args.count - c.loop.counter ≡ suc (c.args.count - c.loop.counter - 1) = omega arith in
    rw (p.1, p.2) (lost (turn_refused c.loop.invariant others c.in_err-w.ensures (numbered c.in_err-w.field-0.0.reason)))

pub walk_children-loop-preserved : goal.walk_children-loop-preserved
walk_children-loop-preserved t c = turn c.loop.invariant (omega arith) c.in_ok-w.ensures refl

pub walk_children-returns-then-at-bytes : goal.walk_children-returns-then-at-bytes
walk_children-returns-then-at-bytes t c =
    rw c.at.ensures (lost (all_walked c.loop.invariant (omega arith) (over _ _ c.if-at-bytes.true)))

pub walk_children-returns : goal.walk_children-returns
walk_children-returns t c = all_walked c.loop.invariant (omega arith) (full _ _ c.if-at-bytes.false)

-- ---- a node

-- the header is that of the bytes at the place
header_is : (t : ℕ) (c : walk_node-After-header_at-h t) → c.header_at-h.result ≡ header_at (drop c.args.at c.args.bytes.now)
header_is t c =
    let a = c.args in
    let size : a.at + 24 - a.at ≡ 24 = omega arith in
    c.header_at-h.ensures ∙ ap (λ n. header_at (take n (drop a.at a.bytes.now))) size
    ∙ header_front (drop a.at a.bytes.now) (omega (arith, length-drop a.at a.bytes.now, c.if-room-lt24.false))

-- the number is that of 5 to 8
there : (t : ℕ) (c : walk_node-After-check_header t) → number_in c.check_header.result
    ≡ refusal_there c.header_at-h.result.size (length (drop c.args.at c.args.bytes.now)) c.standing_of-standing.result c.args.row c.args.around.depth
there t c =
    c.check_header.ensures
    ∙ ap (λ n. refusal_there c.header_at-h.result.size n c.standing_of-standing.result c.args.row c.args.around.depth)
    (sym (length-drop c.args.at c.args.bytes.now))

-- the definition's refusal is that, or 9
number_is : (t : ℕ) (c : walk_node-After-check_header t) →
    let h = c.header_at-h.result in
    let n = number_in c.check_header.result in
    node_refusal h (length (drop c.args.at c.args.bytes.now)) c.args.around.kind c.args.row c.args.around.depth
    ≡ refused_or n n (cond (too_many h.kind h.properties) 9 0)
number_is t c = refusal_is _ _ _ _ _ c.standing_of-standing.ensures (there t c)

-- it was not refused
right : (t : ℕ) (c : walk_node-In_ok-map_err t) → 0 ≡ number_in c.check_header.result
right t c = no_number c.check_header.result c.in_ok-map_err.ensures.variant

judged : (t : ℕ) (c : walk_node-In_ok-map_err t) →
    let h = c.header_at-h.result in
    node_refusal h (length (drop c.args.at c.args.bytes.now)) c.args.around.kind c.args.row c.args.around.depth ≡ cond (too_many h.kind h.properties) 9 0
judged t c =
    number_is t (goal.at.walk_node-In_ok-map_err t c).After-check_header ∙ goes_on (number_in c.check_header.result) _ _ (sym (right t c))

found : (t : ℕ) (c : walk_node-In_ok-map_err t)
    → Right c.header_at-h.result (length (drop c.args.at c.args.bytes.now)) c.args.around.kind c.args.row
found t c =
    passes_there _ _ _ _ _ c.standing_of-standing.ensures
    (sym (there t (goal.at.walk_node-In_ok-map_err t c).After-check_header) ∙ sym (right t c))

-- so what lies inside it lies no deeper than is allowed there
shallow : (t : ℕ) (c : walk_node-In_ok-map_err t) → c.args.around.depth ≤ 8
shallow t c =
    not_deep _ _ c.standing_of-standing.result _ _ (sym (there t (goal.at.walk_node-In_ok-map_err t c).After-check_header) ∙ sym (right t c))

-- what is required, and what a header has that was not refused
bounds : (t : ℕ) (c : walk_node-In_ok-map_err t) →
    (24 ≤ c.header_at-h.result.size) × (c.args.at + c.header_at-h.result.size ≤ length c.args.bytes.now) × (c.args.row < 1024)
    × (length c.args.bytes.now ≤ 16777216)
bounds t c =
    let f = found t c in
    let p = c.requires in
    (f.own, omega (arith, f.within, length-drop c.args.at c.args.bytes.now, p.0), f.few, p.1)

-- whether it is known is told by how it stands
known_told : (t : ℕ) (c : walk_node-After-eq t) {b : Bool} → c.eq.result ≡ b → is_known c.header_at-h.result.kind ≡ not b
known_told t c e =
    unknown_told _ _ c.standing_of-standing.ensures (found t (goal.at.walk_node-After-eq t c).In_ok-map_err).stands
    ∙ ap not (sym c.eq.ensures ∙ e)

known : (t : ℕ) (c : walk_node-Else-eq t) → is_known c.header_at-h.result.kind ≡ true
known t c = known_told t (goal.at.walk_node-Else-eq t c).After-eq c.if-eq.false

-- the properties are those of what follows the header
passed_is : (t : ℕ) (c : walk_node-After-pass_properties t) → passed_told c.pass_properties.result
    ≡ passed_at c.args.at (inside c.header_at-h.result (drop c.args.at c.args.bytes.now)) c.header_at-h.result.properties
passed_is t c =
    let h = c.header_at-h.result in
    c.pass_properties.ensures ∙ ap (λ s. passed_at c.args.at s h.properties) (inside_is h c.args.bytes.now c.args.at)

passed : (t : ℕ) (c : walk_node-In_ok-end t) → passed_told (Ok c.in_ok-end.end)
    ≡ passed_at c.args.at (inside c.header_at-h.result (drop c.args.at c.args.bytes.now)) c.header_at-h.result.properties
passed t c = ap passed_told (sym c.in_ok-end.was) ∙ passed_is t (goal.at.walk_node-In_ok-end t c).After-pass_properties

-- they end within the node
end_is : (t : ℕ) (c : walk_node-In_ok-end t) →
    let end = c.in_ok-end.end in
    (c.args.at + 24 ≤ end) × (end ≤ c.args.at + c.header_at-h.result.size)
end_is t c =
    let a = c.args in
    let at = goal.at.walk_node-In_ok-end t c in
    let e = at.In_ok-map_err in
    ends a.around.kind a.around.row a.around.depth a.at a.row (drop a.at a.bytes.now) a.table.now (header_is t at.After-header_at-h) (found t e) (judged t e)
    (known t at.Else-eq) (passed t c) refl

pub walk_node-returns-then-room-lt24 : goal.walk_node-returns-then-room-lt24
walk_node-returns-then-room-lt24 t c =
    rw c.at.ensures (lost (no_room_lem _ _ _ _ _ _ _ (omega (arith, length-drop c.args.at c.args.bytes.now, c.if-room-lt24.true)) (omega arith)))

pub walk_node-returns-then-ill_sized : goal.walk_node-returns-then-ill_sized
walk_node-returns-then-ill_sized t c =
    let a = c.args in
    let h = c.header_at-h.result in
    let all = length (drop a.at a.bytes.now) in
    let sized : ill_sized h.size all ≡ true = ap (ill_sized h.size) (length-drop a.at a.bytes.now) ∙ sym c.ill_sized.ensures ∙ c.if-ill_sized.true in
    let number : node_refusal h all a.around.kind a.row a.around.depth ≡ 5 =
    refusal_is h all a.around.kind a.row a.around.depth refl (ill h.size all (standing_of a.around.kind h.kind) a.row a.around.depth sized) ∙ is_refused 5 5 (cond (too_many h.kind h.properties) 9 0) (numbered NodeSize) in
    rw c.at-then-ill_sized.ensures
    (lost (header_refused _ _ _ _ _ _ _ (header_is t (goal.at.walk_node-returns-then-ill_sized t c).After-header_at-h) (sym number) (numbered NodeSize) (omega arith)))

pub walk_node-returns-in_err-map_err : goal.walk_node-returns-in_err-map_err
walk_node-returns-in_err-map_err t c =
    let at = goal.at.walk_node-returns-in_err-map_err t c in
    let p = err_from_is_err_and c.from_residual.result c.from_residual.ensures.1 in
    let d = c.in_err-map_err.field-0.0 in
    let is = number_at_place c.check_header.result _ {at = c.args.at} {d = d} c.map_err.ensures.cases c.in_err-map_err.was (λ e m. search rules) in
    let number : number_in c.check_header.result ≡ 0 → ⊥ = λ z. numbered d.reason (is.0 ∙ z) in
    rw (p.1, p.2, is.1)
    (lost (header_refused _ _ _ _ _ _ _ (header_is t at.After-header_at-h)
    (is.0 ∙ sym (number_is t at.After-check_header ∙ is_refused (number_in c.check_header.result) _ _ number)) (numbered d.reason) (omega arith)))

pub walk_node-put_node-requires : goal.walk_node-put_node-requires
walk_node-put_node-requires t c =
    let b = bounds t (goal.at.walk_node-put_node-requires t c).In_ok-map_err in
    (c.header_at-h.ensures, omega (arith, b), omega (arith, b))

pub walk_node-returns-then-eq : goal.walk_node-returns-then-eq
walk_node-returns-then-eq t c =
    let at = goal.at.walk_node-returns-then-eq t c in
    let e = at.In_ok-map_err in
    passed_over _ _ _ _ _ _ _ (header_is t at.After-header_at-h) (found t e) (judged t e)
    (known_told t at.After-eq c.if-eq.true) c.put_node.ensures

pub walk_node-slice_bounds-pass_properties-count : goal.walk_node-slice_bounds-pass_properties-count
walk_node-slice_bounds-pass_properties-count t c =
    omega (arith, bounds t (goal.at.walk_node-slice_bounds-pass_properties-count t c).In_ok-map_err)

pub walk_node-slice_bounds-pass_properties-start : goal.walk_node-slice_bounds-pass_properties-start
walk_node-slice_bounds-pass_properties-start t c =
    omega (arith, bounds t (goal.at.walk_node-slice_bounds-pass_properties-start t c).In_ok-map_err)

pub walk_node-slice_bounds-pass_properties-end : goal.walk_node-slice_bounds-pass_properties-end
walk_node-slice_bounds-pass_properties-end t c =
    omega (arith, bounds t (goal.at.walk_node-slice_bounds-pass_properties-end t c).In_ok-map_err)

pub walk_node-returns-in_err-end : goal.walk_node-returns-in_err-end
walk_node-returns-in_err-end t c =
    let at = goal.at.walk_node-returns-in_err-end t c in
    let e = at.In_ok-map_err in
    let p = err_from_is_err_and c.from_residual-in_err-end.result c.from_residual-in_err-end.ensures.1 in
    let d = c.in_err-end.field-0.0 in
    rw (p.1, p.2)
    (lost
    (body_bad _ _ _ _ _ _ _ (header_is t at.After-header_at-h) (found t e) (judged t e)
    (known t at.Else-eq) (ap passed_told (sym c.in_err-end.was) ∙ passed_is t at.After-pass_properties) (numbered d.reason)))

pub walk_node-put_node-requires-2 : goal.walk_node-put_node-requires-2
walk_node-put_node-requires-2 t c =
    let at = goal.at.walk_node-put_node-requires-2 t c in
    let b = bounds t at.In_ok-map_err in
    (c.header_at-h.ensures, omega (arith, b), omega (arith, b, end_is t at.In_ok-end))

pub walk_node-returns-then-end-past : goal.walk_node-returns-then-end-past
walk_node-returns-then-end-past t c =
    let at = goal.at.walk_node-returns-then-end-past t c in
    let e = at.In_ok-map_err in
    rw c.at-then-end-past.ensures
    (lost
    (childless _ _ _ _ _ _ _ (header_is t at.After-header_at-h) (found t e) (judged t e)
    (known t at.Else-eq) (passed t at.In_ok-end) refl
    c.if-h-eq0.true c.put_node-2.ensures (over _ _ (omega (arith, c.if-end-past.true)))))

pub walk_node-returns-then-h-eq0 : goal.walk_node-returns-then-h-eq0
walk_node-returns-then-h-eq0 t c =
    let at = goal.at.walk_node-returns-then-h-eq0 t c in
    let e = at.In_ok-map_err in
    childless _ _ _ _ _ _ _ (header_is t at.After-header_at-h) (found t e) (judged t e)
    (known t at.Else-eq) (passed t at.In_ok-end) refl
    c.if-h-eq0.true c.put_node-2.ensures (full _ _ (omega (arith, c.if-end-past.false)))

pub walk_node-invariant_of-inner : goal.walk_node-invariant_of-inner
walk_node-invariant_of-inner t c = record { shallow = omega (arith, shallow t (goal.at.walk_node-invariant_of-inner t c).In_ok-map_err) }

pub walk_node-walk_children-requires : goal.walk_node-walk_children-requires
walk_node-walk_children-requires t c =
    let at = goal.at.walk_node-walk_children-requires t c in
    let b = bounds t at.In_ok-map_err in
    let size = length-take-le (c.args.at + c.header_at-h.result.size) c.args.bytes.now b.1 in
    omega (arith, end_is t at.In_ok-end, b, size)

pub walk_node-returns : goal.walk_node-returns
walk_node-returns t c =
    let at = goal.at.walk_node-returns t c in
    let e = at.In_ok-map_err in
    let end = end_is t at.In_ok-end in
    came_to c.walk_children.result _
    (with_children _ _ _ _ _ _ _ (header_is t at.After-header_at-h) (found t e) (judged t e)
    (known t at.Else-eq) (passed t at.In_ok-end) refl
    c.put_node-2.ensures (children_are c.header_at-h.result c.args.bytes.now c.args.at _ end.0 end.1) c.walk_children.ensures)
