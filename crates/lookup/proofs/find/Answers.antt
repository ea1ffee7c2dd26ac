-- `lookup::find`: by the row, and then by its body.
use native.Mathlib.Omega.{arith}
use mathlib.Core.Path.{◌≡◌, sym, ap, subst, ◌∙◌}
use mathlib.Core.Bool.{false}
use mathlib.Core.List.{List}
use Prim.Native.Nat.{ℕ, ◌≤◌}
use lib.ListN.{length}
use Rattle.std.proofs.lemmas.Result.{err_from_is_err_and}
use Rattle.table.specs.declared.Row.{Row}
use Rattle.format.specs.Rows.{body_of, outside}
use Rattle.format.proofs.Rows.{not_outside, length_body}
use Rattle.lookup.specs.Lookup.{found_told, in_body, shifted, lookup_of, FoundWithin}
use Rattle.lookup.proofs.Laws.{body_within}
use Rattle.lookup.proofs.Rows.{no_row_lem, beyond, inside, told}
use Rattle.lookup.proofs.find.Goals as goal
use Rattle.lookup.proofs.find.Goals.{After-in_body, In_ok-found}

pub returns-then-not-has_row : goal.returns-then-not-has_row
returns-then-not-has_row c =
    let a = c.args in
    let all = told a.bytes.now a.table.now a.row a.name.now
    (no_row_lem a.bytes.now a.table.now a.row a.name.now (sym c.has_row.ensures ∙ c.if-not-has_row.true)) in
    record { result = all.0; within = all.1.0; number = all.1.1.0; part = all.1.1.1 }

pub returns-then-is_outside : goal.returns-then-is_outside
returns-then-is_outside c =
    let a = c.args in
    let all = told a.bytes.now a.table.now a.row a.name.now
    (beyond a.bytes.now a.table.now a.row a.name.now (sym c.has_row.ensures ∙ c.if-not-has_row.false) c.row_at-r.ensures (sym c.is_outside.ensures ∙ c.if-is_outside.true)) in
    record { result = all.0; within = all.1.0; number = all.1.1.0; part = all.1.1.1 }

-- at the body's answer
module _ (c : After-in_body) where
  abbrev r : Row
  r = c.row_at-r.result

  abbrev bytes : List ℕ
  bytes = c.args.bytes.now

  within : outside (length bytes) r ≡ false
  within = sym c.is_outside.ensures ∙ c.if-is_outside.false

  by_body : found_told c.in_body.result ≡ in_body (body_of bytes r) r.properties c.args.name.now
  by_body = c.in_body.ensures ∙ ap (λ l. in_body l r.properties c.args.name.now) c.body_of.ensures

  -- the answer goes by the body's
  finish : let a = c.args in shifted r.start (found_told c.in_body.result) ≡ lookup_of bytes a.table.now a.row a.name.now
  finish =
      let a = c.args in
      ap (shifted r.start) by_body
      ∙ inside bytes a.table.now a.row a.name.now (sym c.has_row.ensures ∙ c.if-not-has_row.false) c.row_at-r.ensures within

-- what was found lies in the body
taken : (c : In_ok-found) → (c.in_ok-found.found.start ≤ c.in_ok-found.found.end) × (c.in_ok-found.found.end ≤ c.row_at-r.result.end)
taken c =
    let at = (goal.at.In_ok-found c).After-in_body in
    let bytes = c.args.bytes.now in
    let r = c.row_at-r.result in
    let body = body_of bytes r in
    let p = subst (FoundWithin (length body)) (sym (ap found_told (sym c.in_ok-found.was) ∙ by_body at)) (body_within body c.args.name.now r.properties) in
    (p.0, omega (arith, p.1, length_body bytes r (not_outside bytes r (within at)).1))

pub returns-in_err-found : goal.returns-in_err-found
returns-in_err-found c =
    let a = c.args in
    let at = (goal.at.returns-in_err-found c).After-in_body in
    let p = err_from_is_err_and c.from_residual.result c.from_residual.ensures.1 in
    let all = told a.bytes.now a.table.now a.row a.name.now
    (ap (λ f. shifted (r at).start (found_told f)) (sym c.in_err-found.was) ∙ finish at) in
    rw (p.1, p.2) (record { result = all.0; within = all.1.0; number = all.1.1.0; part = all.1.1.1 })

pub overflow_add-start : goal.overflow_add-start
overflow_add-start c = omega (arith, taken (goal.at.overflow_add-start c).In_ok-found)

pub overflow_add-end : goal.overflow_add-end
overflow_add-end c = omega (arith, taken (goal.at.overflow_add-end c).In_ok-found)

pub returns : goal.returns
returns c =
    let a = c.args in
    let at = (goal.at.returns c).After-in_body in
    let all = told a.bytes.now a.table.now a.row a.name.now
    (ap (λ f. shifted (r at).start (found_told f)) (sym c.in_ok-found.was) ∙ finish at) in
    record { result = all.0; within = all.1.0; number = all.1.1.0; part = all.1.1.1 }
