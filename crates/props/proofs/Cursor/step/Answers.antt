-- `props::Cursor::step`: each return is its case of the definition, by what the header says.
use native.Mathlib.Omega.{arith}
use mathlib.Core.Path.{◌≡◌, sym, ap, subst, ◌∙◌}
use mathlib.Core.Bool.{Bool}
use Prim.Native.Nat.{◌+◌, ◌-◌, ◌≤◌}
use lib.ListN.{length, take, drop}
use Rattle.std.proofs.lemmas.Result.{err_from_is_err_and}
use Rattle.le.proofs.Laws.{rest, rest_drop}
use Rattle.names.specs.Names.{size_ok, bytes_ok}
use Rattle.base.proofs.Answers.{told}
use Rattle.props.specs.declared.PropertyHeader.{PropertyHeader}
use Rattle.props.specs.Types.{element_size}
use Rattle.props.specs.Types.{Size, size_told}
use Rattle.props.specs.Private.{Extent}
use Rattle.props.specs.Step.{Refused, header_at, code_at, size_at, length_at, name_at, step_at, step_numbers}
use Rattle.props.specs.Private.{data_of, name_out}
use Rattle.props.proofs.Header.{header_part}
use Rattle.props.proofs.Cases.{Within, data_within, past, header_out, size_wrong, name_unfit, bytes_wrong, by_extent}
use Rattle.props.proofs.Cursor.step.Goals as goal
use Rattle.props.proofs.Cursor.step.Goals.{After-bytes_ok, After-element_size, After-header_of-header, After-size_ok, After-from-size}

-- the header that was read
header : (c : After-header_of-header) → c.header_of-header.result ≡ header_at c.args.body.now c.args.self.at
header c =
    let a = c.args in
    c.header_of-header.ensures ∙ header_part a.body.now a.self.at (a.self.at + 8 - a.self.at) (omega arith)

-- what was found of the name's size
sized : (c : After-size_ok) {b : Bool} → c.size_ok.result ≡ b → size_ok (size_at c.args.body.now c.args.self.at) ≡ b
sized c e = ap (λ (h : PropertyHeader). size_ok h.size) (sym (header (goal.at.After-size_ok c).After-header_of-header)) ∙ sym c.size_ok.ensures ∙ e

size : (c : After-from-size) → c.from-size.result ≡ size_at c.args.body.now c.args.self.at
size c = c.from-size.ensures ∙ ap (λ (h : PropertyHeader). h.size) (header (goal.at.After-from-size c).After-header_of-header)

-- what was found of the name's bytes
named : (c : After-bytes_ok) {b : Bool} → c.bytes_ok.result ≡ b → bytes_ok (name_at c.args.body.now c.args.self.at) ≡ b
unfolding name_at
named c e =
    let a = c.args in
    let at = a.self.at in
    let long : size_at a.body.now at ≡ at + 8 + c.from-size.result - (at + 8) = omega (arith, size (goal.at.After-bytes_ok c).After-from-size) in
    ap (λ n. bytes_ok (take n (drop (at + 8) a.body.now))) long ∙ sym c.bytes_ok.ensures ∙ e

-- the answer goes by the data
finish : (c : After-element_size) {e : Extent}
    → e ≡ data_of (size_told c.element_size.result) c.header_of-header.result.length (rest c.args.body.now (c.args.self.at + 8 + c.from-size.result))
    → past c.args.self.at (c.args.self.at + 8 + c.from-size.result) e ≡ step_at c.args.body.now c.args.self.at
finish c {e} told =
    let a = c.args in
    let seen = goal.at.After-element_size c in
    let s = a.body.now in
    let at = a.self.at in
    let here = header seen.After-header_of-header in
    let len = c.header_of-header.result.length in
    let extent : e ≡ data_of (element_size (code_at s at)) (length_at s at) (drop (at + 8 + c.from-size.result) s)
    = told
    ∙ ap (data_of (size_told c.element_size.result) len) (rest_drop s (at + 8 + c.from-size.result))
    ∙ ap (λ (z : Size). data_of z len (drop (at + 8 + c.from-size.result) s)) c.element_size.ensures.result
    ∙ ap (λ (h : PropertyHeader). data_of (element_size h.code) h.length (drop (at + 8 + c.from-size.result) s)) here in
    ap (past at (at + 8 + c.from-size.result)) extent
    ∙ ap (λ n. past at (at + 8 + n) (data_of (element_size (code_at s at)) (length_at s at) (drop (at + 8 + n) s))) (size seen.After-from-size)
    ∙ by_extent s at (omega arith) (sized seen.After-size_ok c.if-not-size_ok.false) (omega (arith, size seen.After-from-size)) (named seen.After-bytes_ok c.if-not-bytes_ok.false)

pub returns-then-n-at : goal.returns-then-n-at
returns-then-n-at c =
    let a = c.args in
    let all = told step_numbers (header_out a.body.now a.self.at (omega arith)) in
    record { result = all.0; numbers = all.1 }

pub returns-then-n-at-lt8 : goal.returns-then-n-at-lt8
returns-then-n-at-lt8 c =
    let a = c.args in
    let all = told step_numbers (header_out a.body.now a.self.at (omega arith)) in
    record { result = all.0; numbers = all.1 }

pub returns-then-not-size_ok : goal.returns-then-not-size_ok
returns-then-not-size_ok c =
    let a = c.args in
    let all = told step_numbers (size_wrong a.body.now a.self.at (omega arith) (sized (goal.at.returns-then-not-size_ok c).After-size_ok c.if-not-size_ok.true)) in
    record { result = all.0; numbers = all.1 }

pub returns-then-n-name : goal.returns-then-n-name
returns-then-n-name c =
    let a = c.args in
    let seen = goal.at.returns-then-n-name c in
    let all = told step_numbers
    (ap Refused (c.name_out.ensures ∙ ap (λ (h : PropertyHeader). name_out h.code) (header seen.After-header_of-header))
    ∙ name_unfit a.body.now a.self.at (omega arith) (sized seen.After-size_ok c.if-not-size_ok.false) (omega (arith, size seen.After-from-size))) in
    record { result = all.0; numbers = all.1 }

pub returns-then-not-bytes_ok : goal.returns-then-not-bytes_ok
returns-then-not-bytes_ok c =
    let a = c.args in
    let seen = goal.at.returns-then-not-bytes_ok c in
    let all = told step_numbers
    (bytes_wrong a.body.now a.self.at (omega arith) (sized seen.After-size_ok c.if-not-size_ok.false) (omega (arith, size seen.After-from-size)) (named seen.After-bytes_ok c.if-not-bytes_ok.true)) in
    record { result = all.0; numbers = all.1 }

pub overflow_add-end : goal.overflow_add-end
overflow_add-end c =
    let within : c.in_ok-k.k ≤ length (rest c.args.body.now (c.args.self.at + 8 + c.from-size.result))
    = subst (Within _) (sym c.in_ok-k.ensures) (data_within (size_told c.element_size.result) c.header_of-header.result.length _) in
    omega arith

pub returns-in_err-k : goal.returns-in_err-k
returns-in_err-k c =
    let all = told step_numbers (finish (goal.at.returns-in_err-k c).After-element_size c.in_err-k.ensures) in
    let p = err_from_is_err_and c.from_residual.result c.from_residual.ensures.1 in
    rw (p.1, p.2) (record { result = all.0; numbers = all.1 })

pub returns : goal.returns
returns c =
    let all = told step_numbers (finish (goal.at.returns c).After-element_size c.in_ok-k.ensures) in
    record { result = all.0; numbers = all.1 }
