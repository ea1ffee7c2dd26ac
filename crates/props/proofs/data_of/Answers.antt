-- `props::data_of`: the extent by the size that the match found; a product with a size does not wrap.
use mathlib.Core.Path.{◌≡◌, sym, ap, ◌∙◌}
use lib.ListN.{length}
use Rattle.props.specs.declared.Size.TheVariants.{Bytes, Text}
use Rattle.std.specs.Prelude.{Some}
use borrow.Author.Tests.{eq-eqb, ne_eqb}
use Rattle.props.specs.Types.{size_told}
use Rattle.props.specs.Step.{data_refusal}
use Rattle.props.specs.Private.{fit, data_of}
use Rattle.props.proofs.Cases.{product_fits, elements_fit}
use borrow.Author.Rules.{rules}
use Rattle.props.proofs.data_of.Goals as goal

pub overflow_mul-length : goal.overflow_mul-length
overflow_mul-length c = product_fits (search rules) (search rules)

pub returns-in-Some-Bytes : goal.returns-in-Some-Bytes
returns-in-Some-Bytes c =
    let a = c.args in
    let e : a.size ≡ Some (Bytes c.in-Some-Bytes.w) = c.in-Some-Bytes.is ∙ ap Some (rw c.in-Some-Bytes.is at c.in-Some-Bytes.field-0-is) in
    c.fit.ensures ∙ sym (elements_fit c.in-Some-Bytes.w a.length a.rest.now)
    ∙ ap (λ s. data_of (size_told s) a.length a.rest.now) (sym e)

pub returns-then-length-eq1 : goal.returns-then-length-eq1
unfolding data_refusal data_of
returns-then-length-eq1 c =
    let bs = c.args.rest.now in
    let e : c.args.size ≡ Some Text = c.in-Some-Text.is ∙ ap Some (rw c.in-Some-Text.is at c.in-Some-Text.field-0-is) in
    c.fit-then-length-eq1.ensures ∙ ap (λ n. fit n (length bs)) c.to_zero.ensures ∙ rw (e, eq-eqb _ _ c.if-length-eq1.true)

pub returns-else-length-eq1 : goal.returns-else-length-eq1
unfolding data_refusal data_of
returns-else-length-eq1 c =
    let e : c.args.size ≡ Some Text = c.in-Some-Text.is ∙ ap Some (rw c.in-Some-Text.is at c.in-Some-Text.field-0-is) in
    rw (e, ne_eqb _ _ c.if-length-eq1.false)

pub returns-in-None : goal.returns-in-None
unfolding data_refusal data_of
returns-in-None c = rw c.in-None.is
