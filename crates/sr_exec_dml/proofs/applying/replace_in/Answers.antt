use Rattle.std.proofs.Common.{◌≡◌, Some, IfSome, sym, ap, subst, ◌∙◌}
use Rattle.sr_exec_where.specs.Keys.{key_of}
use Rattle.sr_exec_dml.proofs.Over.{all_replaced}
use Rattle.sr_exec_dml.proofs.applying.replace_in.Goals as goal

pub returns-clause-replaced : goal.returns-clause-replaced
returns-clause-replaced c =
    let table = c.args.table.now in
    let change = c.args.change.now in
    let row = c.in_ok-copy.field-0 in
    let places = c.as_slice-places.ensures.items in
    let copied = c.in_ok-copy.ensures.equal in
    let over = c.in-Some.ensures.over in
    all_replaced c.replace-2.result table change c.in_ok-key.key row c.args.hand.now c.replace-2.new.self c.requires.hand
    (c.in_ok-key.ensures.key ∙ (λ i. key_of (places i) ((c.values.ensures.values ∙ sym copied) i)))
    (over.0 ∙ ap Some (sym copied))
    (subst (λ ps. IfSome change.before (λ before. key_of ps before ≡ key_of ps row)) places (subst (λ after. IfSome change.before (λ before. key_of c.as_slice-places.result.now before ≡ key_of c.as_slice-places.result.now after)) (sym copied) over.1))
    c.replace-2.ensures.replaced
