use Rattle.std.proofs.lemmas.Result.{err_from_is_err_and}
use Rattle.sr_base.specs.Inner.Fields.{bytes_at}
use Rattle.sr_msgform.specs.Inner.Messages.{head_at, tail_at, message_of, fields_at}
use Rattle.sr_msgform.proofs.Parts.{all_read, first_fails, second_fails, third_fails}
use Rattle.sr_msgform.proofs.fields.fields_of.Goals as goal

pub returns-in_err-head : goal.returns-in_err-head
unfolding fields_at
returns-in_err-head c =
    let p = err_from_is_err_and c.from_residual.result c.from_residual.ensures.1 in
    rw (p.1, p.2) (first_fails head_at bytes_at tail_at message_of c.in_err-head.field-0.0 c.args.bytes.now c.in_err-head.ensures.exact)

pub returns-in_err-fragment : goal.returns-in_err-fragment
unfolding fields_at
returns-in_err-fragment c =
    let p = err_from_is_err_and c.from_residual-in_err-fragment.result c.from_residual-in_err-fragment.ensures.1 in
    rw (p.1, p.2) (second_fails head_at bytes_at tail_at message_of c.in_err-fragment.field-0.0 c.args.bytes.now (c.in_ok-head.head, c.in_ok-head.rest.now) c.in_ok-head.ensures.exact c.in_err-fragment.ensures)

pub returns-in_err-tail : goal.returns-in_err-tail
unfolding fields_at
returns-in_err-tail c =
    let p = err_from_is_err_and c.from_residual-in_err-tail.result c.from_residual-in_err-tail.ensures.1 in
    rw (p.1, p.2) (third_fails head_at bytes_at tail_at message_of c.in_err-tail.field-0.0 c.args.bytes.now (c.in_ok-head.head, c.in_ok-head.rest.now) (c.in_ok-fragment.fragment, c.in_ok-fragment.rest.now) c.in_ok-head.ensures.exact c.in_ok-fragment.ensures c.in_err-tail.ensures.exact)

pub returns : goal.returns
unfolding fields_at
returns c = all_read head_at bytes_at tail_at message_of c.args.bytes.now (c.in_ok-head.head, c.in_ok-head.rest.now) (c.in_ok-fragment.fragment, c.in_ok-fragment.rest.now) (c.in_ok-tail.tail, c.in_ok-tail.rest.now) c.in_ok-head.ensures.exact c.in_ok-fragment.ensures c.in_ok-tail.ensures.exact
