use Rattle.std.proofs.Common.{inl}
use Rattle.sr_send.specs.Inner.Stops.{PutStop}
use Rattle.sr_send.specs.declared.fault.SendFault.{SendFault}
use Rattle.sr_send.proofs.Endings.{all_put, rest_stopped}
use Rattle.sr_send.proofs.Known.{shared_on}
use Rattle.sr_send.proofs.Results.{if_fault}
use Rattle.sr_send.proofs.sending.put_pass.Goals as goal

pub returns-in_err-put_unsent-clause-cause : goal.returns-in_err-put_unsent-clause-cause
returns-in_err-put_unsent-clause-cause g c =
    let before = g.S.Held.seen c.args.site.now in
    let now = g.S.Held.seen c.put_unsent.new.site in
    if_fault (λ (f : SendFault). PutStop c.args.db.now c.args.aim.now c.args.book.now c.args.ask c.args.user.now before now f) c.in_err-put_unsent.field-0.0 c.from_residual.result c.from_residual.ensures.1
    (inl c.in_err-put_unsent.ensures.cause)

pub put_rest-requires-clause-made : goal.put_rest-requires-clause-made
put_rest-requires-clause-made g c =
    record { pushed = c.in_ok-put_unsent.ensures.read.pushed; messages = c.in_ok-put_unsent.ensures.read.messages; made = c.in_ok-put_unsent.ensures.read.made }

pub returns-in_err-put_rest-clause-cause : goal.returns-in_err-put_rest-clause-cause
returns-in_err-put_rest-clause-cause g c =
    let before = g.S.Held.seen c.args.site.now in
    let middle = g.S.Held.seen c.put_unsent.new.site in
    let now = g.S.Held.seen c.put_rest.new.site in
    if_fault (λ (f : SendFault). PutStop c.args.db.now c.args.aim.now c.args.book.now c.args.ask c.args.user.now before now f) c.in_err-put_rest.field-0.0 c.from_residual-in_err-put_rest.result
    c.from_residual-in_err-put_rest.ensures.1
    (rest_stopped c.args.db.now c.args.aim.now c.args.book.now c.args.ask c.args.user.now c.put_unsent.new.post before middle now c.in_err-put_rest.field-0.0 c.in_ok-put_unsent.ensures.read c.in_err-put_rest.ensures.cause)

pub returns-clause-put : goal.returns-clause-put
returns-clause-put g c =
    all_put c.args.db.now c.args.aim.now c.args.book.now c.args.ask c.args.user.now c.put_unsent.new.post c.put_rest.new.post (g.S.Held.seen c.args.site.now) (g.S.Held.seen c.put_unsent.new.site)
    (g.S.Held.seen c.put_rest.new.site) c.in_ok-put_unsent.ensures.read c.in_ok-put_rest.ensures.completed

pub returns-clause-surveyed : goal.returns-clause-surveyed
returns-clause-surveyed g c =
    shared_on c.args.db.now c.put_unsent.new.shared.survey (g.S.Held.seen c.put_unsent.new.site) (g.S.Held.seen c.put_rest.new.site) _ c.in_ok-put_rest.ensures.completed.posted c.in_ok-put_unsent.ensures.surveyed
