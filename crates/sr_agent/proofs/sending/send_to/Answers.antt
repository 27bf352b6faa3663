use Rattle.sr_agent.proofs.Delivering.{delivery_done, keeps_then, ready_then, send_answer, untold_answer}
use Rattle.sr_agent.proofs.sending.send_to.Goals as goal

pub returns-in_err-sent-clause-broken : goal.returns-in_err-sent-clause-broken
returns-in_err-sent-clause-broken g c =
    send_answer c.args.db.now c.send.new.db (g.S.Held.seen c.args.site.now) (g.S.Held.seen c.send.new.site) c.args.length c.args.partner.now (g.O.Sink.seen c.args.sink.now) c.in_err-sent.field-0.0 c.from_residual.result
    c.from_residual.ensures.1 c.requires.ready c.in_err-sent.ensures.cause c.in_err-sent.ensures.devices

pub returns-in_err-tell_delivery-clause-broken : goal.returns-in_err-tell_delivery-clause-broken
returns-in_err-tell_delivery-clause-broken g c =
    untold_answer c.args.db.now c.send.new.db (g.S.Held.seen c.args.site.now) (g.S.Held.seen c.send.new.site) c.args.length c.args.partner.now c.in_ok-sent.sent (g.O.Sink.seen c.args.sink.now) (g.O.Sink.seen c.tell_delivery.new.sink)
    c.from_residual-in_err-tell_delivery.result c.from_residual-in_err-tell_delivery.ensures.1 c.in_ok-sent.ensures.sent c.in_err-tell_delivery.ensures.failed

pub returns-clause-ready : goal.returns-clause-ready
returns-clause-ready g c =
    ready_then c.args.db.now c.send.new.db (g.S.Held.seen c.args.site.now) (g.S.Held.seen c.send.new.site) c.args.partner.now.user c.args.length c.args.partner.now.ask c.in_ok-sent.sent c.requires.ready c.in_ok-sent.ensures.sent

pub returns-clause-keeps : goal.returns-clause-keeps
returns-clause-keeps g c =
    keeps_then c.args.db.now c.send.new.db (g.S.Held.seen c.args.site.now) (g.S.Held.seen c.send.new.site) c.args.partner.now.user c.args.length c.args.partner.now.ask c.in_ok-sent.sent c.requires.ready c.in_ok-sent.ensures.sent

pub returns-clause-done : goal.returns-clause-done
returns-clause-done g c =
    delivery_done c.args.db.now c.send.new.db (g.S.Held.seen c.args.site.now) (g.S.Held.seen c.send.new.site) c.args.length c.args.partner.now c.in_ok-sent.sent (g.O.Sink.seen c.args.sink.now) (g.O.Sink.seen c.tell_delivery.new.sink)
    c.in_ok-sent.ensures.sent c.in_ok-tell_delivery.ensures.told
