use Rattle.std.proofs.Common.{List, subst}
use Rattle.std.specs.List.{AllByRecursion}
use Rattle.sr_agent.specs.Inner.Steps.{MaySendTo}
use Rattle.sr_agent.specs.declared.partner.Partner.{Partner}
use Rattle.sr_agent.proofs.InOrder.{walk_begins, walk_breaks, walk_next}
use Rattle.sr_agent.proofs.sending.send_in_order.Goals as goal

pub partners-init : goal.partners-init
partners-init g c = (walk_begins c.args.db.now (g.S.Held.seen c.args.site.now) c.args.length c.args.partners.now (g.O.Sink.seen c.args.sink.now) c.requires.ready c.requires.may, c.requires.surveyed)

pub returns-in_err-send_to-clause-broken : goal.returns-in_err-send_to-clause-broken
returns-in_err-send_to-clause-broken g c =
    walk_breaks c.args.db.now c.partners.db c.send_to.new.db (g.S.Held.seen c.args.site.now) (g.S.Held.seen c.partners.site) (g.S.Held.seen c.send_to.new.site) c.args.length c.args.partners.now c.partners.left.now c.in-Some.partner.now
    c.in-Some.rest.now (g.O.Sink.seen c.args.sink.now) (g.O.Sink.seen c.partners.sink) (g.O.Sink.seen c.send_to.new.sink) c.from_residual.result c.in_err-send_to.field-0.0 c.from_residual.ensures.1 c.in-Some.ensures.cases.0 c.partners.invariant.0
    c.in_err-send_to.ensures.broken

pub partners-preserved : goal.partners-preserved
partners-preserved g c = (
  walk_next c.args.db.now c.partners.db c.send_to.new.db (g.S.Held.seen c.args.site.now) (g.S.Held.seen c.partners.site) (g.S.Held.seen c.send_to.new.site) c.args.length c.args.partners.now c.partners.left.now c.in-Some.partner.now
      c.in-Some.rest.now (g.O.Sink.seen c.args.sink.now) (g.O.Sink.seen c.partners.sink) (g.O.Sink.seen c.send_to.new.sink) c.in-Some.ensures.cases.0 c.partners.invariant.0 c.in_ok-send_to.ensures.ready c.in_ok-send_to.ensures.keeps
      c.in_ok-send_to.ensures.done,
  c.in_ok-send_to.ensures.surveyed,
)

pub send_to-requires-clause-may : goal.send_to-requires-clause-may
send_to-requires-clause-may g c = (subst (λ (l : List Partner). AllByRecursion (MaySendTo c.partners.db) l) c.in-Some.ensures.cases.0 c.partners.invariant.0.may).0

pub returns-clause-ready : goal.returns-clause-ready
returns-clause-ready g c = c.partners.invariant.0.ready

pub send_to-requires-clause-surveyed : goal.send_to-requires-clause-surveyed
send_to-requires-clause-surveyed g c = c.partners.invariant.1
