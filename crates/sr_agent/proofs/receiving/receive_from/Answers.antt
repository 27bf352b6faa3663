use Rattle.std.proofs.Common.{refl}
use Rattle.sr_agent.specs.Inner.Steps.{PartnerPassBroken}
use Rattle.sr_agent.specs.declared.fault.AgentFault.TheVariants.{Memory}
use Rattle.sr_agent.proofs.Purged.{if_err, ready_purged, partner_pass_broken, partner_pass_done, partner_pass_unadded}
use Rattle.sr_agent.proofs.receiving.receive_from.Goals as goal

pub returns-in_err-add-clause-broken : goal.returns-in_err-add-clause-broken
returns-in_err-add-clause-broken g c =
    let before = g.S.Held.seen c.args.site.now in
    let middle = g.S.Held.seen c.take_message_files.new.site in
    let written = g.O.Sink.seen c.args.sink.now in
    let written' = g.O.Sink.seen c.take_message_files.new.sink in
    if_err (PartnerPassBroken c.args.db.now c.take_message_files.new.db before middle c.args.user.now c.args.bag.now c.args.purges written written') Memory c.from_residual-in_err-add.result c.from_residual-in_err-add.ensures.1
    (partner_pass_unadded c.args.db.now c.take_message_files.new.db before middle c.args.user.now c.args.bag.now c.take_message_files.new.bag c.in_ok-received.received c.in_ok-received.alarms written written' Memory c.in_ok-received.ensures.told refl
    c.args.purges)

pub returns-clause-ready : goal.returns-clause-ready
returns-clause-ready g c =
    ready_purged c.args.purges c.take_message_files.new.db c.args.user.now c.take_message_files.new.bag (g.S.Held.seen c.take_message_files.new.site) (g.S.Held.seen c.purge_where.new.site) c.purge_where.result c.in_ok-received.ensures.told.took.ready
    c.purge_where.ensures.purged

pub returns-clause-done : goal.returns-clause-done
returns-clause-done g c =
    partner_pass_done c.args.purges c.args.db.now c.take_message_files.new.db (g.S.Held.seen c.args.site.now) (g.S.Held.seen c.take_message_files.new.site) (g.S.Held.seen c.purge_where.new.site) c.args.user.now c.args.bag.now c.take_message_files.new.bag
    c.in_ok-received.received c.in_ok-received.alarms c.args.progress.now c.add.new.self (g.O.Sink.seen c.args.sink.now) (g.O.Sink.seen c.take_message_files.new.sink) c.purge_where.result c.in_ok-received.ensures.told c.in_ok-add.ensures.partners
    c.in_ok-add.ensures.alarms c.purge_where.ensures.purged

pub returns-clause-broken : goal.returns-clause-broken
returns-clause-broken g c =
    partner_pass_broken c.args.db.now c.take_message_files.new.db (g.S.Held.seen c.args.site.now) (g.S.Held.seen c.take_message_files.new.site) (g.S.Held.seen c.purge_where.new.site) c.args.user.now c.args.bag.now c.take_message_files.new.bag
    c.args.purges c.in_ok-received.received c.in_ok-received.alarms (g.O.Sink.seen c.args.sink.now) (g.O.Sink.seen c.take_message_files.new.sink) c.purge_where.result c.in_ok-received.ensures.told c.purge_where.ensures.cause
