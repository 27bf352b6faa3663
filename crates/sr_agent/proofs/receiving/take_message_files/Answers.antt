use Rattle.sr_agent.proofs.MessageFiles.{message_files_broken, message_files_told}
use Rattle.sr_agent.proofs.receiving.take_message_files.Goals as goal

pub returns-clause-told : goal.returns-clause-told
returns-clause-told g c =
    message_files_told c.args.db.now c.receive-outcome.new.db (g.S.Held.seen c.args.site.now) (g.S.Held.seen c.receive-outcome.new.site) c.args.user.now c.args.bag.now c.receive-outcome.new.bag (g.O.Sink.seen c.args.sink.now)
    (g.O.Sink.seen c.tell_outcome-told.new.sink) c.new-reports.result.items c.as_slice.result.now c.receive-outcome.new.reports.items c.receive-outcome.result c.tell_outcome-told.result c.new-reports.ensures.items c.as_slice.ensures.value
    c.requires.ready c.requires.user c.requires.holds c.receive-outcome.ensures.received c.tell_outcome-told.ensures.done

pub returns-clause-broken : goal.returns-clause-broken
returns-clause-broken g c =
    message_files_broken c.args.db.now c.receive-outcome.new.db (g.S.Held.seen c.args.site.now) (g.S.Held.seen c.receive-outcome.new.site) c.args.user.now c.args.bag.now c.receive-outcome.new.bag (g.O.Sink.seen c.args.sink.now)
    (g.O.Sink.seen c.tell_outcome-told.new.sink) c.new-reports.result.items c.as_slice.result.now c.receive-outcome.new.reports.items c.receive-outcome.result c.tell_outcome-told.result c.new-reports.ensures.items c.as_slice.ensures.value
    c.requires.ready c.requires.user c.requires.holds c.receive-outcome.ensures.received c.receive-outcome.ensures.cause c.tell_outcome-told.ensures.cause
