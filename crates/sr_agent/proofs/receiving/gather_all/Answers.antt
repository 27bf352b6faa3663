use Rattle.sr_agent.proofs.Gathered.{gathered_broken, gathered_done}
use Rattle.sr_agent.proofs.Some.{gathered_some}
use Rattle.sr_agent.proofs.receiving.gather_all.Goals as goal

pub returns-clause-holds : goal.returns-clause-holds
returns-clause-holds g c =
    gathered_some c.args.db.now (g.S.Held.seen c.args.site.now) (g.S.Held.seen c.gather-outcome.new.site) (g.O.Sink.seen c.args.sink.now) (g.O.Sink.seen c.tell_gathering-told.new.sink) c.new-reports.result.items c.as_slice.result.now
    c.gather-outcome.new.reports.items c.gather-outcome.result c.tell_gathering-told.result c.gather-outcome.ensures.gathered c.tell_gathering-told.ensures.done

pub returns-clause-done : goal.returns-clause-done
returns-clause-done g c =
    gathered_done c.args.db.now (g.S.Held.seen c.args.site.now) (g.S.Held.seen c.gather-outcome.new.site) (g.O.Sink.seen c.args.sink.now) (g.O.Sink.seen c.tell_gathering-told.new.sink) c.new-reports.result.items c.as_slice.result.now
    c.gather-outcome.new.reports.items c.gather-outcome.result c.tell_gathering-told.result c.new-reports.ensures.items c.as_slice.ensures.value c.gather-outcome.ensures.gathered c.tell_gathering-told.ensures.done

pub returns-clause-broken : goal.returns-clause-broken
returns-clause-broken g c =
    gathered_broken c.args.db.now (g.S.Held.seen c.args.site.now) (g.S.Held.seen c.gather-outcome.new.site) (g.O.Sink.seen c.args.sink.now) (g.O.Sink.seen c.tell_gathering-told.new.sink) c.new-reports.result.items c.as_slice.result.now
    c.gather-outcome.new.reports.items c.gather-outcome.result c.tell_gathering-told.result c.requires.ready c.new-reports.ensures.items c.as_slice.ensures.value c.gather-outcome.ensures.gathered c.gather-outcome.ensures.cause
    c.tell_gathering-told.ensures.cause
