use Rattle.sr_agent.proofs.Anew.{ran_anew, ran_unbegun}
use Rattle.sr_agent.proofs.running.run_anew.Goals as goal

pub run-requires-clause-can : goal.run-requires-clause-can
run-requires-clause-can g c = c.in-Ok.ensures.told.restarts.can

pub returns-in-Ok : goal.returns-in-Ok
returns-in-Ok g c = record {
  ran = ran_anew c.args.db.now c.restart.new.db c.run.new.db (g.S.Held.seen c.args.site.now) (g.S.Held.seen c.restart.new.site) (g.S.Held.seen c.run.new.site)
      (g.O.Sink.seen c.args.sink.now) (g.O.Sink.seen c.restart.new.sink) (g.O.Sink.seen c.run.new.sink) c.args.options.now c.run.result c.requires.restart c.in-Ok.ensures.told c.run.ensures.ran;
}

pub returns-in-Err : goal.returns-in-Err
returns-in-Err g c = record {
  ran = ran_unbegun c.args.db.now c.restart.new.db (g.S.Held.seen c.args.site.now) (g.S.Held.seen c.restart.new.site) (g.O.Sink.seen c.args.sink.now) (g.O.Sink.seen c.restart.new.sink) c.args.options.now c.in-Err.fault
      c.requires.restart c.in-Err.ensures.unbegun;
}
