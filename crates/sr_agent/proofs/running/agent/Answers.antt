use Rattle.sr_agent.proofs.Anew.{ran_alone}
use Rattle.sr_agent.proofs.running.agent.Goals as goal

pub returns : goal.returns
returns g c = record {
  ran = ran_alone c.args.db.now c.run.new.db (g.S.Held.seen c.args.site.now) (g.S.Held.seen c.run.new.site) (g.O.Sink.seen c.args.sink.now) (g.O.Sink.seen c.run.new.sink) c.args.options.now c.run.result
      c.if-options.false c.run.ensures.ran;
}
