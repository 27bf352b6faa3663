use Rattle.dbremote_command.proofs.Ended.{agent_done, agent_ended}
use Rattle.dbremote_command.proofs.commands.command_agent.Goals as goal

pub returns-in-Ok-clause-ran : goal.returns-in-Ok-clause-ran
returns-in-Ok-clause-ran g c = λ input.
    agent_done c.args.name.now c.args.mail.now c.args.options.now (g.S.Held.seen c.args.site.now) (g.S.Held.seen c.run_agent.new.site) input (g.O.Sink.seen c.args.output.now) (g.O.Sink.seen c.run_agent.new.output)
    c.run_agent.ensures.tried c.status_of_alarms.result c.in-Ok.count (c.in-Ok.ensures.ran input) c.status_of_alarms.ensures.none c.status_of_alarms.ensures.some

pub returns-in-Err-clause-ran : goal.returns-in-Err-clause-ran
returns-in-Err-clause-ran g c = λ input.
    agent_ended c.args.name.now c.args.mail.now c.args.options.now (g.S.Held.seen c.args.site.now) (g.S.Held.seen c.run_agent.new.site) input (g.O.Sink.seen c.args.output.now) (g.O.Sink.seen c.tell.new.output)
    c.run_agent.ensures.tried c.in-Err.fault (g.O.Sink.seen c.run_agent.new.output) c.tell.result (c.in-Err.ensures.stopped input) c.tell.ensures.told
