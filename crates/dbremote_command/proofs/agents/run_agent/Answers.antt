use Rattle.dbremote_command.proofs.AgentRuns.{agent_tried, agent_stays, agent_stopped, agent_unopened, tried_for_history}
use Rattle.dbremote_command.proofs.Keeping.{agent_kept, kept_in}
use Rattle.dbremote_command.proofs.agents.run_agent.Goals as goal

pub returns-in-Ok-ran-clause-tried : goal.returns-in-Ok-ran-clause-tried
returns-in-Ok-ran-clause-tried g c = agent_tried c.args.name.now c.args.mail.now c.args.options.now (g.S.Held.seen c.args.site.now) (g.S.Held.seen c.open_for_agent.new.site) (g.S.Held.seen c.agent-ran.new.site) (g.O.Sink.seen c.args.output.now) (g.O.Sink.seen c.agent-ran.new.sink)
    c.in-Ok.database c.agent-ran.new.db c.in-Ok.ensures.opened
    c.agent-ran.result c.agent-ran.ensures.ran

pub returns-in-Ok-ran-clause-kept : goal.returns-in-Ok-ran-clause-kept
returns-in-Ok-ran-clause-kept g c = kept_in c.keep.new.kept c.agent-ran.new.db (g.S.Held.seen c.agent-ran.new.site) c.keep.ensures.kept
    (agent_kept c.in-Ok.database c.agent-ran.new.db (g.S.Held.seen c.open_for_agent.new.site) (g.S.Held.seen c.agent-ran.new.site) (g.O.Sink.seen c.args.output.now) (g.O.Sink.seen c.agent-ran.new.sink) c.args.options.now
    c.in-Ok-ran.count c.in-Ok-ran.ensures.ran c.in-Ok.ensures.stands)

pub returns-in-Ok-ran-clause-stays : goal.returns-in-Ok-ran-clause-stays
returns-in-Ok-ran-clause-stays g c = agent_stays c.args.name.now c.args.mail.now c.args.options.now (g.S.Held.seen c.args.site.now) (g.S.Held.seen c.open_for_agent.new.site) (g.S.Held.seen c.agent-ran.new.site) (g.O.Sink.seen c.args.output.now) (g.O.Sink.seen c.agent-ran.new.sink)
    c.in-Ok.database c.agent-ran.new.db c.in-Ok.ensures.opened
    c.agent-ran.result c.agent-ran.ensures.ran

pub returns-in-Err-ran-clause-stopped : goal.returns-in-Err-ran-clause-stopped
returns-in-Err-ran-clause-stopped g c = λ input. agent_stopped c.args.name.now c.args.mail.now c.args.options.now (g.S.Held.seen c.args.site.now) (g.S.Held.seen c.open_for_agent.new.site) (g.S.Held.seen c.agent-ran.new.site) (g.O.Sink.seen c.args.output.now) (g.O.Sink.seen c.agent-ran.new.sink)
    c.in-Ok.database c.agent-ran.new.db c.in-Ok.ensures.opened
    input c.in-Err-ran.fault c.from.result c.from.ensures c.in-Err-ran.ensures.ran

pub returns-in-Err-ran-clause-tried : goal.returns-in-Err-ran-clause-tried
returns-in-Err-ran-clause-tried g c = agent_tried c.args.name.now c.args.mail.now c.args.options.now (g.S.Held.seen c.args.site.now) (g.S.Held.seen c.open_for_agent.new.site) (g.S.Held.seen c.agent-ran.new.site) (g.O.Sink.seen c.args.output.now) (g.O.Sink.seen c.agent-ran.new.sink)
    c.in-Ok.database c.agent-ran.new.db c.in-Ok.ensures.opened
    c.agent-ran.result c.agent-ran.ensures.ran

pub returns-in-Err-ran-clause-stays : goal.returns-in-Err-ran-clause-stays
returns-in-Err-ran-clause-stays g c = agent_stays c.args.name.now c.args.mail.now c.args.options.now (g.S.Held.seen c.args.site.now) (g.S.Held.seen c.open_for_agent.new.site) (g.S.Held.seen c.agent-ran.new.site) (g.O.Sink.seen c.args.output.now) (g.O.Sink.seen c.agent-ran.new.sink)
    c.in-Ok.database c.agent-ran.new.db c.in-Ok.ensures.opened
    c.agent-ran.result c.agent-ran.ensures.ran

pub returns-in-Err-clause-stopped : goal.returns-in-Err-clause-stopped
returns-in-Err-clause-stopped g c = λ input. agent_unopened c.args.name.now c.args.mail.now c.args.options.now (g.S.Held.seen c.args.site.now) (g.S.Held.seen c.open_for_agent.new.site) input (g.O.Sink.seen c.args.output.now)
    c.in-Err.fault c.open_for_agent.ensures.untouched c.open_for_agent.ensures.stays c.in-Err.ensures.cause

pub returns-in-Err-clause-tried : goal.returns-in-Err-clause-tried
returns-in-Err-clause-tried g c = tried_for_history c.args.name.now c.args.mail.now (g.S.Held.seen c.args.site.now) (g.S.Held.seen c.open_for_agent.new.site) c.open_for_agent.ensures.tried
