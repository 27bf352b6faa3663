use Rattle.sr_world_runs.proofs.AgentSteps.{steps_from_open}
use Rattle.sr_world_runs.proofs.agents.agent.Goals as goal

pub returns-clause-steps : goal.returns-clause-steps
returns-clause-steps g c = λ w publisher told. steps_from_open w publisher c.args.options.now c.args.db.now c.agent.new.db (g.S.Held.seen c.args.site.now) (g.S.Held.seen c.agent.new.site)
    (g.O.Sink.seen c.args.sink.now) (g.O.Sink.seen c.agent.new.sink) c.agent.result told (g.S.Held.read_is_image c.args.site.now told) (c.requires.stands told) c.agent.ensures.ran
