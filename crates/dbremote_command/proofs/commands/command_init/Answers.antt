use Rattle.dbremote_command.proofs.Ended.{init_made, init_ended}
use Rattle.dbremote_command.proofs.commands.command_init.Goals as goal

pub returns-in-Ok-clause-ran : goal.returns-in-Ok-clause-ran
returns-in-Ok-clause-ran g c = λ input.
    init_made c.args.name.now c.args.user.now (g.S.Held.seen c.args.site.now) (g.S.Held.seen c.make.new.site) input (g.O.Sink.seen c.args.output.now) (g.O.Sink.seen c.make.new.output)
    c.make.ensures.tried c.make.ensures.stays c.make.ensures.guarded c.in-Ok.ensures.made c.in-Ok.ensures.said c.in-Ok.ensures.steady

pub returns-in-Err-clause-ran : goal.returns-in-Err-clause-ran
returns-in-Err-clause-ran g c = λ input.
    init_ended c.args.name.now c.args.user.now (g.S.Held.seen c.args.site.now) (g.S.Held.seen c.make.new.site) input (g.O.Sink.seen c.args.output.now) (g.O.Sink.seen c.tell.new.output)
    c.make.ensures.tried c.make.ensures.stays c.make.ensures.guarded c.in-Err.fault (g.O.Sink.seen c.make.new.output) c.tell.result c.in-Err.ensures.cause c.tell.ensures.told
