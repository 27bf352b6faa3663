use Rattle.dbremote_command.proofs.Ended.{show_done, show_ended}
use Rattle.dbremote_command.proofs.commands.command_show.Goals as goal

pub returns-in-Ok-clause-ran : goal.returns-in-Ok-clause-ran
returns-in-Ok-clause-ran g c = λ input.
    show_done c.args.name.now (g.S.Held.seen c.args.site.now) (g.S.Held.seen c.show.new.site) input (g.O.Sink.seen c.args.output.now) (g.O.Sink.seen c.show.new.output)
    c.show.ensures.tried c.show.ensures.stays c.show.ensures.untouched c.in-Ok.ensures.shown

pub returns-in-Err-clause-ran : goal.returns-in-Err-clause-ran
returns-in-Err-clause-ran g c = λ input.
    show_ended c.args.name.now (g.S.Held.seen c.args.site.now) (g.S.Held.seen c.show.new.site) input (g.O.Sink.seen c.args.output.now) (g.O.Sink.seen c.tell.new.output)
    c.show.ensures.tried c.show.ensures.stays c.show.ensures.untouched c.in-Err.fault (g.O.Sink.seen c.show.new.output) c.tell.result c.in-Err.ensures.cause c.tell.ensures.told
