use Rattle.dbremote_command.proofs.Ended.{sql_done, sql_ended}
use Rattle.dbremote_command.proofs.commands.command_sql.Goals as goal

pub returns-in-Ok-clause-ran : goal.returns-in-Ok-clause-ran
returns-in-Ok-clause-ran g c =
    sql_done c.args.name.now (g.S.Held.seen c.args.site.now) (g.S.Held.seen c.run_sql.new.site) (g.I.Source.seen c.args.input.now) (g.I.Source.seen c.run_sql.new.input)
    (g.O.Sink.seen c.args.output.now) (g.O.Sink.seen c.run_sql.new.output) c.run_sql.ensures.tried c.run_sql.ensures.stays c.in-Ok.ensures.done

pub returns-in-Err-clause-ran : goal.returns-in-Err-clause-ran
returns-in-Err-clause-ran g c =
    sql_ended c.args.name.now (g.S.Held.seen c.args.site.now) (g.S.Held.seen c.run_sql.new.site) (g.I.Source.seen c.args.input.now) (g.I.Source.seen c.run_sql.new.input)
    (g.O.Sink.seen c.args.output.now) (g.O.Sink.seen c.tell.new.output) c.run_sql.ensures.tried c.run_sql.ensures.stays c.in-Err.fault (g.O.Sink.seen c.run_sql.new.output) c.tell.result c.in-Err.ensures.stopped c.tell.ensures.told
