use Rattle.dbremote_command.proofs.Keeping.{script_kept}
use Rattle.dbremote_command.proofs.running.run_on.Goals as goal

pub returns-in-Ok-clause-attached : goal.returns-in-Ok-clause-attached
returns-in-Ok-clause-attached g c = c.run_script.ensures.ran.reached.attached

pub returns-in-Ok-clause-kept : goal.returns-in-Ok-clause-kept
returns-in-Ok-clause-kept g c =
    script_kept c.args.database.now c.run_script.new.db (g.S.Held.seen c.args.site.now) (g.S.Held.seen c.run_script.new.site) (g.O.Sink.seen c.args.output.now) (g.O.Sink.seen c.run_script.new.sink) c.args.script.now
    c.in-Ok.field-0 c.in-Ok.ensures.ran c.requires.stands

pub returns-in-Err-clause-attached : goal.returns-in-Err-clause-attached
returns-in-Err-clause-attached g c = c.run_script.ensures.ran.reached.attached
