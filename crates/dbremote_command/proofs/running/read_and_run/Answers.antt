use Rattle.dbremote_command.specs.Outside.{outside}
use Rattle.dbremote_command.specs.Running.{Stopped}
use Rattle.dbremote_command.specs.Inner.Steps.{RanToFault}
use Rattle.dbremote_command.proofs.Scripts.{on_ok, if_err, stopped_read, ran_whole, stopped_after}
use Rattle.dbremote_command.proofs.running.read_and_run.Goals as goal

pub returns-in-Ok-clause-done : goal.returns-in-Ok-clause-done
returns-in-Ok-clause-done g c = λ name before opened. on_ok c.run_on-ran.result
    (ran_whole name before (g.S.Held.seen c.args.site.now) (g.S.Held.seen c.run_on-ran.new.site) (g.I.Source.seen c.args.input.now) (g.I.Source.seen c.read_script.new.input)
    (g.O.Sink.seen c.args.output.now) (g.O.Sink.seen c.run_on-ran.new.output) c.args.database.now c.run_on-ran.new.database c.in-Ok.script opened c.in-Ok.ensures.script)
    c.run_on-ran.ensures.done

pub returns-in-Ok-clause-stopped : goal.returns-in-Ok-clause-stopped
returns-in-Ok-clause-stopped g c = λ name before opened.
    if_err (RanToFault c.args.database.now c.run_on-ran.new.database (g.S.Held.seen c.args.site.now) (g.S.Held.seen c.run_on-ran.new.site) (g.O.Sink.seen c.args.output.now) (g.O.Sink.seen c.run_on-ran.new.output) c.in-Ok.script)
    (Stopped name (outside before (g.I.Source.seen c.args.input.now) (g.O.Sink.seen c.args.output.now)) (outside (g.S.Held.seen c.run_on-ran.new.site) (g.I.Source.seen c.read_script.new.input) (g.O.Sink.seen c.run_on-ran.new.output)))
    c.run_on-ran.result
    (λ fault. stopped_after name before (g.S.Held.seen c.args.site.now) (g.S.Held.seen c.run_on-ran.new.site) (g.I.Source.seen c.args.input.now) (g.I.Source.seen c.read_script.new.input)
    (g.O.Sink.seen c.args.output.now) (g.O.Sink.seen c.run_on-ran.new.output) c.args.database.now c.run_on-ran.new.database c.in-Ok.script fault opened c.in-Ok.ensures.script)
    c.run_on-ran.ensures.stopped

pub returns-in-Err-clause-stopped : goal.returns-in-Err-clause-stopped
returns-in-Err-clause-stopped g c = λ name before opened.
    stopped_read name before (g.S.Held.seen c.args.site.now) (g.I.Source.seen c.args.input.now) (g.I.Source.seen c.read_script.new.input) (g.O.Sink.seen c.args.output.now) c.args.database.now c.in-Err.fault opened c.in-Err.ensures.cause
