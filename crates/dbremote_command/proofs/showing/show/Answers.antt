use Rattle.dbremote_command.proofs.Keeping.{kept_in, still_kept}
use Rattle.dbremote_command.proofs.Shown.{has_shown, show_cause}
use Rattle.dbremote_command.proofs.showing.show.Goals as goal

pub returns-in-Ok-told-clause-shown : goal.returns-in-Ok-told-clause-shown
returns-in-Ok-told-clause-shown g c = has_shown c.args.name.now (g.S.Held.seen c.args.site.now) (g.S.Held.seen c.open_alone.new.site) (g.O.Sink.seen c.args.output.now) (g.O.Sink.seen c.tell_of-told.new.output)
    c.in-Ok.database c.in-Ok.ensures.opened c.in-Ok.ensures.ready.1 c.in-Ok-told.ensures.said c.in-Ok-told.ensures.steady

pub returns-in-Ok-told-clause-kept : goal.returns-in-Ok-told-clause-kept
returns-in-Ok-told-clause-kept g c = kept_in c.keep.new.kept c.in-Ok.database (g.S.Held.seen c.open_alone.new.site) c.keep.ensures.kept
    (still_kept c.in-Ok.database (g.S.Held.seen c.open_alone.new.site) c.in-Ok.ensures.ready c.in-Ok.ensures.stands)

pub returns-in-Err-told-clause-cause : goal.returns-in-Err-told-clause-cause
returns-in-Err-told-clause-cause g c = show_cause c.args.name.now (g.S.Held.seen c.args.site.now) (g.S.Held.seen c.open_alone.new.site) (g.O.Sink.seen c.args.output.now) (g.O.Sink.seen c.tell_of-told.new.output)
    c.in-Ok.database c.in-Err-told.fault c.in-Ok.ensures.opened c.in-Ok.ensures.ready.1 c.in-Err-told.ensures.cause
