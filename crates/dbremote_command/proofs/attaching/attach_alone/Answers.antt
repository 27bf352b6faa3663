use Rattle.dbremote_command.proofs.Opened.{attaches_alone}
use Rattle.dbremote_command.proofs.attaching.attach_alone.Goals as goal

pub returns-clause-attaches : goal.returns-clause-attaches
returns-clause-attaches g c = attaches_alone c.args.name.now c.args.no_mail.now _ (g.S.Held.seen c.args.site.now) (g.S.Held.seen c.attach.new.site) c.requires.no_mail c.attach.ensures.attaches
