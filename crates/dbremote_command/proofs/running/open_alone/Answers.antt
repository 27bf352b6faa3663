use Rattle.dbremote_command.proofs.Opened.{tried_alone}
use Rattle.dbremote_command.proofs.running.open_alone.Goals as goal

pub returns-clause-tried : goal.returns-clause-tried
returns-clause-tried g c = tried_alone c.args.name.now c.args.no_mail.now (g.S.Held.seen c.args.site.now) (g.S.Held.seen c.open.new.site) c.requires.no_mail c.open.ensures.tried
