use Rattle.dbremote_command.proofs.Keeping.{not_attached, opened_still, has_still}
use Rattle.std.proofs.Common.{true}
use Rattle.dbremote_command.proofs.Opened.{tried_refused, tried_still, untouched_refused, untouched_still}
use Rattle.dbremote_command.proofs.running.go_on.Goals as goal

pub returns-in-Err-clause-untouched : goal.returns-in-Err-clause-untouched
returns-in-Err-clause-untouched g c = untouched_refused c.args.name.now c.args.mail.now (g.S.Held.seen c.args.site.now) (g.S.Held.seen c.attach.new.site) c.in-Err.ensures.attaches

pub returns-in-Ok-clause-opened : goal.returns-in-Ok-clause-opened
returns-in-Ok-clause-opened g c = opened_still c.args.name.now c.args.mail.now (g.S.Held.seen c.args.site.now) (g.S.Held.seen c.attach.new.site) c.args.database c.in-Ok.ensures.attaches c.requires.kept c.in-Ok.ensures.steady

pub returns-in-Ok-clause-stands : goal.returns-in-Ok-clause-stands
returns-in-Ok-clause-stands g c = has_still c.args.name.now c.args.mail.now (g.S.Held.seen c.args.site.now) (g.S.Held.seen c.attach.new.site) c.args.database c.in-Ok.ensures.attaches c.requires.kept

pub returns-in-Ok-clause-untouched : goal.returns-in-Ok-clause-untouched
returns-in-Ok-clause-untouched g c = untouched_still c.args.name.now c.args.mail.now true (g.S.Held.seen c.args.site.now) (g.S.Held.seen c.attach.new.site) c.in-Ok.ensures.attaches

pub returns-in-Ok-clause-ready : goal.returns-in-Ok-clause-ready
returns-in-Ok-clause-ready g c = (c.requires.kept.usable, c.requires.kept.pending)

pub returns-in-Ok-clause-tried : goal.returns-in-Ok-clause-tried
returns-in-Ok-clause-tried g c = tried_still c.args.name.now c.args.mail.now (g.S.Held.seen c.args.site.now) (g.S.Held.seen c.attach.new.site) c.in-Ok.ensures.attaches

pub returns-in-Ok-clause-stays : goal.returns-in-Ok-clause-stays
returns-in-Ok-clause-stays g c = c.in-Ok.ensures.attaches.stays

pub returns-in-Err-clause-tried : goal.returns-in-Err-clause-tried
returns-in-Err-clause-tried g c = tried_refused c.args.name.now c.args.mail.now (g.S.Held.seen c.args.site.now) (g.S.Held.seen c.attach.new.site) c.in-Err.ensures.attaches

pub returns-in-Err-clause-stays : goal.returns-in-Err-clause-stays
returns-in-Err-clause-stays g c = c.in-Err.ensures.attaches.stays

pub returns-in-Err-clause-cause : goal.returns-in-Err-clause-cause
returns-in-Err-clause-cause g c = not_attached c.args.name.now c.args.mail.now (g.S.Held.seen c.args.site.now) (g.S.Held.seen c.attach.new.site) c.in-Err.ensures.attaches c.in-Err.fault c.in-Err.ensures.cause
